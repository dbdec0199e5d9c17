-- How what the office keeps is tied to the history: each index is what the definitions say of the entries so far.
use Rattle.std.specs.Prelude.{◌≡◌, ◌≤◌, ℕ, length, Bool, false, List, Option, option_map, slice_get}
use Rattle.std.specs.Coded.{Coded-set, coded_ℕ, coded_list, coded_option, →_prop}
use Rattle.std.proofs.Props.{props}
use Rattle.jolie_trees.specs.Limits.{in_u64}
use Rattle.post_box.specs.View.{box_of}
use Rattle.correlation.specs.View.{sessions_of}
use Rattle.reqresp_book.specs.View.{origin_of}
use Rattle.office_core.specs.declared.outgoing.OutKind.TheVariants as kind
use Rattle.office_core.specs.declared.history.Entry.{Entry}
use Rattle.office_core.specs.Accepted.{past_of}
use Rattle.office_core.specs.Limits.{Setting}
use Rattle.office_core.specs.contracts.message.Message as message_row
use Rattle.office_core.specs.contracts.message.Call as call_row
use Rattle.post_box.specs.contracts.mailbox.Waiting as waiting_row
use Rattle.reqresp_book.specs.contracts.origin.Origin as origin_row
use Rattle.reqresp_book.specs.contracts.place.Standing as standing_row
use Rattle.correlation.specs.contracts.session.Session as keyed_row
use Rattle.behaviour_tree.specs.contracts.words.Outcome as outcome_row
use Rattle.office_plain.specs.contracts.kept.SessionRow as session_row
use Rattle.office_core.specs.declared.message.Message.{Message}
use Rattle.office_core.specs.Past.{Past}
use Rattle.office_core.specs.Sessions.{has_ended}
use Rattle.office_core.specs.Weights.{total_weight}
use Rattle.office_core.specs.Calls.{calls}
use Rattle.office_plain.specs.declared.kept.Kept.{Kept}
use Rattle.office_plain.specs.Waits.{waiting_for}
use Rattle.office_plain.specs.Stands.{StandsSo}
use Rattle.office_plain.specs.Kept.{row_of, places_of, unfetched, brought_for, keyed_sessions}

-- what is kept is what happened
pub record Ties (w : Setting) (past : Past) (k : Kept) : Type 0 where
  pub messages : k.messages ≡ past.messages
  pub few : length past.messages ≤ w.limits.messages
  pub weight : k.weight ≡ in_u64 (total_weight past)
  pub sessions : (s : ℕ) → slice_get k.sessions s ≡ row_of w past s
  pub places : (s : ℕ) → slice_get k.places.items s ≡ places_of w past s
  pub boxes : (s : ℕ) → has_ended past s ≡ false → box_of k.boxes s ≡ waiting_for past s
  pub origins : (n : ℕ) → origin_of k.book n ≡ option_map (λ (m : Message). m.origin) (slice_get past.messages n)
  pub standings : StandsSo w past k.book
  pub keys : sessions_of k.rows ≡ keyed_sessions w past
  pub sent : k.calls ≡ calls past
  pub outcomes : (i : ℕ) → slice_get k.outcomes i ≡ option_map (brought_for past) (slice_get (calls past) i)
  pub console : k.console ≡ unfetched w past kind.Console
  pub remote : k.remote ≡ unfetched w past kind.Remote

-- what is kept is tied to the history in one way at most: so an office can keep that it is
pub Ties-prop :
    (w : Setting) (h : List Entry) (k : Kept) (spent : Bool) → IsProp (spent ≡ false → Ties w (past_of w h) k)
Ties-prop w h k spent =
    →_prop
    (Prim.hlevel (
      props,
      Coded-set (coded_list message_row.the_row.coded),
      Coded-set (coded_option session_row.the_row.coded),
      Coded-set (coded_option (coded_list coded_ℕ)),
      Coded-set (coded_list waiting_row.the_row.coded),
      Coded-set (coded_option origin_row.the_row.coded),
      Coded-set (coded_option standing_row.the_row.coded),
      Coded-set (coded_list keyed_row.the_row.coded),
      Coded-set (coded_list call_row.the_row.coded),
      Coded-set (coded_option (coded_option outcome_row.the_row.coded)),
    ))
