-- What is known of a session that takes messages and answers them.
use Rattle.std.specs.Prelude.{◌≡◌, ℕ, ◌≤◌, true, false, length, Some}
use Rattle.std.specs.Coded.{Coded-set, coded_list, coded_option, coded_ℕ}
use Rattle.std.specs.List.{list_any}
use Rattle.std.proofs.Props.{props}
use Rattle.behaviour_tree.specs.Data.{ProgramParts}
use Rattle.behaviour_tree.specs.declared.words.Need.TheVariants as need
use Rattle.behaviour_tree.specs.declared.words.Outcome.{Outcome}
use Rattle.office_core.specs.declared.post.Mail.{Mail}
use Rattle.office_core.specs.contracts.history.Entry as entry_row
use Rattle.office_core.specs.Limits.{run_of}
use Rattle.office_core.specs.Sessions.{adopts, ends, service_of}
use Rattle.office_sharing.specs.declared.view.View.{View}
use Rattle.office_sharing.specs.Numbers.{entries_by}
use Rattle.office_turn.specs.Calls.{past_at}
use Rattle.session_turn.specs.Asking.{answers_message, has_response}
use Rattle.session_shared_turns.specs.Stays.{MayAsk}

-- a pass of a session of service d, which was adopted and did not end, and answered no message from this number on
pub record IsServer (parts : ProgramParts) (d next : ℕ) (v : View) : Type 0 where
  pub calls : v.may_call ≡ true
  pub kept : length v.kept ≡ 0
  pub makes : v.makes ≡ false
  pub own : entries_by v.number v.seen ≡ v.mine
  pub adopted : list_any (adopts v.number) v.mine ≡ true
  pub lives : list_any (ends v.number) v.mine ≡ false
  pub service : service_of (run_of parts) (past_at parts v.seen) v.number ≡ Some d
  pub answered : (n : ℕ) → next ≤ n → list_any (answers_message v.number n) v.mine ≡ false

-- that has one proof at most: so a server can keep it
pub IsServer-prop : (parts : ProgramParts) (d next : ℕ) (v : View) → IsProp (IsServer parts d next v)
IsServer-prop parts d next v =
    Prim.hlevel (props, Coded-set (coded_list entry_row.the_row.coded), Coded-set (coded_option coded_ℕ))

-- A message that was taken may be answered, where its number is not below the next and its operation has a response.
abbrev pub MayAnswer : ProgramParts → ℕ → ℕ → View → Mail → Type 0
MayAnswer parts d next v mail =
    next ≤ mail.message → has_response (run_of parts) d mail.op ≡ true → (o : Outcome)
    → MayAsk parts v (need.Reply mail.message o)
