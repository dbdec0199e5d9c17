-- A message that was handed in goes its way; and a post: its entry adds nothing to what its message made of what is kept.
use Rattle.std.proofs.Common.{◌≡◌, ℕ, Bool, true, false, length, refl, sym, ap, ◌∙◌, Option, None, Some, Result, Ok, Err, true≢false}
use Rattle.std.specs.Prelude.{nat_le, if◌then◌else◌, option_and_then}
use Rattle.jolie_trees.specs.Limits.{in_u64}
use Rattle.behaviour_tree.specs.Conforms.{conforms}
use Rattle.behaviour_tree.specs.declared.words.Reason.{Reason}
use Rattle.behaviour_tree.specs.declared.words.Reason.TheVariants as reason
use Rattle.reqresp_book.specs.declared.origin.Origin.{Origin}
use Rattle.reqresp_book.specs.declared.origin.Origin.TheVariants as origin
use Rattle.office_core.specs.declared.history.Act.TheVariants as act
use Rattle.office_core.specs.declared.history.Entry.{Entry}
use Rattle.office_core.specs.declared.history.Placed.{Placed}
use Rattle.office_core.specs.declared.history.Placed.TheVariants as at
use Rattle.office_core.specs.declared.outgoing.OutKind.TheVariants as kind
use Rattle.office_core.specs.declared.post.Posted.{Posted}
use Rattle.office_core.specs.declared.post.PostReply.{PostReply}
use Rattle.office_core.specs.declared.post.PostReply.TheVariants as answer
use Rattle.office_core.specs.Limits.{Setting, first_worker}
use Rattle.office_core.specs.Past.{Past, is_running}
use Rattle.office_core.specs.Sessions.{births, ends}
use Rattle.office_core.specs.Route.{Way, to_session, to_new, refused_for, Asked, asked_of, is_full, to_one, admitted, route, post_reply, send_reply}
use Rattle.office_core.specs.Accepted.{accepted_in, message_to, message_on, message_of, then_one}
use Rattle.office_core.specs.Legal.{is_at_work, IsLegalEntry}
use Rattle.office_core.proofs.Longer.{some_same}
use Rattle.office_plain.specs.declared.kept.Kept.{Kept}
use Rattle.office_plain.specs.Accepting.{placed_as, with_accepted}
use Rattle.office_plain.specs.Entries.{entry}
use Rattle.office_plain.specs.Replies.{is_port}
use Rattle.office_plain.specs.Ties.{Ties}
use Rattle.office_plain.proofs.Acting.{left}
use Rattle.office_plain.proofs.Stays.{weight_stays, row_stays, places_stay, waiting_stays, answers_stay, standings_stay, keyed_sessions_stay, calls_stay, brought_stays, unfetched_stays}
use Rattle.office_plain.specs.Ways.{replied_as}

-- ---- the way of a message

-- whether a way leads to a session
abbrev pub leads : Way → Bool
leads way = elim way [ to_session s ↦ true | to_new ↦ true | refused_for why ↦ false ]

-- the way to a session, which a message starts or not
abbrev pub way_to : ℕ → Bool → Way
way_to s starts = if starts then to_new else to_session s

pub leads_to : (s : ℕ) (starts : Bool) → leads (way_to s starts) ≡ true
leads_to s true = refl
leads_to s false = refl

-- what a message asks for is there, and conforms, where its way leads to a session
pub asks : (w : Setting) (past : Past) (q : Posted) → leads (route w past q) ≡ true → asked_of w q ≡ None → ⊥
asks w past q h none = by (is_full w past q.value) h
  where
    by : (b : Bool) → leads (elim b [ true ↦ refused_for reason.RunFull | false ↦ admitted w past (asked_of w q) ]) ≡ true → ⊥
    by true g = true≢false (sym g)
    by false g = true≢false (sym g ∙ ap (λ a. leads (admitted w past a)) none)

pub conforming : (w : Setting) (past : Past) (q : Posted) (a : Asked) → leads (route w past q) ≡ true → asked_of w q ≡ Some a
    → conforms w.parts.types a.value a.operation.request ≡ true
conforming w past q a h asked = by (is_full w past q.value) h
  where
    by_type : (c : Bool) → leads (elim c [ false ↦ refused_for reason.NotConforming | true ↦ to_one w past a ]) ≡ true → c ≡ true
    by_type true g = refl
    by_type false g = absurd (true≢false (sym g))

    by : (b : Bool) → leads (elim b [ true ↦ refused_for reason.RunFull | false ↦ admitted w past (asked_of w q) ]) ≡ true
        → conforms w.parts.types a.value a.operation.request ≡ true
    by true g = absurd (true≢false (sym g))
    by false g = by_type (conforms w.parts.types a.value a.operation.request) (sym (ap (λ x. leads (admitted w past x)) asked) ∙ g)

-- the message that goes to a session; one that it starts has the next number
pub message_goes : (w : Setting) (past : Past) (from : Origin) (q : Posted) (a : Asked) (s : ℕ) (starts : Bool)
    → route w past q ≡ way_to s starts → (starts ≡ true → s ≡ length (births w past)) → asked_of w q ≡ Some a
    → message_of w past from q ≡ Some (message_to w from s starts a)
message_goes w past from q a s true goes next asked =
    ap (option_and_then (λ x. message_on w past from x (route w past q))) asked
    ∙ ap (message_on w past from a) goes
    ∙ ap (λ n. Some (message_to w from n true a)) (sym (next refl))
message_goes w past from q a s false goes next asked =
    ap (option_and_then (λ x. message_on w past from x (route w past q))) asked ∙ ap (message_on w past from a) goes

-- what is refused becomes no message
pub refused_none : (w : Setting) (past : Past) (from : Origin) (q : Posted) (why : Reason)
    → route w past q ≡ refused_for why → message_of w past from q ≡ None
refused_none w past from q why h =
    ap (λ way. option_and_then (λ a. message_on w past from a way) (asked_of w q)) h ∙ by (asked_of w q)
  where
    by : (g : Option Asked) → option_and_then (λ a. message_on w past from a (refused_for why)) g ≡ None
    by None = refl
    by (Some a) = refl

-- where a session's message went, as a post answers it
abbrev as_posted : Placed → PostReply
as_posted p = elim p [ at.At n ↦ answer.Accepted n | at.Refused why ↦ answer.Refused why | at.Out ↦ answer.Accepted 0 ]

-- a post answers as a send does
pub posted_reply : (past : Past) (way : Way) (r : Result ℕ Reason) → placed_as r ≡ send_reply past way → replied_as r ≡ post_reply past way
posted_reply past (to_session s) (Ok n) h = ap as_posted h
posted_reply past (to_session s) (Err e) h = ap as_posted h
posted_reply past to_new (Ok n) h = ap as_posted h
posted_reply past to_new (Err e) h = ap as_posted h
posted_reply past (refused_for why) (Ok n) h = ap as_posted h
posted_reply past (refused_for why) (Err e) h = ap as_posted h

-- what comes in at a port is no call of a session
pub not_port : (from : Origin) → is_port from ≡ true → ((j i : ℕ) → from ≡ origin.Port j i → ⊥) → ⊥
not_port (origin.Port j i) h never = never j i refl
not_port (origin.Session s k) h never = true≢false (sym h)

-- ---- the entry

-- a worker works while the run did not stop
pub works_runs : (past : Past) (actor : ℕ) → is_at_work past actor ≡ true → is_running past ≡ true
works_runs past actor h = left (is_running past) (nat_le first_worker actor) h

-- a post by a worker is legal, with the reply of the way that its message goes
pub legal_post : (w : Setting) (past : Past) (actor j i : ℕ) (q : Posted) (r : PostReply)
    → is_at_work past actor ≡ true → r ≡ post_reply past (route w past q)
    → IsLegalEntry w past (entry actor (act.Post j i q r))
legal_post w past actor j i q r works said =
    record { allowed = works; reply = ap (λ x. Some (act.Post j i q x)) (sym said) }

-- after the entry of a post what is kept is tied as it was with its message alone
pub ties_post : (w : Setting) (past : Past) (actor j i : ℕ) (q : Posted) (r : PostReply) (k : Kept)
    → Ties w (with_accepted past (accepted_in w past (entry actor (act.Post j i q r)))) k
    → Ties w (then_one w past (entry actor (act.Post j i q r))) k
ties_post w past actor j i q r k t =
    let e : Entry = entry actor (act.Post j i q r) in
    let come : Past = with_accepted past (accepted_in w past e) in
    record {
      messages = t.messages;
      few = t.few;
      weight = t.weight ∙ ap in_u64 (sym (weight_stays come e refl));
      sessions = λ u. t.sessions u ∙ sym (row_stays w come e u refl refl);
      places = λ u. t.places u ∙ sym (places_stay w come e u refl);
      boxes = λ u h. t.boxes u (sym (some_same w come e (ends u) refl) ∙ h) ∙ sym (waiting_stays w come e u refl);
      origins = t.origins;
      standings = standings_stay w come e k.book (λ n m g. answers_stay w come e n m refl refl refl refl) t.standings;
      keys = t.keys ∙ sym (keyed_sessions_stay w come e (λ u. refl) (λ u. refl));
      sent = t.sent ∙ sym (calls_stay w come e refl);
      outcomes = λ p. t.outcomes p ∙ sym (brought_stays w come e p refl (λ c. refl));
      console = t.console ∙ sym (unfetched_stays w come e kind.Console refl (λ c. refl));
      remote = t.remote ∙ sym (unfetched_stays w come e kind.Remote refl (λ c. refl));
    }
