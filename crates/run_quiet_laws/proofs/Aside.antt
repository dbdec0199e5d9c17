-- What an adoption, a collect, a fetch and a close leave: what waits for sessions, their answers, and who lives.
use Rattle.std.proofs.Common.{◌≡◌, ℕ, Bool, true, false, not, ◌&&◌, List, [], ◌∷◌, ◌++◌, Option, None, Some, refl, ap, ◌∙◌, slice_get}
use Rattle.std.specs.Prelude.{nat_eq, is_some, if◌then◌else◌, option_and_then}
use Rattle.std.specs.List.{list_any, filter}
use Rattle.std.proofs.lemmas.Bool.{false≢true, or_left}
use Rattle.behaviour_tree.specs.declared.words.Need.{Need}
use Rattle.behaviour_tree.specs.declared.words.Need.TheVariants as need
use Rattle.behaviour_tree.specs.declared.words.Outcome.{Outcome}
use Rattle.behaviour_tree.specs.declared.words.Outcome.TheVariants as outcome
use Rattle.behaviour_tree.specs.declared.words.Reason.TheVariants as reason
use Rattle.office_core.specs.declared.history.Act.{Act}
use Rattle.office_core.specs.declared.history.Act.TheVariants as act
use Rattle.office_core.specs.declared.history.Entry.{Entry}
use Rattle.office_core.specs.declared.history.Placed.{Placed}
use Rattle.office_core.specs.declared.history.Placed.TheVariants as at
use Rattle.office_core.specs.declared.message.Call.{Call}
use Rattle.office_core.specs.declared.message.Message.{Message}
use Rattle.office_core.specs.Limits.{Setting}
use Rattle.office_core.specs.Past.{Past, stops}
use Rattle.office_core.specs.Sessions.{adopts, ends, is_live, service_of, was_adopted}
use Rattle.office_core.specs.Boxes.{numbers_without, queue, taken_in}
use Rattle.office_core.specs.Keys.{first}
use Rattle.office_core.specs.Accepted.{accepted_in, past_of, with_message}
use Rattle.office_core.specs.Answers.{answers, answers_of, at_once, by_session, by_stop, is_request, reply_in}
use Rattle.office_core.specs.Calls.{brings, brought_in, call, calls, goes_out, is_call, outcome_by, result, sent_in}
use Rattle.office_core.proofs.Longer.{given_same, past_more, some_more, some_same}
use Rattle.run_record.specs.Quiet.{is_given, outstanding}

-- ---- such an entry

-- an entry that hands no session anything: an adoption, a collect, a fetch, a close
abbrev pub is_aside : Entry → Bool
is_aside e = elim e.act [
  | act.Adopt d ↦ true
  | act.Collect n o ↦ true
  | act.Fetch s k ↦ true
  | act.Close ↦ true
  | _ ↦ false
]

-- What it is not: it accepts, sends, takes and answers nothing, ends nothing, and brings nothing from outside.
pub record Leaves (e : Entry) : Type 0 where
  pub accepted : (w : Setting) (past : Past) → accepted_in w past e ≡ None
  pub sent : sent_in e ≡ None
  pub taken : taken_in e ≡ None
  pub replied : (n : ℕ) → reply_in n e ≡ None
  pub ended : (s : ℕ) → ends s e ≡ false
  pub stopped : stops e ≡ false
  pub received : (c : Call) → brought_in c e ≡ None

leaves_by : (n : ℕ) (a : Act) → is_aside (record { actor = n; act = a }) ≡ true → Leaves (record { actor = n; act = a })
leaves_by n (act.Adopt d) h = record {
  accepted = λ w past. refl;
  sent = refl;
  taken = refl;
  replied = λ m. refl;
  ended = λ s. refl;
  stopped = refl;
  received = λ c. refl;
}
leaves_by n (act.Collect i o) h = record {
  accepted = λ w past. refl;
  sent = refl;
  taken = refl;
  replied = λ m. refl;
  ended = λ s. refl;
  stopped = refl;
  received = λ c. refl;
}
leaves_by n (act.Fetch s k) h = record {
  accepted = λ w past. refl;
  sent = refl;
  taken = refl;
  replied = λ m. refl;
  ended = λ t. refl;
  stopped = refl;
  received = λ c. refl;
}
leaves_by n act.Close h = record {
  accepted = λ w past. refl;
  sent = refl;
  taken = refl;
  replied = λ m. refl;
  ended = λ s. refl;
  stopped = refl;
  received = λ c. refl;
}
leaves_by n a h = absurd (false≢true h)

pub leaves : (e : Entry) → is_aside e ≡ true → Leaves e
leaves e h = leaves_by e.actor e.act h

-- ---- what happened then

-- an entry more, and no message
abbrev pub with_one : Past → Entry → Past
with_one past e = record { entries = past.entries ++ e ∷ []; messages = past.messages }

abbrev with_some : Past → Entry → Option Message → Past
with_some past e o = record { entries = past.entries ++ e ∷ []; messages = with_message past.messages o }

-- an entry that accepts no message
pub past_unsent : (w : Setting) (h : List Entry) (e : Entry) → accepted_in w (past_of w h) e ≡ None
    → past_of w (h ++ e ∷ []) ≡ with_one (past_of w h) e
past_unsent w h e none = past_more w h e ∙ ap (with_some (past_of w h) e) none

module _ (w : Setting) (past : Past) (e : Entry) (l : Leaves e) where
  live_same : (s : ℕ) → is_live w (with_one past e) s ≡ is_live w past s
  live_same s = ap (λ b. is_some (service_of w past s) && not b) (some_same w past e (ends s) (l.ended s))

  queue_same : (s : ℕ) (ops : List ℕ) → queue (with_one past e) s ops ≡ queue past s ops
  queue_same s ops =
      ap
      (λ (gone : List ℕ). numbers_without gone
      (λ (m : Message). nat_eq s m.session && list_any (nat_eq m.op) ops) 0 past.messages)
      (given_same w past e taken_in l.taken)

  -- ---- answers

  by_stop_same : (m : Message) (os : List Outcome) → by_stop w (with_one past e) m os ≡ by_stop w past m os
  by_stop_same m [] =
      ap (λ b. if is_request w m && b then outcome.Refused reason.Stopped ∷ [] else [])
      (some_same w past e stops l.stopped)
  by_stop_same m (o ∷ os) = refl

  abbrev left_by : Bool → Bool → Bool → List Outcome
  left_by request over gone = if request && over && not gone then outcome.Refused reason.SessionEnded ∷ [] else []

  by_session_same : (n : ℕ) (m : Message) → by_session w (with_one past e) n m ≡ by_session w past n m
  by_session_same n m =
      λ i. given_same w past e (reply_in n) (l.replied n) i
      ++ left_by (is_request w m) (some_same w past e (ends m.session) (l.ended m.session) i)
      (list_any (nat_eq n) (given_same w past e taken_in l.taken i))

  answers_of_same : (n : ℕ) (m : Message) → answers_of w (with_one past e) n m ≡ answers_of w past n m
  answers_of_same n m =
      ap (λ os. at_once w m ++ os ++ by_stop w (with_one past e) m os) (by_session_same n m)
      ∙ ap (λ os. at_once w m ++ by_session w past n m ++ os) (by_stop_same m (by_session w past n m))

  answers_same : (n : ℕ) → answers w (with_one past e) n ≡ answers w past n
  answers_same n = go (slice_get past.messages n)
    where
      go : (o : Option Message)
          → ◌≡◌ {A = List Outcome} (elim o [ None ↦ [] | Some m ↦ answers_of w (with_one past e) n m ])
          (elim o [ None ↦ [] | Some m ↦ answers_of w past n m ])
      go None = refl
      go (Some m) = answers_of_same n m

  -- ---- calls

  calls_same : calls (with_one past e) ≡ calls past
  calls_same = given_same w past e sent_in l.sent

  outcome_same : (c : Call) (p : Placed) → outcome_by w (with_one past e) c p ≡ outcome_by w past c p
  outcome_same c at.Out = ap first (given_same w past e (brought_in c) (l.received c))
  outcome_same c (at.Refused why) = refl
  outcome_same c (at.At n) = ap first (answers_same n)

  result_same : (s k : ℕ) → result w (with_one past e) s k ≡ result w past s k
  result_same s k =
      ap
      (λ (cs : List Call). option_and_then (λ (c : Call). outcome_by w (with_one past e) c c.placed)
      (first (filter (is_call s k) cs))) calls_same
      ∙ go (call past s k)
    where
      go : (o : Option Call)
          → option_and_then (λ (c : Call). outcome_by w (with_one past e) c c.placed) o
          ≡ option_and_then (λ (c : Call). outcome_by w past c c.placed) o
      go None = refl
      go (Some c) = outcome_same c c.placed

  given_still : (s : ℕ) (n : Need) → is_given w (with_one past e) s n ≡ is_given w past s n
  given_still s (need.Take ops) = ap (λ (q : List ℕ). is_some (first q)) (queue_same s ops)
  given_still s (need.Answer k) = ap is_some (result_same s k)
  given_still s n = refl

  outstanding_same : outstanding (with_one past e) ≡ outstanding past
  outstanding_same =
      λ i. filter (λ c. goes_out c && not (some_same w past e (brings c) (ap is_some (l.received c)) i)) (calls_same i)

  adopted_still : (s : ℕ) → was_adopted past s ≡ true → was_adopted (with_one past e) s ≡ true
  adopted_still s h = some_more w past e (adopts s) ∙ or_left (was_adopted past s) (adopts s e) h

-- ---- histories with such an entry more

module _ (w : Setting) (h : List Entry) {e : Entry} (l : Leaves e) where
  then_one_more : past_of w (h ++ e ∷ []) ≡ with_one (past_of w h) e
  then_one_more = past_unsent w h e (l.accepted w (past_of w h))

  -- who was born
  pub births_aside : (s : ℕ) → service_of w (past_of w (h ++ e ∷ [])) s ≡ service_of w (past_of w h) s
  births_aside s = ap (λ (p : Past). service_of w p s) then_one_more

  -- who lives
  pub live_aside : (s : ℕ) → is_live w (past_of w (h ++ e ∷ [])) s ≡ is_live w (past_of w h) s
  live_aside s = ap (λ (p : Past). is_live w p s) then_one_more ∙ live_same w (past_of w h) e l s

  -- what is there for a session
  pub given_aside : (s : ℕ) (n : Need) → is_given w (past_of w (h ++ e ∷ [])) s n ≡ is_given w (past_of w h) s n
  given_aside s n = ap (λ (p : Past). is_given w p s n) then_one_more ∙ given_still w (past_of w h) e l s n

  -- what was not received
  pub outstanding_aside : outstanding (past_of w (h ++ e ∷ [])) ≡ outstanding (past_of w h)
  outstanding_aside = ap outstanding then_one_more ∙ outstanding_same w (past_of w h) e l

  -- who was adopted
  pub adopted_aside : (s : ℕ) → was_adopted (past_of w h) s ≡ true → was_adopted (past_of w (h ++ e ∷ [])) s ≡ true
  adopted_aside s g = ap (λ (p : Past). was_adopted p s) then_one_more ∙ adopted_still w (past_of w h) e l s g
