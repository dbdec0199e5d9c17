-- Two laws of every run of a checked program, over its record: what a session answered before it ended, and whom the stop
-- answers.
use Rattle.std.specs.Prelude.{◌≡◌, ℕ, Bool, true, ◌||◌, List, [], ◌∷◌, nat_eq, Some, slice_get}
use Rattle.std.specs.List.{list_any}
use Rattle.behaviour_tree.specs.declared.words.Outcome.{Outcome}
use Rattle.behaviour_tree.specs.declared.words.Outcome.TheVariants as outcome
use Rattle.behaviour_tree.specs.declared.words.Reason.TheVariants as reason
use Rattle.behaviour_tree.specs.WellFormed.{is_well_formed}
use Rattle.office_core.specs.declared.history.Act.TheVariants as act
use Rattle.office_core.specs.declared.history.Entry.{Entry}
use Rattle.office_core.specs.declared.message.Message.{Message}
use Rattle.office_core.specs.Limits.{Setting}
use Rattle.office_core.specs.Past.{Past}
use Rattle.office_core.specs.Sessions.{has_ended, is_live}
use Rattle.office_core.specs.Boxes.{box, took}
use Rattle.office_core.specs.Accepted.{accepted, past_of}
use Rattle.office_core.specs.Answers.{answers, by_session, by_stop, is_request}
use Rattle.run_record.specs.declared.record.Record.{Record}
use Rattle.run_record.specs.Quiet.{before_stop}
use Rattle.run_record.specs.Run.{Hands, IsRun}

-- Session s answered message n: an entry of it has the answer, and the message has no other.
pub record IsAnsweredBy (w : Setting) (h : List Entry) (s n : ℕ) : Type 0 where
  pub answer : Outcome
  pub place : ℕ
  pub there : slice_get h place ≡ Some (record { actor = s; act = act.Reply n answer })
  pub only : answers w (past_of w h) n ≡ answer ∷ []

-- A request that its session took, and whose session ended, was answered by that session.
abbrev pub AnswersBeforeEnd : Type 0
AnswersBeforeEnd =
    (w : Setting) (budget : ℕ) (hands : Hands) (notes_failed : Bool) (run : Record) (n : ℕ) (m : Message)
    → let h = run.history.entries.items in
    is_well_formed w.parts ≡ true → IsRun w budget hands notes_failed run
    → slice_get (accepted w h) n ≡ Some m → is_request w m ≡ true
    → took (past_of w h) m.session n ≡ true → has_ended (past_of w h) m.session ≡ true
    → IsAnsweredBy w h m.session n

-- a session has a message: it took it, or the message waits in its box
abbrev pub has_message : Past → ℕ → ℕ → Bool
has_message past s n = took past s n || list_any (nat_eq n) (box past s)

-- Whose request is answered *stopped* by the stop asked a session that lived until then, which had taken the request or
-- still had it in its box.
abbrev pub StopsLive : Type 0
StopsLive =
    (w : Setting) (budget : ℕ) (hands : Hands) (notes_failed : Bool) (run : Record) (n : ℕ) (m : Message)
    → let h = run.history.entries.items in
    let before = past_of w (before_stop h) in
    is_well_formed w.parts ≡ true → IsRun w budget hands notes_failed run
    → slice_get (accepted w h) n ≡ Some m
    → by_stop w (past_of w h) m (by_session w (past_of w h) n m) ≡ outcome.Refused reason.Stopped ∷ []
    → (is_live w before m.session ≡ true) × (has_message before m.session n ≡ true)
