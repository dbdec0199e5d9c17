-- What every run has, whatever its fronts are, and by what its status is caused.
use Rattle.std.specs.Prelude.{◌≡◌, ℕ, ◌+◌, ◌≤◌, Bool, true, false, ◌&&◌, ◌||◌, List, [], ◌∷◌}
use Rattle.std.specs.Prelude.{length, nat_eq, nat_le, nat_lt, Some, slice_get}
use Rattle.std.specs.List.{list_all, filter}
use Rattle.behaviour_tree.specs.declared.words.Event.{Event}
use Rattle.office_core.specs.declared.history.Entry.{Entry}
use Rattle.office_core.specs.Limits.{Setting, first_worker}
use Rattle.office_core.specs.Past.{some_entry, stops, closes}
use Rattle.office_core.specs.Accepted.{past_of}
use Rattle.office_core.specs.Legal.{IsLegal}
use Rattle.run_record.specs.declared.record.Record.{Record}
use Rattle.run_record.specs.Agrees.{HasSessions}
use Rattle.run_record.specs.Quiet.{CanAct, IsQuiet, before_stop, IsStill}
use Rattle.run_record.specs.Answered.{AnswersEach, stand_together}
use Rattle.run_record.specs.Collected.{AreCollected}

-- ---- who works

-- who works at a run: one worker alone, or so many of them and then the one that called them
pub data Hands : Type 0 where
  alone : Hands
  workers : ℕ → Hands

-- one of those who work: worker 0 alone; or a worker, or the caller, whose number is after theirs
abbrev pub is_hand : Hands → ℕ → Bool
is_hand alone actor = nat_eq actor first_worker
is_hand (workers n) actor = nat_le first_worker actor && nat_le actor (first_worker + n)

-- an entry is of a session, or of one of those who work
abbrev pub is_of_hand : Hands → Entry → Bool
is_of_hand hands e = nat_lt e.actor first_worker || is_hand hands e.actor

-- the last of entries is of a kind
abbrev pub ends_with : (Entry → Bool) → List Entry → Bool
ends_with is_it [] = false
ends_with is_it (e ∷ []) = is_it e
ends_with is_it (e ∷ f ∷ es) = ends_with is_it (f ∷ es)

-- one worker posts a posting in one piece; of more workers, each does so in what it did itself
abbrev pub ArePosted : Hands → List Entry → Type 0
ArePosted alone h = stand_together h ≡ true
ArePosted (workers n) h = (actor : ℕ) → stand_together (filter (λ e. nat_eq actor e.actor) h) ≡ true

-- ---- a run

-- The record of a run that came to its end: the history is legal, ended by a stop, and is of those who work at the
-- run; each session's events agree with it and keep to the budget; and each accepted message has exactly one answer.
-- Unless a note failed, nothing was left to do at the stop. For one worker it was so before each posting but the first,
-- whether a note failed or not; its input was closed right before the stop; and what it posted it collected.
pub record IsRun (w : Setting) (budget : ℕ) (hands : Hands) (notes_failed : Bool) (run : Record) : Type 0 where
  pub legal : IsLegal w run.history.entries.items
  pub stopped : some_entry (past_of w run.history.entries.items) stops ≡ true
  pub closed : hands ≡ alone → ends_with closes (before_stop run.history.entries.items) ≡ true
  pub actors : list_all (is_of_hand hands) run.history.entries.items ≡ true
  pub posted : ArePosted hands run.history.entries.items
  pub sessions : HasSessions w run.history.entries.items run.sessions
  pub within : (s : ℕ) (events : List Event) → slice_get run.sessions s ≡ Some events → length events ≤ budget
  pub answered : AnswersEach w run.history.entries.items
  pub quiet : notes_failed ≡ false → IsQuiet w budget (before_stop run.history.entries.items) run.sessions
  pub still : hands ≡ alone → IsStill w budget run.history.entries.items run.sessions
  pub collected : hands ≡ alone → AreCollected w run.history.entries.items

-- A session used its whole budget and could act all the same.
pub record IsSpent (w : Setting) (budget : ℕ) (run : Record) : Type 0 where
  pub session : ℕ
  pub events : List Event
  pub there : slice_get run.sessions session ≡ Some events
  pub used : length events ≡ budget
  pub more : CanAct w (before_stop run.history.entries.items) session events
