-- What a sweep does to a run, to its front and to its link.
use Rattle.std.specs.Prelude.{◌≡◌, ℕ, Bool, true, false, not, ◌&&◌, ◌||◌, List, [], ◌++◌, nat_eq}
use Rattle.outside_links.specs.Trips.{LinkTold}
use Rattle.std.specs.List.{list_all}
use Rattle.behaviour_tree.specs.Data.{ProgramParts}
use Rattle.office_core.specs.declared.history.Entry.{Entry}
use Rattle.office_core.specs.declared.outgoing.OutKind.{OutKind}
use Rattle.office_core.specs.Limits.{Setting, first_worker}
use Rattle.office_core.specs.Accepted.{past_of}
use Rattle.office_core.specs.Calls.{same_kind, outgoing}
use Rattle.run_theorem.specs.Exchange.{Exchange}
use Rattle.run_theorem.specs.Calls.{After, Notes}
use Rattle.run_cells.specs.RunStates.{State, Stays}
use Rattle.run_cells.specs.Rounds.{is_by_session, IsQuietAt, IsStillAt}
use Rattle.run_trip_laws.specs.Going.{is_inward, AreSettled, NotedSoFar, Completed}
use Rattle.run_sweep.specs.Courses.{Goes}

-- ---- entries

-- an entry by which the one worker fetches a call or brings its outcome
abbrev pub is_errand : Entry → Bool
is_errand e = nat_eq first_worker e.actor && not (is_inward e)

-- an entry of a session, or such a one
abbrev pub is_swept : Entry → Bool
is_swept e = is_by_session e || is_errand e

-- ---- the front and the link

-- whatever may have passed between a front and a run, but for an answer that halted it, something more may have passed
-- since
abbrev pub PassedOn : {F : Type 0} → (ProgramParts → F → F → Exchange → Type 0) → F → F
    → (Exchange → Exchange → Type 0) → Type 0
PassedOn {F} exchanged old new IsSo =
    (parts : ProgramParts) (first : F) (before : Exchange) → exchanged parts first old before
    → before.sent.notes_failed ≡ before.sent.halted → After (exchanged parts first new) (IsSo before)

-- the front halted
abbrev pub HasHalted : {F : Type 0} → (ProgramParts → F → F → Exchange → Type 0) → F → Type 0
HasHalted {F} exchanged front =
    (parts : ProgramParts) (first : F) (now : Exchange) → exchanged parts first front now → now.sent.halted ≡ true

-- the front did not halt
abbrev pub HasNotHalted : {F : Type 0} → (ProgramParts → F → F → Exchange → Type 0) → F → Type 0
HasNotHalted {F} exchanged front =
    (parts : ProgramParts) (first : F) (now : Exchange) → exchanged parts first front now → now.sent.halted ≡ false

-- Texts were noted to a front, one after the other, and nothing else passed.
pub record NotesMore (before now : Exchange) : Type 0 where
  pub text : List ℕ
  pub notes : Notes text before now

-- what was noted of a history h is what was noted of it, where that was so of the history before
abbrev pub NotesBy : Setting → List Entry → List Entry → Exchange → Exchange → Type 0
NotesBy w old new before now =
    NotesMore before now × (NotedSoFar w old before.sent.noted → NotedSoFar w new now.sent.noted)

-- the trips that a link made are those of the history now, where they were those of the history before
abbrev pub CompletedCallsBy : Setting → List Entry → List Entry → LinkTold → LinkTold → Type 0
CompletedCallsBy w old new before now = (first : LinkTold) → Completed w old first before → Completed w new first now

-- ---- the run

-- Calls of a kind went out and came back, one after the other; whether there was one. Nothing else changed.
pub record Errands (w : Setting) (k : OutKind) (old new : State) (moved : Bool) : Type 0 where
  pub more : List Entry
  pub stays : Stays old new more
  pub each : list_all is_errand more ≡ true
  pub settled : AreSettled w new.history
  pub others : (l : OutKind) → same_kind l k ≡ false
      → outgoing w (past_of w new.history) l ≡ outgoing w (past_of w old.history) l
  pub unmoved : moved ≡ false → new.history ≡ old.history
  pub some : moved ≡ true → outgoing w (past_of w old.history) k ≡ [] → ⊥

-- All calls of a kind that waited went out and came back.
pub record Cleared (w : Setting) (k : OutKind) (old new : State) (moved : Bool) : Type 0 where
  pub errands : Errands w k old new moved
  pub none : outgoing w (past_of w new.history) k ≡ []

-- Sessions had turns, and calls went out and came back.
pub record Swept (old new : State) : Type 0 where
  pub setting : new.setting ≡ old.setting
  pub budget : new.budget ≡ old.budget
  pub more : List Entry
  pub history : new.history ≡ old.history ++ more
  pub each : list_all is_swept more ≡ true
  pub settled : AreSettled old.setting new.history
  pub still : IsStillAt old → IsStillAt new
  pub goes : Goes old new

-- where nothing was left to do, nothing was done
abbrev pub StaysQuiet : State → State → Type 0
StaysQuiet old new = IsQuietAt old → (new.history ≡ old.history) × (new.stands ≡ old.stands)
