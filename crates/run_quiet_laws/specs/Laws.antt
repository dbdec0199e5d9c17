-- What entries and events leave of a run in which nothing is left to do.
use Rattle.std.specs.Prelude.{◌≡◌, ℕ, ◌≤◌, ◌<◌, Bool, true, false, List, [], ◌∷◌, ◌++◌, length, Some, slice_get}
use Rattle.std.specs.List.{list_all}
use Rattle.behaviour_tree.specs.declared.words.Event.{Event}
use Rattle.office_core.specs.declared.history.Entry.{Entry}
use Rattle.office_core.specs.Limits.{Setting}
use Rattle.office_core.specs.Sessions.{births}
use Rattle.office_core.specs.Accepted.{past_of}
use Rattle.office_core.specs.Legal.{IsLegal}
use Rattle.run_record.specs.declared.record.Record.{Record}
use Rattle.run_record.specs.Answered.{stand_together}
use Rattle.run_record.specs.Collected.{AreCollected}
use Rattle.run_record.specs.Quiet.{CanAct, IsQuiet, IsStill}
use Rattle.run_record.specs.Run.{IsRun, alone, is_of_hand}
use Rattle.session_turn.specs.Seen.{Seat}
use Rattle.session_turn.specs.Lives.{Kept, Moment}
use Rattle.session_turn.specs.Looks.{MayAct}
use Rattle.session_turn.specs.Turns.{Happened}
use Rattle.run_quiet_laws.specs.Brings.{BringsNothing}
use Rattle.run_quiet_laws.specs.Ends.{CameThrough, Ended, IsChanged, is_adoption}

-- At a desk that nobody else calls a look at a kept session says whether it can act.
abbrev pub LooksSay : Type 0
LooksSay =
    (a : Seat) (es : List Event) (now : Moment) (b : Bool)
    → a.alone ≡ true → Kept a es now → MayAct a now now b
    → (b ≡ true → CanAct a.setting now.seen a.session es) × (b ≡ false → CanAct a.setting now.seen a.session es → ⊥)

-- After adoptions a session that could not act can not.
abbrev pub AdoptionsLeave : Type 0
AdoptionsLeave =
    (w : Setting) (h more : List Entry) (s : ℕ) (es : List Event)
    → list_all is_adoption more ≡ true → (CanAct w h s es → ⊥) → CanAct w (h ++ more) s es → ⊥

-- After an entry of another that brings a session nothing, one that could not act can not.
abbrev pub OthersLeave : Type 0
OthersLeave =
    (w : Setting) (h : List Entry) (e : Entry) (s : ℕ) (es : List Event)
    → IsLegal w h → BringsNothing w (past_of w h) s e → (CanAct w h s es → ⊥) → CanAct w (h ++ e ∷ []) s es → ⊥

-- Where nothing is left to do, no event happens to a session that has budget left.
abbrev pub NothingHappens : Type 0
NothingHappens =
    (a : Seat) (budget n : ℕ) (es : List Event) (old new : Moment) (event : Event) (ss : List (List Event))
    → a.alone ≡ true → IsQuiet a.setting budget old.seen ss → slice_get ss a.session ≡ Some es → length es < budget
    → Kept a es old → Happened a n old new event → ⊥

-- An event of a session that has budget left keeps that each posting began where it may.
abbrev pub StaysStill : Type 0
StaysStill =
    (a : Seat) (budget n : ℕ) (es : List Event) (old new : Moment) (event : Event) (ss ss' : List (List Event))
    → a.alone ≡ true → Kept a es old → Happened a n old new event → slice_get ss a.session ≡ Some es
    → length es < budget → IsChanged a.session (es ++ event ∷ []) ss ss'
    → IsStill a.setting budget old.seen ss → IsStill a.setting budget new.seen ss'

-- No more sessions are born than there may be.
abbrev pub BirthsKeepWithin : Type 0
BirthsKeepWithin = (w : Setting) (h : List Entry) → length (births w (past_of w h)) ≤ w.limits.sessions

-- The record of a run of one worker that came through, ended, and collected what it posted is one of a run.
abbrev pub EndsAsRun : Type 0
EndsAsRun =
    (w : Setting) (budget : ℕ) (notes_failed : Bool) (h : List Entry) (run : Record)
    → CameThrough w budget notes_failed h run.sessions → Ended h run.history.entries.items
    → IsLegal w run.history.entries.items → list_all (is_of_hand alone) run.history.entries.items ≡ true
    → stand_together run.history.entries.items ≡ true → AreCollected w run.history.entries.items
    → IsRun w budget alone notes_failed run
