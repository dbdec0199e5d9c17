-- These definitions serve the proofs of runs: no promise of the program speaks of them.
-- How a run of one worker ends, and what it has then.
use Rattle.std.specs.Prelude.{◌≡◌, ℕ, ◌≤◌, Bool, true, false, ◌&&◌, List, ◌∷◌, ◌++◌, length, nat_le, Some, slice_get}
use Rattle.std.specs.List.{list_all, list_any}
use Rattle.behaviour_tree.specs.declared.words.Event.{Event}
use Rattle.office_core.specs.declared.history.Act.TheVariants as act
use Rattle.office_core.specs.declared.history.Entry.{Entry}
use Rattle.office_core.specs.Limits.{Setting, first_worker}
use Rattle.office_core.specs.Past.{closes, stops}
use Rattle.run_record.specs.Agrees.{HasSessions}
use Rattle.run_record.specs.Quiet.{IsQuiet, IsStill}
use Rattle.run_record.specs.Run.{ends_with}

-- an adoption
abbrev pub is_adoption : Entry → Bool
is_adoption e = elim e.act [ act.Adopt service ↦ true | _ ↦ false ]

-- an entry of a worker
abbrev pub is_by_worker : Entry → Bool
is_by_worker e = nat_le first_worker e.actor

-- an entry by which a worker notes the end of input
abbrev pub is_close : Entry → Bool
is_close e = is_by_worker e && closes e

-- an entry by which a worker collects an answer
abbrev pub is_collect : Entry → Bool
is_collect e = is_by_worker e && elim e.act [ act.Collect n o ↦ true | _ ↦ false ]

-- the entry by which the first worker stops the run
abbrev pub stop_entry : Entry
stop_entry = record { actor = first_worker; act = act.Stop }

-- What came of a history at the end of its run: the end of input, the stop, and collects.
pub record Ended (h now : List Entry) : Type 0 where
  pub closing : List Entry
  pub collects : List Entry
  pub is : now ≡ (h ++ closing) ++ stop_entry ∷ collects
  pub running : list_any stops h ≡ false
  pub closed : ends_with closes (h ++ closing) ≡ true
  pub closing_are : list_all is_close closing ≡ true
  pub collects_are : list_all is_collect collects ≡ true

-- What one worker has before it ends its run: the sessions' events agree with the history and keep to the budget;
-- unless a note failed nothing is left to do; and each posting began where it may.
pub record CameThrough (w : Setting) (budget : ℕ) (notes_failed : Bool) (h : List Entry)
    (ss : List (List Event)) : Type 0 where
  pub few : length ss ≤ first_worker
  pub sessions : HasSessions w h ss
  pub within : (s : ℕ) (es : List Event) → slice_get ss s ≡ Some es → length es ≤ budget
  pub quiet : notes_failed ≡ false → IsQuiet w budget h ss
  pub still : IsStill w budget h ss

-- One session has other events, and the others have theirs.
pub record IsChanged (s : ℕ) (es : List Event) (old new : List (List Event)) : Type 0 where
  pub here : slice_get new s ≡ Some es
  pub others : (t : ℕ) → (t ≡ s → ⊥) → slice_get new t ≡ slice_get old t
