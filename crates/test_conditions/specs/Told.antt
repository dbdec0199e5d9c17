-- These definitions serve the proofs alone: no promise speaks of them.
-- What calls ask for, by what is told of it.
use Rattle.std.specs.Prelude.{ℕ, ◌-◌, Bool, false, not, ◌&&◌, ◌||◌, List, [], ◌∷◌}
use Rattle.std.specs.Prelude.{length, nat_lt, Option, None, Some, slice_get}
use Rattle.behaviour_tree.specs.Data.{SetPart, ProgramParts}
use Rattle.office_plain.specs.declared.kept.SessionRow.{SessionRow}
use Rattle.test_conditions.specs.declared.messages.Told.{Told}
use Rattle.test_conditions.specs.declared.messages.Awaited.{Awaited}

-- the session of a row acts: it did not end and was adopted, and the run goes on
abbrev pub acts_by : Bool → Option SessionRow → Bool
acts_by running None = false
acts_by running (Some row) = running && not row.ended && row.adopted

-- a message asks for an answer and has none
abbrev pub open_by : Told → Bool
open_by t = t.is_request && t.is_running && not t.was_replied && not (t.has_ended && not t.was_taken)

-- the answer of a message may be collected
abbrev pub collectable_by : Awaited → Bool
collectable_by a = not a.was_collected && a.came_in && (not a.is_running || a.was_posted)

-- sets have a variable of that number, counted over all of them
abbrev pub reaches : ℕ → List SetPart → Bool
reaches v [] = false
reaches v (s ∷ sets) = nat_lt v (length s.variables) || reaches (v - length s.variables) sets

-- the service of a number has a variable
abbrev pub has_in : ProgramParts → ℕ → ℕ → Bool
has_in parts d v = elim (slice_get parts.services d) [ None ↦ false | Some service ↦ reaches v service.sets ]

-- the service of a session has a variable, by the session's row
abbrev pub variable_by : ProgramParts → ℕ → Option SessionRow → Bool
variable_by parts v None = false
variable_by parts v (Some row) = has_in parts row.service v

-- how many calls a session sent, by their places
abbrev pub count_by : Option (List ℕ) → ℕ
count_by None = 0
count_by (Some places) = length places
