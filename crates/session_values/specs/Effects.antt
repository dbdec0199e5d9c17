-- What a change of the store comes to: its fault, and the store that it leaves.
use Rattle.std.specs.Prelude.{ℕ, List, Option, None, Some}
use Rattle.jolie_trees.specs.declared.path.Step.{Step}
use Rattle.jolie_trees.specs.Data.{Tree}
use Rattle.session_calculus.specs.Effects.{Effect, faults, stores}
use Rattle.session_values.specs.declared.placed.Placed.{Placed}

-- the fault of an effect, where it has one
abbrev pub fault_in : Effect → Option ℕ
fault_in (faults f) = Some f
fault_in (stores store) = None

-- the store that an effect leaves: the old one, where it faults
abbrev pub left_by : Effect → Tree → Tree
left_by (faults f) old = old
left_by (stores store) old = store

-- where something is put, and what
abbrev pub placed_view : Placed → List Step × Tree
placed_view p = (p.path.steps, p.value)

-- a path and a value, where both are there
abbrev pub together : Option (List Step) → Option Tree → Option (List Step × Tree)
together None v = None
together (Some path) None = None
together (Some path) (Some v) = Some (path, v)
