-- Variables of correlation sets, apart from their numbers: where a type has them, and what a tree has of them.
use Rattle.std.specs.Prelude.{ℕ, Bool, Option, is_some}
use Rattle.jolie_trees.specs.declared.root.Root.{Root}
use Rattle.jolie_trees.specs.Data.{Tree}
use Rattle.behaviour_tree.specs.Data.{TypeTree, VariablePart}
use Rattle.office_core.specs.Keys.{Variable, alias_of, value_of}

-- a variable with its number in its service
abbrev pub variable_of : ℕ → VariablePart → Variable
variable_of n v = record { number = n; aliases = v.aliases }

-- whether a type has a variable
abbrev pub has_alias : TypeTree → VariablePart → Bool
has_alias ty v = is_some (alias_of ty (variable_of 0 v))

-- the value of a variable in a tree of a type
abbrev pub value_in : TypeTree → Tree → VariablePart → Option Root
value_in ty t v = value_of ty t (variable_of 0 v)
