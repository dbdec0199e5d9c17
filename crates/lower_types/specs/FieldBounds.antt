-- These definitions serve the proofs alone: no promise speaks of them.
-- The least and the greatest number of a field.
use Rattle.std.specs.Prelude.{ℕ, Option}
use Rattle.jolie_ast.specs.declared.types.Cardinality.{Cardinality}
use Rattle.lower_types.specs.LoweredTypes.{bounds}

-- the least number of a field
abbrev pub least_of : Option Cardinality → ℕ
least_of cardinality = (bounds cardinality).0

-- the greatest number of a field, if there is one
abbrev pub most_of : Option Cardinality → Option ℕ
most_of cardinality = (bounds cardinality).1
