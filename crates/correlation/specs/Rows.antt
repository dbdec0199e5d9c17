-- The complete keys of a set, and which session has the key that values name.
use Rattle.std.specs.Prelude.{ℕ, List, [], ◌∷◌, Option, None, Some, if◌then◌else◌}
use Rattle.jolie_trees.specs.declared.root.Root.{Root}
use Rattle.correlation.specs.Order.{are_equal}
use Rattle.correlation.specs.declared.key.KeyRow.{KeyRow}

-- the session whose key has these values
abbrev pub session_with : List Root → List KeyRow → Option ℕ
session_with k [] = None
session_with k (r ∷ rs) = if are_equal r.key k then Some r.session else session_with k rs
