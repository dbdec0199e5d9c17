-- The tree that the fields of a program's tree stand for, one level at a time.
use Rattle.std.specs.Prelude.{ℕ, List, [], ◌∷◌}
use Rattle.jolie_trees.specs.Data.{Tree, Fields, no_fields, field, Trees, no_trees, tree}

-- the nodes of a list
abbrev pub trees_of : List Tree → Trees
trees_of [] = no_trees
trees_of (t ∷ ts) = tree t (trees_of ts)

-- the children of a map's entries
abbrev pub fields_of : List (List ℕ × Trees) → Fields
fields_of [] = no_fields
fields_of (e ∷ es) = field e.0 e.1 (fields_of es)
