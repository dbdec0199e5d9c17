-- What a walk over the children of a node shows.
use Rattle.std.specs.Prelude.{ℕ, List, Option, None, Some}
use Rattle.std.specs.Borrow.{Bor}
use Rattle.jolie_trees.specs.Data.{Tree, Trees, no_trees}
use Rattle.jolie_trees.specs.TreeView.{trees_of}

-- a name and the trees under it, as a walk lends them
abbrev pub named_trees : Bor (List ℕ) × Bor (List Tree) → List ℕ × Trees
named_trees p = (p.0.now, trees_of p.1.now)

-- the trees that may be there
abbrev pub or_none : Option Trees → Trees
or_none None = no_trees
or_none (Some ts) = ts
