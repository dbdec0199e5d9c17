-- A tree is a root and, under each of finitely many names in ascending order, a list of trees that is not empty.
use Rattle.std.specs.Prelude.{ℕ, List}
use Rattle.jolie_trees.specs.declared.root.Root.{Root}

mutual
  -- a node with its root and its children
  pub data Tree : Type 0 where
    node : Root → Fields → Tree

  -- the children by name, in ascending order of the names' bytes
  pub data Fields : Type 0 where
    no_fields : Fields
    field : List ℕ → Trees → Fields → Fields

  -- the nodes under one name, from index 0
  pub data Trees : Type 0 where
    no_trees : Trees
    tree : Tree → Trees → Trees
