-- What is sought among keys.
use Rattle.std.specs.Prelude.{ℕ, List}
use Rattle.jolie_trees.specs.declared.root.Root.{Root}

-- values that are sought, and how many whole keys they were compared with
pub record Sought : Type 0 where
  pub values : List Root
  pub steps : ℕ
