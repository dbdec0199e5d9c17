-- What a change answers that keeps to the limits of a store.
use Rattle.std.specs.Prelude.{◌≡◌, ◌<◌, ◌≤◌, Result, Ok, Err, IsTrue}
use Rattle.jolie_trees.specs.declared.set_error.SetError.{SetError}
use Rattle.jolie_trees.specs.declared.set_error.SetError.TheVariants.{TooLarge, TooDeep, Memory}
use Rattle.jolie_trees.specs.Data.{Tree}
use Rattle.jolie_trees.specs.Trees.{size, levels}
use Rattle.jolie_trees.specs.Limits.{most_nodes, most_levels, is_store, in_u64, in_u32}

-- the answer that a change gives which would make that tree: done only where it is within both limits, and refused only
-- for the limit that it passes, too many nodes before too many levels
abbrev pub KeepsLimits : {A : Type 0} → Tree → Result A SetError → Type 0
KeepsLimits t (Ok a) = IsTrue (is_store t)
KeepsLimits t (Err (TooLarge n)) = (most_nodes < size t) × (n ≡ in_u64 (size t))
KeepsLimits t (Err (TooDeep n)) = (size t ≤ most_nodes) × (most_levels < levels t) × (n ≡ in_u32 (levels t))
KeepsLimits t (Err (Memory e)) = Unit {0}
