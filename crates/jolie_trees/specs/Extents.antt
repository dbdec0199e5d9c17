-- These definitions serve the proofs alone: no promise speaks of them.
-- How large a tree is: its nodes and its levels, as far as the machine's numbers hold them.
use Rattle.std.specs.Prelude.{ℕ, List, bytes_eq, if◌then◌else◌, Option, option_and_then, unwrap_or}
use Rattle.jolie_trees.specs.declared.extent.Extent.{Extent}
use Rattle.jolie_trees.specs.declared.path.Step.{Step}
use Rattle.jolie_trees.specs.Data.{Tree, Fields, no_fields, field, Trees}
use Rattle.jolie_trees.specs.Trees.{get, void_tree, size, fields_size, trees_size, levels, fields_levels, trees_levels}
use Rattle.jolie_trees.specs.Limits.{in_u64, in_u32}

-- so many nodes in so many levels
abbrev pub extent : ℕ → ℕ → Extent
extent n l = record { nodes = in_u64 n; levels = in_u32 l }

-- the extent of a tree
abbrev pub extent_of : Tree → Extent
extent_of t = extent (size t) (levels t)

-- the extent of all children together
abbrev pub fields_extent : Fields → Extent
fields_extent fs = extent (fields_size fs) (fields_levels fs)

-- the extent of the nodes of a vector together
abbrev pub trees_extent : Trees → Extent
trees_extent ts = extent (trees_size ts) (trees_levels ts)

-- the children but those under a name
abbrev pub others : List ℕ → Fields → Fields
others name no_fields = no_fields
others name (field other ts fs) = if bytes_eq name other then others name fs else field other ts (others name fs)

-- the node at a path below a node that may be missing, a missing one being void
abbrev pub at_or_void : List Step → Option Tree → Tree
at_or_void p t = unwrap_or (option_and_then (get p) t) void_tree
