use Rattle.std.proofs.Common.{◌≡◌, ◌+◌, drop}
use Rattle.jolie_trees.specs.Limits.{in_u64}
use Rattle.jolie_trees.specs.Trees.{fields_bytes, trees_bytes}
use Rattle.jolie_trees.specs.TreeView.{trees_of, fields_of}
use Rattle.jolie_trees.proofs.tree.+text_bytes.Given as goal

abbrev pub invariant-Tree::text_bytes-loop-name : goal.invariant-Tree::text_bytes-loop-name
invariant-Tree::text_bytes-loop-name l =
    (in_u64 (l.bytes + fields_bytes (fields_of l.name-iterator)) ≡ in_u64 (l.initial.bytes + fields_bytes (fields_of l.initial.name-iterator))) × (l.bytes ≡ in_u64 l.bytes)

abbrev pub invariant-Members::text_bytes-loop-tree : goal.invariant-Members::text_bytes-loop-tree
invariant-Members::text_bytes-loop-tree l =
    (in_u64 (l.bytes + trees_bytes (trees_of (drop l.tree-index l.tree-items))) ≡ in_u64 (trees_bytes (trees_of l.tree-items))) × (l.bytes ≡ in_u64 l.bytes)
