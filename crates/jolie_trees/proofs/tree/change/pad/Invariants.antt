use Rattle.std.proofs.Common.{◌≡◌, ◌+◌, ◌-◌, ◌≤◌, take, vec_len}
use Rattle.jolie_trees.specs.Trees.{change_nth}
use Rattle.jolie_trees.specs.TreeView.{trees_of}
use Rattle.jolie_trees.proofs.tree.change.pad.Given as goal

abbrev pub invariant-loop-alloc : goal.invariant-loop-alloc
invariant-loop-alloc l = record {
  padded : change_nth l.place (λ t. t) (trees_of l.nodes.items) ≡ change_nth l.place (λ t. t) (trees_of l.initial.nodes.items);
  kept : take (vec_len l.initial.nodes) l.nodes.items ≡ l.initial.nodes.items;
  longer : vec_len l.initial.nodes ≤ vec_len l.nodes;
}

abbrev pub decreases-loop-alloc : goal.decreases-loop-alloc
decreases-loop-alloc l = l.place + 1 - vec_len l.nodes
