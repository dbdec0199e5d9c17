use Rattle.std.proofs.Common.{◌≡◌, ◌≤◌, ◌+◌, ◌*◌, ◌++◌, drop}
use Rattle.jolie_trees.specs.Trees.{children_of, levels, fields_levels, trees_levels}
use Rattle.jolie_trees.specs.TreeView.{trees_of, fields_of}
use Rattle.run_text.specs.Nodes.{children_text, more_children, more_trees, trees_text}
use Rattle.run_text.proofs.tree.+push_tree.Given as goal

abbrev pub decreases-push_tree : goal.decreases-push_tree
decreases-push_tree l = 4 * levels l.tree.now + 3

abbrev pub decreases-push_children : goal.decreases-push_children
decreases-push_children l = 4 * levels l.tree.now + 2

abbrev pub decreases-push_named : goal.decreases-push_named
decreases-push_named l = 4 * trees_levels (trees_of l.trees.now) + 5

abbrev pub decreases-push_trees : goal.decreases-push_trees
decreases-push_trees l = 4 * trees_levels (trees_of l.trees.now) + 4

abbrev pub invariant-push_children-loop-other : goal.invariant-push_children-loop-other
invariant-push_children-loop-other l = record {
  same : l.writer ++ more_children (fields_of l.other-iterator) ≡ l.fn.writer ++ children_text (children_of l.tree);
  lower : fields_levels (fields_of l.other-iterator) ≤ fields_levels (children_of l.tree);
}

abbrev pub invariant-push_trees-loop-tree : goal.invariant-push_trees-loop-tree
invariant-push_trees-loop-tree l =
    l.writer ++ more_trees (trees_of (drop l.tree-index l.rest)) ≡ l.fn.writer ++ trees_text (trees_of l.trees)
