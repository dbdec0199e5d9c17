use Rattle.std.proofs.Common.{◌≡◌, ◌++◌, take}
use Rattle.jolie_trees.proofs.tree.+copied.Given as goal

abbrev pub invariant-Members::copied-loop-tree : goal.invariant-Members::copied-loop-tree
invariant-Members::copied-loop-tree l = l.list.items ≡ take l.tree-index l.tree-items

abbrev pub invariant-copied::copied_children-loop-key :
    goal.invariant-copied::copied_children-loop-key
invariant-copied::copied_children-loop-key l = l.children.entries ≡ l.copies.entries ++ l.key-iterator
