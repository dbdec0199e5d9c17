use Rattle.std.proofs.Common.{ap, ◌∙◌}
use Rattle.std.proofs.lemmas.List.{at_drop_all}
use Rattle.jolie_trees.specs.TreeView.{trees_of, fields_of}
use Rattle.jolie_trees.specs.Extents.{fields_extent}
use Rattle.jolie_trees.proofs.Sizes.{unnamed, extent-done, extent-under, fields_extent-unnamed}
use Rattle.jolie_trees.proofs.tree.+extent.Goals as goal

pub measure::extent_of_all-returns : goal.measure::extent_of_all-returns
measure::extent_of_all-returns t c =
    extent-done c.loop-tree.all _ _ (at_drop_all trees_of c.args.trees.now c.loop-tree.tree-index c.loop-tree-test.false) c.loop-tree.invariant.1 c.loop-tree.invariant.0

pub Tree::extent-returns : goal.Tree::extent-returns
Tree::extent-returns t c =
    let es = c.self.inside.children.entries in
    let all = c.loop-members.invariant ∙ ap (λ v. fields_extent (unnamed v)) (c.into_iter-members-iterator.ensures.into_iter_gives ∙ c.values-members-items.ensures.rest) ∙ fields_extent-unnamed es in
    rw (← c.self.view_is)
    (extent-under c.self.inside.root c.loop-members.below c.under_a_node.result (unnamed c.loop-members.members-iterator) (fields_of es) (ap unnamed c.in-None.ensures.steps.0) all c.under_a_node.ensures.nodes c.under_a_node.ensures.levels)
