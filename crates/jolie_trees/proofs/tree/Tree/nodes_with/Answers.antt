use Rattle.std.proofs.Common.{arith, subst, None, Some}
use Rattle.jolie_trees.specs.Trees.{set}
use Rattle.jolie_trees.specs.Counts.{FitsAs}
use Rattle.jolie_trees.specs.Limits.{most_levels}
use Rattle.jolie_trees.proofs.Counted.{within-limits, known-set, fits-known, too-many, too-deep}
use Rattle.jolie_trees.proofs.tree.Tree.nodes_with.Goals.{else-left-le-MOST_NODES-via-then-left-le-MOST_NODES+else-levels, else-left-le-MOST_NODES-via-else-left-le-MOST_NODES}
use Rattle.jolie_trees.proofs.tree.Tree.nodes_with.Goals as goal

pub returns-then-levels : goal.returns-then-levels
returns-then-levels c =
    let value = c.args.value.now in
    let store = c.args.self.now in
    let known = known-set c.as_slice-steps.result.now value store c.made_along.result c.args.nodes _ _ _ _ c.extent-value.result c.extent_at.result c.requires.within c.requires.counted
    (c.made_along.ensures.nodes (λ _. value)) (c.made_along.ensures.levels (λ _. value) most_levels (within-limits store c.requires.within).1)
    c.extent-value.ensures c.extent_at.ensures c.saturating_add.ensures c.saturating_add-grown.ensures c.saturating_sub-left.ensures c.saturating_add-levels.ensures in
    subst (λ p. FitsAs (set p value store) (Some c.saturating_sub-left.result)) c.as_slice-steps.ensures
    (fits-known (set c.as_slice-steps.result.now value store) c.saturating_sub-left.result c.saturating_add-levels.result known (omega (arith, c.if-left-le-MOST_NODES.true)) (omega (arith, c.if-levels.true)))

pub returns-else-left-le-MOST_NODES : goal.returns-else-left-le-MOST_NODES
returns-else-left-le-MOST_NODES c =
    let value = c.args.value.now in
    let store = c.args.self.now in
    let known = known-set c.as_slice-steps.result.now value store c.made_along.result c.args.nodes _ _ _ _ c.extent-value.result c.extent_at.result c.requires.within c.requires.counted
    (c.made_along.ensures.nodes (λ _. value)) (c.made_along.ensures.levels (λ _. value) most_levels (within-limits store c.requires.within).1)
    c.extent-value.ensures c.extent_at.ensures c.saturating_add.ensures c.saturating_add-grown.ensures c.saturating_sub-left.ensures c.saturating_add-levels.ensures in
    let passes : FitsAs (set c.as_slice-steps.result.now value store) None = elim c.else-left-le-MOST_NODES.branch [
      | else-left-le-MOST_NODES-via-then-left-le-MOST_NODES+else-levels w ↦ too-deep (set c.as_slice-steps.result.now value store) c.saturating_sub-left.result c.saturating_add-levels.result known (omega (arith, w.if-levels.false))
      | else-left-le-MOST_NODES-via-else-left-le-MOST_NODES w ↦ too-many (set c.as_slice-steps.result.now value store) c.saturating_sub-left.result c.saturating_add-levels.result known (omega (arith, w.if-left-le-MOST_NODES.false))
    ] in
    subst (λ p. FitsAs (set p value store) None) c.as_slice-steps.ensures passes
