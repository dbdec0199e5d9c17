use Rattle.std.proofs.Common.{arith, suc, length, subst, None, Some}
use Rattle.jolie_trees.specs.Trees.{set_root, with_root}
use Rattle.jolie_trees.specs.Counts.{FitsAs}
use Rattle.jolie_trees.specs.Limits.{most_levels}
use Rattle.jolie_trees.proofs.Counted.{within-limits, known-root, fits-known, too-many, too-deep}
use Rattle.jolie_trees.proofs.tree.Tree.nodes_with_root.Goals.{else-grown-le-MOST_NODES-via-then-grown-le-MOST_NODES+else-steps, else-grown-le-MOST_NODES-via-else-grown-le-MOST_NODES}
use Rattle.jolie_trees.proofs.tree.Tree.nodes_with_root.Goals as goal

pub returns-then-steps : goal.returns-then-steps
returns-then-steps c = λ r.
    let p = c.as_slice-steps.result.now in
    let store = c.args.self.now in
    let known = known-root p r store c.made_along.result c.args.nodes _ c.requires.within c.requires.counted
    (c.made_along.ensures.nodes (with_root r)) (c.made_along.ensures.levels (with_root r) most_levels (within-limits store c.requires.within).1)
    c.saturating_add-grown.ensures in
    subst (λ p. FitsAs (set_root p r store) (Some c.saturating_add-grown.result)) c.as_slice-steps.ensures
    (fits-known (set_root p r store) c.saturating_add-grown.result (suc (length p)) known (omega (arith, c.if-grown-le-MOST_NODES.true)) (omega (arith, c.if-steps.true)))

pub returns-else-grown-le-MOST_NODES : goal.returns-else-grown-le-MOST_NODES
returns-else-grown-le-MOST_NODES c = λ r.
    let p = c.as_slice-steps.result.now in
    let store = c.args.self.now in
    let known = known-root p r store c.made_along.result c.args.nodes _ c.requires.within c.requires.counted
    (c.made_along.ensures.nodes (with_root r)) (c.made_along.ensures.levels (with_root r) most_levels (within-limits store c.requires.within).1)
    c.saturating_add-grown.ensures in
    let passes : FitsAs (set_root p r store) None = elim c.else-grown-le-MOST_NODES.branch [
      | else-grown-le-MOST_NODES-via-then-grown-le-MOST_NODES+else-steps w ↦ too-deep (set_root p r store) c.saturating_add-grown.result (suc (length p)) known (omega (arith, w.if-steps.false))
      | else-grown-le-MOST_NODES-via-else-grown-le-MOST_NODES w ↦ too-many (set_root p r store) c.saturating_add-grown.result (suc (length p)) known (omega (arith, w.if-grown-le-MOST_NODES.false))
    ] in
    subst (λ p. FitsAs (set_root p r store) None) c.as_slice-steps.ensures passes
