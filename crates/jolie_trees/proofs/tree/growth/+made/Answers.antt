use Rattle.std.proofs.Common.{◌≡◌, suc, ◌-◌, min, ◌∷◌, take, drop, length, ◌∙◌, ap, sym, arith}
use Rattle.jolie_trees.specs.Data.{no_trees}
use Rattle.jolie_trees.specs.Trees.{void_tree, change_nth, index_of, change, size, levels, trees_size, trees_levels}
use Rattle.jolie_trees.specs.Extents.{extent, extent_of, trees_extent}
use Rattle.jolie_trees.proofs.Entries.{steps-split}
use Rattle.jolie_trees.proofs.Sizes.{extent-beside, extent-above}
use Rattle.jolie_trees.proofs.Growth.{trees_size-made, trees_levels-made}
use Rattle.jolie_trees.proofs.tree.growth.+made.Goals as goal

pub made_vector-returns : goal.made_vector-returns
made_vector-returns t c = λ f is.
    let n = c.args.place in
    let h = change c.args.steps.now f in
    let last = h void_tree in
    extent-beside c.of_nodes_alone.result c.made_node.result c.beside.result n (size last) (min 1 n) (levels last)
    c.of_nodes_alone.ensures (c.made_node.ensures f is) c.beside.ensures.nodes c.beside.ensures.levels
    ∙ (λ i. extent (sym (trees_size-made n h) i) (sym (trees_levels-made n h) i))

pub made_node-returns-in-len1-up : goal.made_node-returns-in-len1-up
made_node-returns-in-len1-up t c = λ f is.
    let s = c.step-item.result in
    let rest = take (length c.args.steps.now - 1) (drop 1 c.args.steps.now) in
    let steps : s ∷ rest ≡ c.args.steps.now = steps-split c.args.steps.now s c.in-len1-up.len_at_least c.step-item.is in
    let w = change_nth (index_of s) (change rest f) no_trees in
    let below : c.made_vector.result ≡ trees_extent w = c.made_vector.ensures f is ∙ ap (λ n. trees_extent (change_nth n (change rest f) no_trees)) c.place.ensures in
    let made = change (s ∷ rest) f void_tree in
    let nodes : suc (trees_size w) ≡ size made = omega arith in
    let depth : suc (trees_levels w) ≡ levels made = omega arith in
    extent-above c.made_vector.result c.under_a_node.result (trees_size w) (trees_levels w) below c.under_a_node.ensures.nodes c.under_a_node.ensures.levels
    ∙ (λ i. extent (nodes i) (depth i))
    ∙ ap (λ p. extent_of (change p f void_tree)) steps
