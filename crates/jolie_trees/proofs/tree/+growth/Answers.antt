use Rattle.std.proofs.Common.{◌≡◌, Some, None, suc, ◌+◌, ◌-◌, max, ◌∷◌, take, drop, get_or, length, ◌∙◌, ap, sym, arith}
use Rattle.jolie_trees.specs.Data.{no_trees}
use Rattle.jolie_trees.specs.Trees.{nth, child, change, change_nth, index_of, size, levels, trees_size, trees_levels, fields_size, fields_levels, under, children_of}
use Rattle.jolie_trees.specs.Extents.{extent, extent_of, trees_extent, others, at_or_void}
use Rattle.jolie_trees.specs.TreeView.{trees_of}
use Rattle.jolie_trees.proofs.Entries.{steps-split, under-found, under-missing, child-found, child-missing}
use Rattle.jolie_trees.proofs.Sizes.{extent-beside, extent-above}
use Rattle.jolie_trees.proofs.Vectors.{take-behind, nth-within, nth-beyond}
use Rattle.jolie_trees.proofs.Growth.{trees_size-longer, trees_levels-longer, trees_size-within, trees_levels-within, changed_vector, extent_of-change}
use Rattle.jolie_trees.proofs.tree.+growth.Goals as goal

pub Members::extent_with-returns-then-place-nodes : goal.Members::extent_with-returns-then-place-nodes
Members::extent_with-returns-then-place-nodes t c = λ f is.
    let n = c.args.place in
    let rest = c.args.rest.now in
    let xs = c.as_slice-nodes.result.now in
    let whole : trees_of xs ≡ c.args.self.now = ap trees_of c.as_slice-nodes.ensures.value ∙ c.self.view_is in
    let h = change rest f in
    let x = c.index-nodes-place.result in
    let there : nth n c.args.self.now ≡ Some x =
    ap (nth n) (sym whole) ∙ nth-within n xs x c.if-place-nodes.true ∙ ap Some (sym c.index-nodes-place.is) in
    let before = trees_of (take n xs) in
    let after = trees_of (drop (suc n) xs) in
    let changed = h (get_or xs n x) in
    let inner = c.extent_with.ensures f (is ∙ ap (λ o. extent_of (f (at_or_void rest o))) there) in
    let front = extent-beside c.extent_of_all.result c.extent_with.result c.beside.result (trees_size before) (size changed) (trees_levels before) (levels changed)
    c.extent_of_all.ensures (inner ∙ ap (λ u. extent_of (h u)) c.index-nodes-place.is) c.beside.ensures.nodes c.beside.ensures.levels in
    let back = c.extent_of_all-then-place-nodes.ensures ∙ ap (λ ys. trees_extent (trees_of ys)) (take-behind n xs) in
    extent-beside c.beside.result c.extent_of_all-then-place-nodes.result c.beside-then-place-nodes.result (trees_size before + size changed) (trees_size after) (max (trees_levels before) (levels changed)) (trees_levels after)
    front back c.beside-then-place-nodes.ensures.nodes c.beside-then-place-nodes.ensures.levels
    ∙ (λ i. extent (sym (trees_size-within n h xs x c.if-place-nodes.true) i) (sym (trees_levels-within n h xs x c.if-place-nodes.true) i))
    ∙ ap (λ ts. trees_extent (change_nth n h ts)) whole

pub Members::extent_with-returns-else-place-nodes : goal.Members::extent_with-returns-else-place-nodes
Members::extent_with-returns-else-place-nodes t c = λ f is.
    let n = c.args.place in
    let rest = c.args.rest.now in
    let xs = c.as_slice-nodes.result.now in
    let whole : trees_of xs ≡ c.args.self.now = ap trees_of c.as_slice-nodes.ensures.value ∙ c.self.view_is in
    let k = n - length xs in
    let h = change rest f in
    let new = change_nth k h no_trees in
    let short : n ≡ k + length xs = omega (arith, c.if-place-nodes.false) in
    let missing : nth n c.args.self.now ≡ None = ap (nth n) (sym whole) ∙ nth-beyond n xs (omega (arith, short)) in
    extent-beside c.extent_of_all-else-place-nodes.result c.made_vector.result c.beside-else-place-nodes.result
    (trees_size (trees_of xs)) (trees_size new) (trees_levels (trees_of xs)) (trees_levels new)
    c.extent_of_all-else-place-nodes.ensures (c.made_vector.ensures f (is ∙ ap (λ o. extent_of (f (at_or_void rest o))) missing)) c.beside-else-place-nodes.ensures.nodes c.beside-else-place-nodes.ensures.levels
    ∙ (λ i. extent (sym (trees_size-longer n k h xs short) i) (sym (trees_levels-longer n k h xs short) i))
    ∙ ap (λ ts. trees_extent (change_nth n h ts)) whole

pub Tree::extent_with-returns-in-len1-up : goal.Tree::extent_with-returns-in-len1-up
Tree::extent_with-returns-in-len1-up t c = λ f is.
    let s = c.step-item.result in
    let rest = take (length c.args.steps.now - 1) (drop 1 c.args.steps.now) in
    let steps : s ∷ rest ≡ c.args.steps.now = steps-split c.args.steps.now s c.in-len1-up.len_at_least c.step-item.is in
    let tree = c.args.self.now in
    let w = changed_vector s rest f tree in
    let left = others s.name (children_of tree) in
    let inner = is ∙ ap (λ p. extent_of (f (at_or_void p (Some tree)))) (sym steps) in
    let below = extent-beside c.extent_of_others.result c.vector_with.result c.beside.result (fields_size left) (trees_size w) (fields_levels left) (trees_levels w)
    c.extent_of_others.ensures.others (c.vector_with.ensures f inner) c.beside.ensures.nodes c.beside.ensures.levels in
    extent-above c.beside.result c.under_a_node.result (fields_size left + trees_size w) (max (fields_levels left) (trees_levels w)) below c.under_a_node.ensures.nodes c.under_a_node.ensures.levels
    ∙ sym (extent_of-change s rest f tree c.extent_of_others.ensures.ordered)
    ∙ ap (λ p. extent_of (change p f tree)) steps

pub Tree::vector_with-returns-in-Some : goal.Tree::vector_with-returns-in-Some
Tree::vector_with-returns-in-Some t c = λ f is.
    let s = c.args.step.now in
    let rest = c.args.rest.now in
    let old = c.in-Some.members.now in
    let es = c.self.inside.children.entries in
    let found = sym c.in-Some.ensures.value in
    let node_there : child s c.args.self.now ≡ nth c.place.result old =
    ap (child s) (sym c.self.view_is) ∙ child-found s c.self.inside.root es old found ∙ ap (λ n. nth n old) (sym c.place.ensures) in
    c.extent_with.ensures f (is ∙ ap (λ o. extent_of (f (at_or_void rest o))) node_there)
    ∙ ap (λ n. trees_extent (change_nth n (change rest f) old)) c.place.ensures
    ∙ ap (λ ts. trees_extent (change_nth (index_of s) (change rest f) ts))
    (sym (under-found s.name es old found) ∙ ap (λ t. under s.name (children_of t)) c.self.view_is)

pub Tree::vector_with-returns-in-None : goal.Tree::vector_with-returns-in-None
Tree::vector_with-returns-in-None t c = λ f is.
    let s = c.args.step.now in
    let rest = c.args.rest.now in
    let es = c.self.inside.children.entries in
    let absent = sym c.in-None.ensures.value in
    let node_missing : child s c.args.self.now ≡ None = ap (child s) (sym c.self.view_is) ∙ child-missing s c.self.inside.root es absent in
    c.made_vector.ensures f (is ∙ ap (λ o. extent_of (f (at_or_void rest o))) node_missing)
    ∙ ap (λ n. trees_extent (change_nth n (change rest f) no_trees)) c.place-in-None.ensures
    ∙ ap (λ ts. trees_extent (change_nth (index_of s) (change rest f) ts))
    (sym (under-missing s.name es absent) ∙ ap (λ t. under s.name (children_of t)) c.self.view_is)
