use Rattle.std.proofs.Common.{◌≡◌, ◌+◌, ap, ◌∙◌, arith, drop}
use Rattle.std.proofs.lemmas.List.{at_drop_all}
use Rattle.jolie_trees.specs.Trees.{text_bytes, fields_bytes, trees_bytes, root_bytes}
use Rattle.jolie_trees.specs.TreeView.{trees_of, fields_of}
use Rattle.jolie_trees.proofs.tree.+text_bytes.Goals as goal

pub Members::text_bytes-returns : goal.Members::text_bytes-returns
Members::text_bytes-returns t c =
    let items = c.deref-tree-items.result.now in
    let none : trees_bytes (trees_of (drop c.loop-tree.tree-index items)) ≡ 0 = at_drop_all (λ ts. trees_bytes (trees_of ts)) items c.loop-tree.tree-index c.loop-tree-test.false in
    let same : trees_bytes (trees_of items) ≡ trees_bytes c.args.self.now = ap (λ ts. trees_bytes (trees_of ts)) c.deref-tree-items.ensures.value ∙ ap trees_bytes c.self.view_is in
    omega (arith, none, same, c.loop-tree.invariant.0, c.loop-tree.invariant.1)

pub Tree::text_bytes-returns : goal.Tree::text_bytes-returns
Tree::text_bytes-returns t c =
    let none : fields_bytes (fields_of c.loop-name.name-iterator) ≡ 0 = ap (λ es. fields_bytes (fields_of es)) c.in-None.ensures.steps.0 in
    let all : fields_bytes (fields_of c.into_iter-name-iterator.result) ≡ fields_bytes (fields_of c.self.inside.children.entries) = ap (λ es. fields_bytes (fields_of es)) (c.into_iter-name-iterator.ensures.into_iter_gives ∙ c.iter-name-items.ensures.rest) in
    let same : root_bytes c.self.inside.root + fields_bytes (fields_of c.self.inside.children.entries) ≡ text_bytes c.args.self.now = ap text_bytes c.self.view_is in
    omega (arith, none, all, same, c.loop-name.invariant.0, c.loop-name.invariant.1, c.root_bytes-bytes.ensures)
