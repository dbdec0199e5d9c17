use Rattle.std.proofs.Common.{◌∙◌, ap, sym, arith}
use Rattle.jolie_trees.specs.Trees.{left_of, without_nth}
use Rattle.jolie_trees.specs.TreeView.{trees_of}
use Rattle.jolie_trees.proofs.Vectors.{without_nth-within, without_nth-beyond}
use Rattle.jolie_trees.proofs.tree.Members.leave.Goals as goal

pub returns-then-place-len : goal.returns-then-place-len
returns-then-place-len c =
    let n = c.in-Some.index in
    let xs = c.self.inside.list.items in
    ap trees_of c.remove.ensures.items
    ∙ without_nth-within n xs (omega (arith, c.if-place-len.true))
    ∙ ap (without_nth n) c.self.view_is
    ∙ ap (λ o. left_of o c.args.self.now) (sym c.in-Some.is)

pub returns-else-place-len : goal.returns-else-place-len
returns-else-place-len c =
    let n = c.in-Some.index in
    let xs = c.self.inside.list.items in
    sym c.self.view_is
    ∙ sym (without_nth-beyond n xs (omega (arith, c.if-place-len.false)))
    ∙ ap (without_nth n) c.self.view_is
    ∙ ap (λ o. left_of o c.args.self.now) (sym c.in-Some.is)
