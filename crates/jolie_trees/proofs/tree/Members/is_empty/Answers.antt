use Rattle.std.proofs.Common.{◌≡◌, ◌∙◌, sym, arith, length}
use Rattle.std.proofs.lemmas.Bool.Decides.{nat_tests}
use Rattle.jolie_trees.proofs.Vectors.{trees_of-empty, trees_of-none}
use Rattle.jolie_trees.proofs.tree.Members.is_empty.Goals as goal

pub returns : goal.returns
returns c =
    let xs = c.self.inside.list.items in (
      λ h. sym c.self.view_is ∙ trees_of-none xs (grind (arith, nat_tests, h, c.is_empty.ensures)),
      λ e. let none : length xs ≡ 0 = trees_of-empty xs (c.self.view_is ∙ e) in grind (arith, nat_tests, none, c.is_empty.ensures),
    )
