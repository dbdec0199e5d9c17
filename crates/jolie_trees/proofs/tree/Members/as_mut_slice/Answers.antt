use Rattle.std.proofs.Common.{refl, ap, sym, ◌∙◌}
use Rattle.jolie_trees.specs.Lending.{written_over}
use Rattle.jolie_trees.specs.TreeView.{trees_of}
use Rattle.jolie_trees.proofs.Lent.{written_through}
use Rattle.jolie_trees.proofs.tree.Members.as_mut_slice.Goals as goal

pub returns : goal.returns
returns c =
    let list = c.self.inside.list in (
      (refl, λ ws. written_through ws list.items list.len (sym list.ok.0) ∙ ap (written_over ws) c.self.view_is),
      record { writes_back = tt; value = ap trees_of c.as_mut_slice.ensures.value ∙ c.self.view_is },
    )
