use Rattle.std.proofs.Common.{ap, sym, ◌∙◌}
use Rattle.jolie_trees.specs.Trees.{nth}
use Rattle.jolie_trees.proofs.Entries.{child-found, child-missing}
use Rattle.jolie_trees.proofs.tree.Tree.child.Goals as goal

pub returns-in-Some : goal.returns-in-Some
returns-in-Some c =
    rw (← c.self.view_is) (c.at.ensures ∙ ap (λ n. nth n c.in-Some.members.now) c.place.ensures
    ∙ sym (child-found c.args.step.now c.self.inside.root _ c.in-Some.members.now (sym c.in-Some.ensures.value)))

pub returns-in-None : goal.returns-in-None
returns-in-None c = rw (← c.self.view_is) (sym (child-missing c.args.step.now c.self.inside.root _ (sym c.in-None.ensures.value)))
