use Rattle.std.proofs.Common.{sym, ◌∙◌}
use Rattle.jolie_trees.proofs.Entries.{under-found, under-missing}
use Rattle.jolie_trees.proofs.tree.Tree.members.Goals as goal

pub returns-in-Some : goal.returns-in-Some
returns-in-Some c =
    rw (← c.self.view_is) (c.as_slice.ensures ∙ sym (under-found c.args.name.now _ c.in-Some.members.now (sym c.in-Some.ensures.value)))

pub returns-in-None : goal.returns-in-None
returns-in-None c = rw (← c.self.view_is) (sym (under-missing c.args.name.now _ (sym c.in-None.ensures.value)))
