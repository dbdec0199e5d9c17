use Rattle.std.proofs.Common.{◌∙◌, sym, ap, slice_get}
use Rattle.jolie_trees.proofs.Entries.{nth-get}
use Rattle.jolie_trees.proofs.tree.Members.at.Goals as goal

pub returns : goal.returns
returns c = rw (← c.self.view_is) (c.at.ensures ∙ ap (λ ts. slice_get ts c.args.place) c.as_slice.ensures.value ∙ sym (nth-get c.args.place c.self.inside.list.items))
