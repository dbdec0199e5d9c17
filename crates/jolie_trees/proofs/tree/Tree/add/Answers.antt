use Rattle.std.proofs.Common.{◌∙◌, ap}
use Rattle.jolie_trees.specs.Data.{node}
use Rattle.jolie_trees.specs.TreeView.{fields_of}
use Rattle.jolie_trees.specs.Changes.{with_vector}
use Rattle.jolie_trees.proofs.Names.{fields_of-insert_entry}
use Rattle.jolie_trees.proofs.tree.Tree.add.Goals as goal

pub returns-clause-ok : goal.returns-clause-ok
returns-clause-ok c =
    let es = c.self.inside.children.entries in
    let r = c.self.inside.root in
    rw (← c.self.view_is)
    (ap (λ m. node r (fields_of m)) c.in_ok-insert.ensures.entries
    ∙ ap (node r) (fields_of-insert_entry c.in_ok-name.name c.args.members es)
    ∙ ap (λ n. with_vector n c.args.members (node r (fields_of es))) c.in_ok-name.ensures)
