use Rattle.std.proofs.Common.{◌∙◌, ap}
use Rattle.jolie_trees.specs.Trees.{with_last}
use Rattle.jolie_trees.specs.TreeView.{trees_of}
use Rattle.jolie_trees.proofs.Vectors.{with_last-append}
use Rattle.jolie_trees.proofs.tree.Members.push.Goals as goal

pub returns-clause-ok : goal.returns-clause-ok
returns-clause-ok c =
    ap trees_of c.in_ok-push.ensures.items ∙ with_last-append c.args.child c.self.inside.list.items ∙ ap (with_last c.args.child) c.self.view_is
