-- The node is the one of its index among those under the name.
use Rattle.std.proofs.Common.{rules, ◌≡◌, Some, sym, ap, ◌∙◌}
use Rattle.std.specs.Prelude.{option_and_then}
use Rattle.std.specs.Option.{option_copied}
use Rattle.jolie_trees.specs.Trees.{child}
use Rattle.behaviour_tree.specs.Values.{stepped}
use Rattle.jolie_expr.proofs.Below.{below_there}
use Rattle.jolie_expr.proofs.evaluate.node_below.Goals as goal

pub returns-in-Some : goal.returns-in-Some
returns-in-Some c =
    let there : option_copied c.args.node ≡ Some c.in-Some.tree.now = search rules in
    below_there c.args.name.now c.args.index c.in-Some.tree.now c.members.result.now c.place_in.result _ c.members.ensures c.place_in.ensures c.at.ensures
    ∙ ap (option_and_then (child (stepped c.args.name.now c.args.index))) (sym there)
