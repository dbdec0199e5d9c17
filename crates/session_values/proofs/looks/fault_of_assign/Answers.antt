-- The root of the value could be put there, where it passes no limit.
use Rattle.std.proofs.Common.{◌≡◌, Some, ◌∙◌, rules}
use Rattle.behaviour_tree.specs.Values.{steps_of, value}
use Rattle.behaviour_tree.specs.View.{expr_view, path_view}
use Rattle.session_values.specs.Effects.{together}
use Rattle.session_values.proofs.Stored.{fits_faults}
use Rattle.session_values.proofs.looks.fault_of_assign.Goals as goal

pub returns-in-Some : goal.returns-in-Some
returns-in-Some c =
    let store = c.args.memory.now.store in
    let path = steps_of store (path_view c.args.path.now) in
    let v = value store (expr_view c.args.expr.now) in
    let placed : Some (c.in-Some.placed.path.steps, c.in-Some.placed.value) ≡ together path v = search rules in
    c.unless_done.ensures ∙ fits_faults store path v (c.in-Some.placed.path.steps, c.in-Some.placed.value) c.fits_root.result placed c.fits_root.ensures
