-- The root of the value is put there, where it passes no limit.
use Rattle.std.proofs.Common.{◌≡◌, Some, ◌∙◌, rules}
use Rattle.behaviour_tree.specs.Values.{steps_of, value}
use Rattle.behaviour_tree.specs.View.{expr_view, path_view}
use Rattle.jolie_trees.specs.Trees.{root_of}
use Rattle.session_values.specs.Effects.{together}
use Rattle.session_values.proofs.Stored.{assign_faults}
use Rattle.session_values.proofs.changes.assign.Goals as goal

pub returns-in_ok-put_root-in-Some-clause-fault : goal.returns-in_ok-put_root-in-Some-clause-fault
returns-in_ok-put_root-in-Some-clause-fault c =
    let store = c.args.memory.now.store in
    let path = steps_of store (path_view c.args.path.now) in
    let v = value store (expr_view c.args.expr.now) in
    let placed : Some (c.in-Some.field-0.path.steps, c.in-Some.field-0.value) ≡ together path v = search rules in
    let root : c.in_ok-root-in-Some.root ≡ root_of c.in-Some.field-0.value = search rules in
    c.unless_done.ensures
    ∙ assign_faults store path v (c.in-Some.field-0.path.steps, c.in-Some.field-0.value) c.in_ok-root-in-Some.root c.in_ok-put_root-in-Some.field-0 placed root c.in_ok-put_root-in-Some.ensures.done
