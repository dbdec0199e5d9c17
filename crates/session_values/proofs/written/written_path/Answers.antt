-- The path is written step by step.
use Rattle.std.proofs.Common.{◌≡◌, ◌+◌, ◌++◌, map, sym, ap, ◌∙◌}
use Rattle.behaviour_tree.specs.View.{path_of, path_view, step_view}
use Rattle.session_calculus.specs.Effects.{written_steps}
use Rattle.session_values.proofs.WrittenSteps.{goes_on, path_of_steps, path_written, steps_from}
use Rattle.session_values.proofs.written.written_path.Goals as goal

pub loop-step-preserved : goal.loop-step-preserved
loop-step-preserved c =
    let xs = c.deref-step-items.result.now in
    let i = c.loop-step.step-index in
    ap (λ ys. ys ++ steps_from xs (i + 1)) c.in_ok-push.ensures.ok
    ∙ goes_on xs i c.step-item.result c.loop-step.steps c.in_ok-written_step.field-0 c.loop-step-test.true c.step-item.is c.in_ok-written_step.ensures
    ∙ c.loop-step.invariant

pub returns : goal.returns
returns c =
    let xs = c.deref-step-items.result.now in
    let same : path_of (map step_view xs) ≡ path_view c.args.path.now =
    ap (λ ys. path_of (map step_view ys)) c.deref-step-items.ensures.value ∙ path_of_steps c.args.path.now in
    sym (path_written xs c.loop-step.step-index c.loop-step.steps c.loop-step-test.false) ∙ c.loop-step.invariant ∙ ap written_steps same
