use Rattle.std.proofs.Common.{◌≡◌, ◌++◌, map, drop}
use Rattle.behaviour_tree.specs.View.{path_of, step_view}
use Rattle.session_calculus.specs.Effects.{written_steps}
use Rattle.session_values.proofs.written.written_path.Given as goal

abbrev pub invariant-loop-step : goal.invariant-loop-step
invariant-loop-step l = l.steps ++ written_steps (path_of (map step_view (drop l.step-index l.step-items))) ≡ written_steps (path_of (map step_view l.step-items))
