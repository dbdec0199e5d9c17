use Rattle.std.proofs.Common.{◌≡◌, take, flat_map}
use Rattle.check_base.specs.Least.{joined}
use Rattle.check_processes.specs.ProcessRules.{wrong_step}
use Rattle.check_processes.proofs.process_part_rules.wrong_steps.Given as goal

abbrev pub invariant-loop-step : goal.invariant-loop-step
invariant-loop-step l = l.least ≡ joined l.initial.least (flat_map wrong_step (take l.step-index l.steps))
