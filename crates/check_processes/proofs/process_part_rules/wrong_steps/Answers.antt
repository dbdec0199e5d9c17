use Rattle.check_processes.specs.ProcessRules.{wrong_step}
use Rattle.check_base.proofs.Joined.{turn_of}
use Rattle.check_processes.proofs.process_part_rules.wrong_steps.Goals as goal

pub loop-step-preserved : goal.loop-step-preserved
loop-step-preserved c =
    turn_of wrong_step _ _ _ _ _ _ c.loop-step-test.true c.step-item.is c.loop-step.invariant c.wrong_step.ensures
