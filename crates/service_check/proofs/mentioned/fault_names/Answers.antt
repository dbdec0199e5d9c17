use Rattle.std.proofs.Common.{ap, ◌∙◌}
use Rattle.service_check.specs.MentionedParts.{fault_text}
use Rattle.check_base.specs.Repeated.{with_text}
use Rattle.service_check.proofs.Mentions.{text_turn}
use Rattle.service_check.proofs.mentioned.fault_names.Goals as goal

pub loop-fault-preserved : goal.loop-fault-preserved
loop-fault-preserved c =
    text_turn fault_text c.args.names.now c.loop-fault.names c.include.new.names c.args.faults.now c.loop-fault.fault-index c.fault-item.result c.loop-fault-test.true c.fault-item.is c.loop-fault.invariant (c.in_ok-include.ensures ∙ ap (with_text c.loop-fault.names) c.as_str.ensures)
