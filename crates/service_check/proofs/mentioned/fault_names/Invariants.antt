use Rattle.std.proofs.Common.{◌≡◌, map, take}
use Rattle.service_check.specs.MentionedParts.{fault_text}
use Rattle.check_base.specs.Repeated.{with_texts}
use Rattle.service_check.proofs.mentioned.fault_names.Given as goal

abbrev pub invariant-loop-fault : goal.invariant-loop-fault
invariant-loop-fault l = l.names ≡ with_texts l.initial.names (map fault_text (take l.fault-index l.faults))
