use Rattle.std.proofs.Common.{◌≡◌, ◌++◌, take}
use Rattle.explain_notes.specs.Notes.{fault_names}
use Rattle.explain_notes.proofs.declared.add_faults.Given as goal

abbrev pub invariant-loop-fault : goal.invariant-loop-fault
invariant-loop-fault l = l.names ≡ l.initial.names ++ fault_names (take l.fault-index l.faults)
