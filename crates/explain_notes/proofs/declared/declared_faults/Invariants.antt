use Rattle.std.proofs.Common.{◌≡◌, take}
use Rattle.explain_notes.specs.Notes.{declared_faults}
use Rattle.explain_notes.proofs.declared.declared_faults.Given as goal

abbrev pub invariant-loop-definition : goal.invariant-loop-definition
invariant-loop-definition l = l.names ≡ declared_faults (take l.definition-index l.file)
