use Rattle.std.proofs.Common.{◌≡◌, drop}
use Rattle.explain_notes.specs.Mentions.{faults}
use Rattle.explain_notes.proofs.list.Mentions.faults.Given as goal

abbrev pub invariant-loop-mention : goal.invariant-loop-mention
invariant-loop-mention l = faults (drop l.mention-index l.self) ≡ faults l.self
