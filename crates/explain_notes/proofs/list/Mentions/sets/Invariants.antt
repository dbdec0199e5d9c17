use Rattle.std.proofs.Common.{◌≡◌, drop}
use Rattle.explain_notes.specs.Mentions.{sets}
use Rattle.explain_notes.proofs.list.Mentions.sets.Given as goal

abbrev pub invariant-loop-mention : goal.invariant-loop-mention
invariant-loop-mention l = sets l.variable (drop l.mention-index l.self) ≡ sets l.variable l.self
