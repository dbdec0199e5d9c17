use Rattle.std.proofs.Common.{◌≡◌, drop}
use Rattle.explain_notes.specs.Mentions.{undoes}
use Rattle.explain_notes.proofs.list.Mentions.undoes.Given as goal

abbrev pub invariant-loop-mention : goal.invariant-loop-mention
invariant-loop-mention l = undoes (drop l.mention-index l.self) ≡ undoes l.self
