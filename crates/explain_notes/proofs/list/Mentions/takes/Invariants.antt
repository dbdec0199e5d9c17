use Rattle.std.proofs.Common.{◌≡◌, drop}
use Rattle.explain_notes.specs.Mentions.{takes}
use Rattle.explain_notes.proofs.list.Mentions.takes.Given as goal

abbrev pub invariant-loop-mention : goal.invariant-loop-mention
invariant-loop-mention l = takes (drop l.mention-index l.self) ≡ takes l.self
