use Rattle.std.proofs.Common.{◌≡◌, ◌++◌, take}
use Rattle.explain_notes.specs.Mentions.{names_in}
use Rattle.explain_notes.specs.Rules.{is_met}
use Rattle.explain_notes.proofs.rules.add_met.Given as goal

abbrev pub invariant-loop-mention : goal.invariant-loop-mention
invariant-loop-mention l = l.known ≡ l.initial.known ++ names_in (is_met l.kind) (take l.mention-index l.mentions)
