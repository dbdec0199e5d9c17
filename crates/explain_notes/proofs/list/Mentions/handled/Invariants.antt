use Rattle.std.proofs.Common.{◌≡◌, take}
use Rattle.explain_notes.specs.Mentions.{is_handled, names_in}
use Rattle.explain_notes.proofs.list.Mentions.handled.Given as goal

abbrev pub invariant-loop-mention : goal.invariant-loop-mention
invariant-loop-mention l = l.names ≡ names_in is_handled (take l.mention-index l.self)
