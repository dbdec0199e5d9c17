use Rattle.std.proofs.Common.{◌≡◌, ◌++◌, drop}
use Rattle.explain_notes.specs.Notes.{first_known}
use Rattle.explain_notes.proofs.rules.add_first_known.Given as goal

abbrev pub invariant-loop-mention : goal.invariant-loop-mention
invariant-loop-mention l =
    l.notes.items ++ first_known l.kind l.known (drop l.mention-index l.mentions)
    ≡ l.initial.notes.items ++ first_known l.kind l.known l.mentions
