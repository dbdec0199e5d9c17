use Rattle.std.proofs.Common.{◌≡◌, [], ◌++◌, drop, false}
use Rattle.explain_notes.specs.Notes.{called_after}
use Rattle.explain_notes.proofs.rules.add_called_after.Given as goal

abbrev pub invariant-loop-mention : goal.invariant-loop-mention
invariant-loop-mention l =
    l.notes.items ++ called_after l.ports l.known l.there (drop l.mention-index l.mentions)
    ≡ l.initial.notes.items ++ called_after l.ports [] false l.mentions
