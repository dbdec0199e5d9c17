use Rattle.std.proofs.Common.{◌≡◌, ◌++◌, drop}
use Rattle.explain_notes.specs.Notes.{notes_after}
use Rattle.explain_notes.proofs.rules.add_unknown.Given as goal

abbrev pub invariant-loop-mention : goal.invariant-loop-mention
invariant-loop-mention l =
    l.notes.items ++ notes_after l.kind l.known (drop l.mention-index l.mentions)
    ≡ l.initial.notes.items ++ notes_after l.kind l.initial.known l.mentions
