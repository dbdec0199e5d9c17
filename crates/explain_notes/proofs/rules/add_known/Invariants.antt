use Rattle.std.proofs.Common.{◌≡◌, ◌++◌, take}
use Rattle.explain_notes.specs.Notes.{notes_known}
use Rattle.explain_notes.proofs.rules.add_known.Given as goal

abbrev pub invariant-loop-mention : goal.invariant-loop-mention
invariant-loop-mention l = l.notes.items ≡ l.initial.notes.items ++ notes_known l.kind l.known (take l.mention-index l.mentions)
