use Rattle.std.proofs.Common.{◌≡◌, take}
use Rattle.explain_notes.specs.Notes.{notes_in}
use Rattle.explain_notes.proofs.service.notes_in.Given as goal

abbrev pub invariant-loop-definition : goal.invariant-loop-definition
invariant-loop-definition l = l.notes.items ≡ notes_in l.facts (take l.definition-index l.file)
