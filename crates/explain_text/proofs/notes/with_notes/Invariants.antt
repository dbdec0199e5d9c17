use Rattle.std.proofs.Common.{◌≡◌, take}
use Rattle.explain_text.specs.Noted.{noted_text}
use Rattle.explain_text.proofs.notes.with_notes.Given as goal

abbrev pub invariant-loop-note : goal.invariant-loop-note
invariant-loop-note l = l.bytes.items ≡ noted_text l.file l.text (take l.note-index l.notes)
