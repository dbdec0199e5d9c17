use Rattle.std.specs.Prelude.{codes}
use Rattle.explain_notes.proofs.Lists.{turn_of}
use Rattle.explain_text.specs.Noted.{note_lines}
use Rattle.explain_text.proofs.notes.with_notes.Goals as goal

pub loop-note-preserved : goal.loop-note-preserved
loop-note-preserved c =
    turn_of (note_lines c.args.file.now c.args.text.now) (codes "ok\n") _ _ _ _ _ c.loop-note-test.true c.note-item.is c.loop-note.invariant c.in_ok-add_note.ensures
