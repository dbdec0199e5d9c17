use Rattle.std.proofs.Common.{◌≡◌, IfOk, ap, subst, ◌∙◌}
use Rattle.explain_notes.specs.Notes.{notes_of}
use Rattle.explain_text.specs.Noted.{noted_text}
use Rattle.explain_text.proofs.notes.notes_on.Goals as goal

pub returns : goal.returns
returns c =
    subst (λ ns. IfOk c.with_notes.result (λ bytes. bytes.items ≡ noted_text c.args.file.now c.args.text.now ns))
    (c.as_slice.ensures.value ∙ c.in_ok-notes.ensures ∙ ap notes_of c.definitions.ensures.value) c.with_notes.ensures
