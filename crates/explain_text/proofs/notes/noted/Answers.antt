use Rattle.explain_text.proofs.Programs.{is_noted}
use Rattle.explain_text.proofs.notes.noted.Goals as goal

pub returns : goal.returns
returns c =
    is_noted c.args.file.now c.args.text.now c.in_ok-bytes.bytes.items c.in_ok-definitions.field-0 c.in-Ok.definitions
    c.in_ok-definitions.ensures c.in-Ok.is c.in_ok-bytes.ensures
