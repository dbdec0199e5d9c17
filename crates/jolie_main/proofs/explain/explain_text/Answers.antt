-- What is said of a program, and of another text.
use Rattle.jolie_main.proofs.CommandsDone.{explained_as_ok, explained_so, written_of}
use Rattle.jolie_main.proofs.explain.explain_text.Goals as goal

pub returns-in-Ok-clause-explains : goal.returns-in-Ok-clause-explains
returns-in-Ok-clause-explains g c =
    explained_as_ok c.args.file.now c.args.text.now c.as_slice.result.now c.in_ok-lines.field-0 c.in-Ok.lines
    c.tell.result.status _ _ c.in_ok-lines.ensures c.in-Ok.is c.as_slice.ensures.value c.tell.ensures.says

pub returns-clause-explains : goal.returns-clause-explains
returns-clause-explains g c =
    explained_so c.args.file.now c.args.text.now c.in_ok-lines-2.lines.items c.in_ok-lines.field-0 c.in-Err.refusal
    c.without_record.result.status _ _ c.in_ok-lines.ensures c.in-Err.is c.in_ok-lines-2.ensures
    c.without_record.ensures.status
    (written_of c.say.result c.as_slice-2.result.now c.in_ok-lines-2.lines.items _ _ c.say.ensures c.as_slice-2.ensures.value)
