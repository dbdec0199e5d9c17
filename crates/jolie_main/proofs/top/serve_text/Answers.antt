-- A program is served by the first link, and another text is refused.
use Rattle.std.proofs.Common.{refl}
use Rattle.jolie_main.proofs.CommandsDone.{not_served, served}
use Rattle.check_verdicts.proofs.TextsAsPrograms.{has_some}
use Rattle.jolie_main.proofs.top.serve_text.Goals as goal

pub serve_program-requires-clause-some : goal.serve_program-requires-clause-some
serve_program-requires-clause-some g c = has_some c.args.text.now _ c.in-Ok.program c.in_ok-program.ensures c.in-Ok.is

pub returns-in-Err-clause-serves : goal.returns-in-Err-clause-serves
returns-in-Err-clause-serves g c =
    λ n source. not_served _ c.args.command.now c.args.text.now _ c.in-Err.refusal c.refuse.result n source _ _ _ _ _
    c.in_ok-program.ensures c.in-Err.is c.refuse.ensures.status c.refuse.ensures.written c.refuse.ensures.empty

pub returns-clause-serves : goal.returns-clause-serves
returns-clause-serves g c =
    λ n source. served _ c.args.command.now c.args.text.now _ c.in-Ok.program c.serve_program.result _ c.in_ok-program.ensures
    c.in-Ok.is (c.serve_program.ensures.doored n source _)
