-- A program runs by the first link, and another text is refused.
use Rattle.std.proofs.Common.{refl}
use Rattle.jolie_main.proofs.CommandsDone.{not_run, ran}
use Rattle.check_verdicts.proofs.TextsAsPrograms.{has_some}
use Rattle.jolie_main.proofs.top.run_text.Goals as goal

pub run_program-requires-clause-some : goal.run_program-requires-clause-some
run_program-requires-clause-some g c = has_some c.args.text.now _ c.in-Ok.program c.in_ok-program.ensures c.in-Ok.is

pub returns-in-Err-clause-runs : goal.returns-in-Err-clause-runs
returns-in-Err-clause-runs g c =
    λ n doors. not_run c.args.command.now c.args.text.now _ c.in-Err.refusal c.refuse.result n _ _ _ _ doors _ c.in_ok-program.ensures
    c.in-Err.is c.refuse.ensures.status c.refuse.ensures.written c.refuse.ensures.empty

pub returns-clause-runs : goal.returns-clause-runs
returns-clause-runs g c =
    λ n doors. ran c.args.command.now c.args.text.now _ c.in-Ok.program c.run_program.result _ c.in_ok-program.ensures c.in-Ok.is
    (c.run_program.ensures.lined n doors)
