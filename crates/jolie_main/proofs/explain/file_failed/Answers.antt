-- What each command writes of a file that can't be read.
use Rattle.std.proofs.Common.{refl}
use Rattle.main_commands.specs.declared.table.Action.TheVariants as action
use Rattle.jolie_main.proofs.CommandsDone.{tells, tells_line}
use Rattle.jolie_main.proofs.explain.file_failed.Goals as goal

pub returns-in-Check-clause-told : goal.returns-in-Check-clause-told
returns-in-Check-clause-told g c = tells c.args.command.now action.Check _ _ c.in-Check.is refl

pub returns-in-Explain-clause-told : goal.returns-in-Explain-clause-told
returns-in-Explain-clause-told g c =
    tells_line c.args.command.now c.as_str.result.now c.explain_failed.result _ _ c.in-Explain.is c.as_str.ensures
    c.explain_failed.ensures.written

pub returns-in-Print-clause-told : goal.returns-in-Print-clause-told
returns-in-Print-clause-told g c = tells c.args.command.now action.Print _ _ c.in-Print.is refl

pub returns-in-Run-clause-told : goal.returns-in-Run-clause-told
returns-in-Run-clause-told g c = tells c.args.command.now action.Run _ _ c.in-Run.is refl

pub returns-in-Serve-clause-told : goal.returns-in-Serve-clause-told
returns-in-Serve-clause-told g c = tells c.args.command.now action.Serve _ _ c.in-Serve.is refl
