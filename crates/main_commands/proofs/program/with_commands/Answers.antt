use Rattle.std.proofs.Common.{◌∙◌, ap}
use Rattle.clap.specs.Words.{App, app_of, with_subcommand}
use Rattle.main_commands.proofs.TableFolds.{commands_next}
use Rattle.main_commands.proofs.program.with_commands.Goals as goal

pub loop-row-preserved : goal.loop-row-preserved
loop-row-preserved c =
    commands_next (app_of c.loop-row.program) (app_of c.in_ok-program.program) c.args.rows.now c.loop-row.row-index _ c.loop-row-test.true
    (c.in_ok-program.ensures.shape c.in_ok-command.ensures.local
    ∙ ap (λ (a : App). with_subcommand (app_of c.loop-row.program) a.top) c.in_ok-command.ensures.shape) ∙ c.loop-row.invariant
