-- Words without a fault enter a command, and others are told by their fault.
use Rattle.std.proofs.lemmas.Result.{IfOk-weaker}
use Rattle.clap.specs.Words.{subcommand_rows_of}
use Rattle.main_commands.specs.Usage.{spelled}
use Rattle.main_commands.proofs.WordsUnderstood.{command_is_there, understood_entered, understood_told}
use Rattle.main_commands.proofs.words.understood.Goals as goal

pub entered-requires : goal.entered-requires
entered-requires c = command_is_there (spelled c.args.words.now) (subcommand_rows_of c.in-Ok.matches) c.in-Ok.ensures.entered c.in-Ok.ensures.kinds

pub returns-in-Ok-clause-understood : goal.returns-in-Ok-clause-understood
returns-in-Ok-clause-understood c =
    IfOk-weaker c.entered.result _ _
    (λ said found. (understood_entered (spelled c.args.words.now) said (subcommand_rows_of c.in-Ok.matches) c.in-Ok.ensures.entered c.in-Ok.ensures.kinds found).understood)
    c.entered.ensures

pub returns-in-Ok-clause-plainly : goal.returns-in-Ok-clause-plainly
returns-in-Ok-clause-plainly c =
    IfOk-weaker c.entered.result _ _
    (λ said found. (understood_entered (spelled c.args.words.now) said (subcommand_rows_of c.in-Ok.matches) c.in-Ok.ensures.entered c.in-Ok.ensures.kinds found).plainly)
    c.entered.ensures

pub returns-in-Err-clause-understood : goal.returns-in-Err-clause-understood
returns-in-Err-clause-understood c =
    IfOk-weaker c.told.result _ _
    (λ said told. (understood_told (spelled c.args.words.now) said c.in-Err.error c.in-Err.ensures.kinds told).understood) c.told.ensures

pub returns-in-Err-clause-plainly : goal.returns-in-Err-clause-plainly
returns-in-Err-clause-plainly c =
    IfOk-weaker c.told.result _ _
    (λ said told. (understood_told (spelled c.args.words.now) said c.in-Err.error c.in-Err.ensures.kinds told).plainly) c.told.ensures
