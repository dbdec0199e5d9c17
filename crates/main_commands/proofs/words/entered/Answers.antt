-- What was found is what is said of what was asked for.
use Rattle.clap.specs.Words.{subcommand_rows_of}
use Rattle.main_commands.specs.Usage.{asked_in}
use Rattle.main_commands.proofs.WordsUnderstood.{found_said}
use Rattle.main_commands.proofs.words.entered.Goals as goal
use Rattle.std.proofs.Common.{rules}

pub returns : goal.returns
returns c = found_said (asked_in (subcommand_rows_of c.args.matches.now)) c.in-Some.words (search rules)
