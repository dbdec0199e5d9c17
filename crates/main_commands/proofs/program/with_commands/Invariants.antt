use Rattle.std.proofs.Common.{◌≡◌, map, drop}
use Rattle.clap.specs.Words.{app_of}
use Rattle.main_commands.specs.Rows.{command_words}
use Rattle.main_commands.specs.Grammar.{with_commands}
use Rattle.main_commands.proofs.program.with_commands.Given as goal

abbrev pub invariant-loop-row : goal.invariant-loop-row
invariant-loop-row l =
    with_commands (app_of l.program) (map command_words (drop l.row-index l.rows)) ≡ with_commands (app_of l.fn.program) (map command_words l.rows)
