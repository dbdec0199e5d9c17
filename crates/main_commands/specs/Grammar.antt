-- The program as `clap` reads it, folded over the table of the commands.
use Rattle.std.specs.Prelude.{List, Some, true, codes, map, fold}
use Rattle.clap.specs.Words.{App, Rule, new_app, new_rule, with_rule, with_subcommand}
use Rattle.clap.specs.declared.builder.value_parser.ValueParser.{ValueParser}
use Rattle.clap.specs.declared.builder.value_parser.ValueParser.TheVariants as parser
use Rattle.main_commands.specs.declared.table.Takes.{Takes}
use Rattle.main_commands.specs.declared.table.Takes.TheVariants as takes
use Rattle.main_commands.specs.Table.{CommandWords, OptionWords, commands}

-- which values are let through: numbers in the range, or any text
abbrev pub parser_of : Takes → ValueParser
parser_of (takes.Number least most) = parser.Unsigned least most
parser_of takes.Text = parser.String

-- the operand of a command, which has to be given
abbrev pub operand_rule : Takes → Rule
operand_rule what = record (new_rule (codes "operand")) {
  required = true;
  value_names = 1;
  parser = Some (parser_of what);
}

-- an option, with its value
abbrev pub option_rule : OptionWords → Rule
option_rule option = record (new_rule option.name) {
  long = Some option.name;
  value_names = 1;
  parser = Some (parser_of option.takes);
}

-- a command with further arguments
abbrev pub with_rules : App → List Rule → App
with_rules = fold with_rule

-- a command of the table
abbrev pub command_app : CommandWords → App
command_app command =
    with_rules (with_rules (new_app command.name) (map operand_rule command.operands)) (map option_rule command.options)

-- the program without its commands: it wants one, and shows its help where there is no word
abbrev pub bare_program : App
bare_program = record (new_app (codes "roqsulei")) {
  top = record (new_app (codes "roqsulei")).top {
    no_binary_name = true;
    has_version = true;
    subcommand_required = true;
    arg_required_else_help = true;
  };
}

-- the program with one more command
abbrev pub with_command : App → CommandWords → App
with_command program command = with_subcommand program (command_app command).top

-- the program with further commands
abbrev pub with_commands : App → List CommandWords → App
with_commands = fold with_command

-- the program with its commands
abbrev pub program : App
program = with_commands bare_program commands
