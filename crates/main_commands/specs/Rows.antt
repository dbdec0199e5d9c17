-- These definitions serve the proofs alone: no promise speaks of them.
-- The rows of the code's table, as the definitions have them.
use Rattle.std.specs.Prelude.{map}
use Rattle.main_commands.specs.declared.table.OperandRow.{OperandRow}
use Rattle.main_commands.specs.declared.table.Takes.{Takes}
use Rattle.main_commands.specs.declared.table.OptionRow.{OptionRow}
use Rattle.main_commands.specs.declared.table.CommandRow.{CommandRow}
use Rattle.main_commands.specs.Table.{CommandWords, OptionWords}

-- what an operand is
abbrev pub operand_words : OperandRow → Takes
operand_words row = row.takes

-- an option with its name and what it takes
abbrev pub option_words : OptionRow → OptionWords
option_words row = record { name = row.name.now; takes = row.takes }

-- a command with what it asks for, its name, its operands and its options
abbrev pub command_words : CommandRow → CommandWords
command_words row = record {
  verb = row.verb;
  name = row.name.now;
  operands = map operand_words row.operands.now;
  options = map option_words row.options.now;
}
