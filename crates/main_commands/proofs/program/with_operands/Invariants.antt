use Rattle.std.proofs.Common.{◌≡◌, map, drop, false}
use Rattle.clap.specs.Words.{app_of}
use Rattle.clap.specs.declared.builder.Command.TheViews.{out-Command as fields_of}
use Rattle.main_commands.specs.Rows.{operand_words}
use Rattle.main_commands.specs.Grammar.{operand_rule, with_rules}
use Rattle.main_commands.proofs.program.with_operands.Given as goal

abbrev pub invariant-loop-row : goal.invariant-loop-row
invariant-loop-row l = record {
  shape : with_rules (app_of l.command) (map operand_rule (map operand_words (drop l.row-index l.rows))) ≡ with_rules (app_of l.fn.command) (map operand_rule (map operand_words l.rows));
  local : (fields_of l.fn.command).has_globals ≡ false → (fields_of l.command).has_globals ≡ false;
}
