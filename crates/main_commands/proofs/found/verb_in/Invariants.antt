use Rattle.std.proofs.Common.{◌≡◌, map, drop}
use Rattle.main_commands.specs.Rows.{command_words}
use Rattle.main_commands.specs.Usage.{verb_in}
use Rattle.main_commands.proofs.found.verb_in.Given as goal

abbrev pub invariant-loop-row : goal.invariant-loop-row
invariant-loop-row l = verb_in (map command_words (drop l.row-index l.rows)) l.name ≡ verb_in (map command_words l.rows) l.name
