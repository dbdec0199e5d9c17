-- What is found by name is what the parser entered.
use Rattle.std.proofs.Common.{rules, Some, None, ap}
use Rattle.std.specs.Prelude.{option_map}
use Rattle.clap.specs.Words.{found_of, rows_of}
use Rattle.main_commands.specs.Usage.{said_by}
use Rattle.main_commands.proofs.AmongMatches.{entered_as, file_said, load_said}
use Rattle.main_commands.proofs.found.words_found.Goals as goal

pub returns-in_default-operand_given : goal.returns-in_default-operand_given
returns-in_default-operand_given c =
    ap (option_map said_by)
    (entered_as c.args.matches.now c.in-Some.name.now (rows_of (found_of c.in-Some.given.now)) (Some c.in-Some-verb_called.verb) None
    (search rules) (search rules) (search rules) (search rules))

pub returns-in_default-action : goal.returns-in_default-action
returns-in_default-action c =
    load_said c.args.matches.now c.in-Some.name.now (rows_of (found_of c.in-Some.given.now)) c.in-Some-verb_called.verb c.in-Some-operand_given.operand.now
    (search rules) (search rules) (search rules) (search rules) c.number_of.result (search rules) c.number_of.ensures

pub returns : goal.returns
returns c =
    file_said c.args.matches.now c.in-Some.name.now (rows_of (found_of c.in-Some.given.now)) c.in-Some-verb_called.verb c.in-Some-operand_given.operand.now
    (search rules) (search rules) (search rules) (search rules) c.in-Some-action.action c.in_ok-file_words.field-0 (search rules) c.in_ok-file_words.ensures
