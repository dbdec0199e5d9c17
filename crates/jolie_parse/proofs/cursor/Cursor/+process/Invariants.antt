use Rattle.std.proofs.Common.{◌≡◌, ◌+◌, ◌*◌, length}
use Rattle.jolie_parse.specs.ClassNames as c
use Rattle.jolie_parse.specs.Factored.{one_statement}
use Rattle.jolie_parse.specs.Grammar.{branch, handler, in_sequence}
use Rattle.jolie_parse.specs.Syntax.{behind, separated, some_of}
use Rattle.jolie_parse.specs.Reading.{read}
use Rattle.jolie_parse.specs.Reads.{more}
use Rattle.jolie_parse.proofs.cursor.Cursor.+process.Given as goal

abbrev pub decreases-alternative : goal.decreases-alternative
decreases-alternative l = l.levels * 20 + 2

abbrev pub decreases-answer : goal.decreases-answer
decreases-answer l = l.levels * 20 + 3

abbrev pub decreases-behind_else : goal.decreases-behind_else
decreases-behind_else l = l.levels * 20 + 3

abbrev pub decreases-block : goal.decreases-block
decreases-block l = l.levels * 20 + 1

abbrev pub decreases-block_statement : goal.decreases-block_statement
decreases-block_statement l = l.levels * 20 + 2

abbrev pub decreases-body : goal.decreases-body
decreases-body l = l.levels * 20 + 16

abbrev pub decreases-branch : goal.decreases-branch
decreases-branch l = l.levels * 20 + 2

abbrev pub decreases-branches : goal.decreases-branches
decreases-branches l = l.levels * 20 + 3

abbrev pub invariant-branches-loop-branches : goal.invariant-branches-loop-branches
invariant-branches-loop-branches l = read l.levels (some_of branch) l.fn.self ≡ more l.levels branch l.branches l.self

abbrev pub decreases-branches-loop-branches : goal.decreases-branches-loop-branches
decreases-branches-loop-branches l = length l.self

abbrev pub decreases-choice : goal.decreases-choice
decreases-choice l = l.levels * 20 + 4

abbrev pub decreases-conditional : goal.decreases-conditional
decreases-conditional l = l.levels * 20 + 6

abbrev pub decreases-counted_loop : goal.decreases-counted_loop
decreases-counted_loop l = l.levels * 20 + 2

abbrev pub decreases-else_if : goal.decreases-else_if
decreases-else_if l = l.levels * 20 + 1

abbrev pub decreases-handler : goal.decreases-handler
decreases-handler l = l.levels * 20 + 16

abbrev pub decreases-handlers : goal.decreases-handlers
decreases-handlers l = l.levels * 20 + 19

abbrev pub invariant-handlers-loop-handlers : goal.invariant-handlers-loop-handlers
invariant-handlers-loop-handlers l = read l.levels (separated c.sign_comma (handler one_statement)) l.fn.self ≡ more l.levels (behind c.sign_comma (handler one_statement)) l.handlers l.self

abbrev pub decreases-handlers-loop-handlers : goal.decreases-handlers-loop-handlers
decreases-handlers-loop-handlers l = length l.self

abbrev pub decreases-handlers_in_brackets : goal.decreases-handlers_in_brackets
decreases-handlers_in_brackets l = l.levels * 20 + 1

abbrev pub decreases-handlers_in_parens : goal.decreases-handlers_in_parens
decreases-handlers_in_parens l = l.levels * 20 + 1

abbrev pub decreases-if_parts : goal.decreases-if_parts
decreases-if_parts l = l.levels * 20 + 5

abbrev pub decreases-input : goal.decreases-input
decreases-input l = l.levels * 20 + 5

abbrev pub decreases-input_parts : goal.decreases-input_parts
decreases-input_parts l = l.levels * 20 + 4

abbrev pub decreases-install : goal.decreases-install
decreases-install l = l.levels * 20 + 2

abbrev pub decreases-marked_statement : goal.decreases-marked_statement
decreases-marked_statement l = l.levels * 20 + 8

abbrev pub decreases-maybe_answer : goal.decreases-maybe_answer
decreases-maybe_answer l = l.levels * 20 + 4

abbrev pub decreases-maybe_handlers : goal.decreases-maybe_handlers
decreases-maybe_handlers l = l.levels * 20 + 2

abbrev pub decreases-maybe_reply : goal.decreases-maybe_reply
decreases-maybe_reply l = l.levels * 20 + 3

abbrev pub decreases-message : goal.decreases-message
decreases-message l = l.levels * 20 + 5

abbrev pub decreases-named : goal.decreases-named
decreases-named l = l.levels * 20 + 8

abbrev pub decreases-named_input : goal.decreases-named_input
decreases-named_input l = l.levels * 20 + 5

abbrev pub decreases-named_output : goal.decreases-named_output
decreases-named_output l = l.levels * 20 + 6

abbrev pub decreases-named_parts : goal.decreases-named_parts
decreases-named_parts l = l.levels * 20 + 7

abbrev pub decreases-otherwise : goal.decreases-otherwise
decreases-otherwise l = l.levels * 20 + 4

abbrev pub decreases-parallel : goal.decreases-parallel
decreases-parallel l = l.levels * 20 + 15

abbrev pub decreases-repetition : goal.decreases-repetition
decreases-repetition l = l.levels * 20 + 2

abbrev pub decreases-reply : goal.decreases-reply
decreases-reply l = l.levels * 20 + 2

abbrev pub decreases-scope : goal.decreases-scope
decreases-scope l = l.levels * 20 + 2

abbrev pub decreases-sequence : goal.decreases-sequence
decreases-sequence l = l.levels * 20 + 12

abbrev pub decreases-statement : goal.decreases-statement
decreases-statement l = l.levels * 20 + 9

abbrev pub decreases-sequences : goal.decreases-sequences
decreases-sequences l = l.levels * 20 + 14

abbrev pub invariant-sequences-loop-sequences : goal.invariant-sequences-loop-sequences
invariant-sequences-loop-sequences l = read l.levels (separated c.sign_bar (in_sequence one_statement)) l.fn.self ≡ more l.levels (behind c.sign_bar (in_sequence one_statement)) l.sequences l.self

abbrev pub decreases-sequences-loop-sequences : goal.decreases-sequences-loop-sequences
decreases-sequences-loop-sequences l = length l.self

abbrev pub decreases-statements : goal.decreases-statements
decreases-statements l = l.levels * 20 + 11

abbrev pub invariant-statements-loop-statements : goal.invariant-statements-loop-statements
invariant-statements-loop-statements l = read l.levels (separated c.sign_semicolon one_statement) l.fn.self ≡ more l.levels (behind c.sign_semicolon one_statement) l.statements l.self

abbrev pub decreases-statements-loop-statements : goal.decreases-statements-loop-statements
decreases-statements-loop-statements l = length l.self
