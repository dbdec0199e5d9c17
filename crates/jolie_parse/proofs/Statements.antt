-- One token decides each list of statements, handlers or branches.
use Rattle.std.proofs.Common.{◌≡◌, true, refl}
use Rattle.jolie_parse.specs.ClassNames as c
use Rattle.jolie_parse.specs.Grammar.{id, word, index, step, path_parts, path, whole_number, long_number, quoted_text, truth, path_value, size, defined_test, cast, grouped, literal, primary, prefixed_operand, unary, factor, product, term, sum, comparand, comparison, conjunction, expr, member, members, block, reply, input_parts, input, branch, choice, answer, output_parts, output, count, change, assign, correlate, last_change, loop_parts, undefine, repetition, counted_loop, scope, install, throw, compensate, inner_handler, block_statement, nothing, handler_key, thrown, name, in_sequence, handler}
use Rattle.jolie_parse.specs.Syntax.{many, behind}
use Rattle.jolie_parse.specs.Factored.{named_parts, one_else, one_statement, decided}

pub sequences_decided : decided (many (behind c.sign_bar (in_sequence one_statement))) ≡ true
unfolding id word index step path_parts path whole_number long_number quoted_text truth path_value size defined_test cast grouped literal primary prefixed_operand unary factor product term sum comparand comparison conjunction expr member members block reply input_parts input branch choice answer output_parts output count change assign correlate last_change loop_parts undefine repetition counted_loop scope install throw compensate inner_handler block_statement nothing handler_key thrown name named_parts one_else one_statement
sequences_decided = refl

pub statements_decided : decided (many (behind c.sign_semicolon one_statement)) ≡ true
unfolding id word index step path_parts path whole_number long_number quoted_text truth path_value size defined_test cast grouped literal primary prefixed_operand unary factor product term sum comparand comparison conjunction expr member members block reply input_parts input branch choice answer output_parts output count change assign correlate last_change loop_parts undefine repetition counted_loop scope install throw compensate inner_handler block_statement nothing handler_key thrown name named_parts one_else one_statement
statements_decided = refl

pub handlers_decided : decided (many (behind c.sign_comma (handler one_statement))) ≡ true
unfolding id word index step path_parts path whole_number long_number quoted_text truth path_value size defined_test cast grouped literal primary prefixed_operand unary factor product term sum comparand comparison conjunction expr member members block reply input_parts input branch choice answer output_parts output count change assign correlate last_change loop_parts undefine repetition counted_loop scope install throw compensate inner_handler block_statement nothing handler_key thrown name named_parts one_else one_statement
handlers_decided = refl

pub branches_decided : decided (many branch) ≡ true
unfolding id word index step path_parts path whole_number long_number quoted_text truth path_value size defined_test cast grouped literal primary prefixed_operand unary factor product term sum comparand comparison conjunction expr member members block reply input_parts input branch choice answer output_parts output count change assign correlate last_change loop_parts undefine repetition counted_loop scope install throw compensate inner_handler block_statement nothing handler_key thrown name named_parts one_else one_statement
branches_decided = refl
