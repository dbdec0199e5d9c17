-- One token decides each list that a loop reads.
use Rattle.std.proofs.Common.{◌≡◌, true, refl}
use Rattle.jolie_parse.specs.ClassNames as c
use Rattle.jolie_parse.specs.Grammar.{id, word, index, step, path_parts, path, whole_number, long_number, quoted_text, truth, path_value, size, defined_test, cast, grouped, literal, primary, prefixed_operand, unary, factor, product, term, sum, comparand, comparison, conjunction, expr, member, members}
use Rattle.jolie_parse.specs.Syntax.{many, behind}
use Rattle.jolie_parse.specs.Factored.{decided}

pub factors_decided : decided (many factor) ≡ true
unfolding id word index step path_parts path whole_number long_number quoted_text truth path_value size defined_test cast grouped literal primary prefixed_operand unary factor product term sum comparand comparison conjunction expr member members
factors_decided = refl

pub terms_decided : decided (many term) ≡ true
unfolding id word index step path_parts path whole_number long_number quoted_text truth path_value size defined_test cast grouped literal primary prefixed_operand unary factor product term sum comparand comparison conjunction expr member members
terms_decided = refl

pub steps_decided : decided (many step) ≡ true
unfolding id word index step path_parts path whole_number long_number quoted_text truth path_value size defined_test cast grouped literal primary prefixed_operand unary factor product term sum comparand comparison conjunction expr member members
steps_decided = refl

pub comparisons_decided : decided (many (behind c.sign_and comparison)) ≡ true
unfolding id word index step path_parts path whole_number long_number quoted_text truth path_value size defined_test cast grouped literal primary prefixed_operand unary factor product term sum comparand comparison conjunction expr member members
comparisons_decided = refl

pub conjunctions_decided : decided (many (behind c.sign_or conjunction)) ≡ true
unfolding id word index step path_parts path whole_number long_number quoted_text truth path_value size defined_test cast grouped literal primary prefixed_operand unary factor product term sum comparand comparison conjunction expr member members
conjunctions_decided = refl

pub members_decided : decided (many (behind c.sign_comma member)) ≡ true
unfolding id word index step path_parts path whole_number long_number quoted_text truth path_value size defined_test cast grouped literal primary prefixed_operand unary factor product term sum comparand comparison conjunction expr member members
members_decided = refl
