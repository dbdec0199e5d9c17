use Rattle.std.proofs.Common.{true, false, [], ◌∷◌, refl, sym, ◌∙◌, ◌-◌}
use Rattle.jolie_parse.specs.ClassNames as classes
use Rattle.jolie_parse.specs.Grammar.{whole_number, long_number, quoted_text, truth, path_value, path, id, size, defined_test, cast, grouped, literal, primary, prefixed_operand, unary, factor, term, sum, comparand, comparison, conjunction, index, step, word, member, members}
use Rattle.jolie_parse.specs.Syntax as syntax
use Rattle.jolie_parse.specs.Syntax.{behind, separated, between, inside}
use Rattle.jolie_parse.specs.Reading.{read}
use Rattle.jolie_parse.proofs.Lists.{passes, stops_then, first_stops, list_begun, next_fails, next_shorter, next_goes, nexts_end, unwrapped, turn_fails, turn_goes, turns_end, turn_shorter, eaten, optional_none, optional_stops, optional_read, left_reads, right_reads}
use Rattle.jolie_parse.proofs.Inside.{between_reads, inside_stops, inside_read, prefix_read}
use Rattle.jolie_parse.proofs.Turns.{factors_decided, terms_decided, steps_decided, comparisons_decided, conjunctions_decided, members_decided}
use Rattle.jolie_parse.proofs.cursor.Cursor.+expression.Goals as goal

pub factors-returns-in_err-factor : goal.factors-returns-in_err-factor
unfolding factor
factors-returns-in_err-factor t c =
    passes _ c.from_residual.result c.in_err-factor.field-0.0 _ c.from_residual.ensures.1
    (turn_fails c.args.levels factor factors_decided _ _ _ _ _ _ c.loop-factors.invariant c.sees.ensures c.loop-factors-test.true c.in_err-factor.ensures)

pub factors-loop-factors-smaller : goal.factors-loop-factors-smaller
factors-loop-factors-smaller t c = turn_shorter c.args.levels factor factors_decided _ _ _ c.in_ok-factor.ensures

pub factors-loop-factors-preserved : goal.factors-loop-factors-preserved
unfolding factor
factors-loop-factors-preserved t c =
    turn_goes c.args.levels factor factors_decided _ _ _ _ _ _ _ c.loop-factors.invariant c.sees.ensures c.loop-factors-test.true c.in_ok-factor.ensures c.in_ok-push.ensures.ok

pub factors-returns : goal.factors-returns
unfolding factor
factors-returns t c = turns_end c.args.levels factor factors_decided _ _ _ _ c.loop-factors.invariant c.sees.ensures c.loop-factors-test.false

pub terms-returns-in_err-term : goal.terms-returns-in_err-term
unfolding term
terms-returns-in_err-term t c =
    passes _ c.from_residual.result c.in_err-term.field-0.0 _ c.from_residual.ensures.1
    (turn_fails c.args.levels term terms_decided _ _ _ _ _ _ c.loop-terms.invariant c.sees.ensures c.loop-terms-test.true c.in_err-term.ensures)

pub terms-loop-terms-smaller : goal.terms-loop-terms-smaller
terms-loop-terms-smaller t c = turn_shorter c.args.levels term terms_decided _ _ _ c.in_ok-term.ensures

pub terms-loop-terms-preserved : goal.terms-loop-terms-preserved
unfolding term
terms-loop-terms-preserved t c =
    turn_goes c.args.levels term terms_decided _ _ _ _ _ _ _ c.loop-terms.invariant c.sees.ensures c.loop-terms-test.true c.in_ok-term.ensures c.in_ok-push.ensures.ok

pub terms-returns : goal.terms-returns
unfolding term
terms-returns t c = turns_end c.args.levels term terms_decided _ _ _ _ c.loop-terms.invariant c.sees.ensures c.loop-terms-test.false

pub steps-returns-in_err-step : goal.steps-returns-in_err-step
unfolding step
steps-returns-in_err-step t c =
    passes _ c.from_residual.result c.in_err-step.field-0.0 _ c.from_residual.ensures.1
    (turn_fails c.args.levels step steps_decided _ _ _ _ _ _ c.loop-steps.invariant c.sees_sign.ensures c.loop-steps-test.true c.in_err-step.ensures)

pub steps-loop-steps-smaller : goal.steps-loop-steps-smaller
steps-loop-steps-smaller t c = turn_shorter c.args.levels step steps_decided _ _ _ c.in_ok-step.ensures

pub steps-loop-steps-preserved : goal.steps-loop-steps-preserved
unfolding step
steps-loop-steps-preserved t c =
    turn_goes c.args.levels step steps_decided _ _ _ _ _ _ _ c.loop-steps.invariant c.sees_sign.ensures c.loop-steps-test.true c.in_ok-step.ensures c.in_ok-push.ensures.ok

pub steps-returns : goal.steps-returns
unfolding step
steps-returns t c = turns_end c.args.levels step steps_decided _ _ _ _ c.loop-steps.invariant c.sees_sign.ensures c.loop-steps-test.false

pub comparisons-returns-in_err-first : goal.comparisons-returns-in_err-first
comparisons-returns-in_err-first t c =
    passes _ c.from_residual.result c.in_err-first.field-0.0 _ c.from_residual.ensures.1
    (first_stops c.args.levels comparison (behind classes.sign_and comparison) c.args.self.now _ _ c.in_err-first.ensures)

pub comparisons-loop-operands-init : goal.comparisons-loop-operands-init
comparisons-loop-operands-init t c = list_begun c.args.levels comparison (behind classes.sign_and comparison) c.args.self.now _ _ _ c.in_ok-first.ensures c.in_ok-operands.ensures

pub comparisons-returns-in_err-comparison : goal.comparisons-returns-in_err-comparison
comparisons-returns-in_err-comparison t c =
    passes _ c.from_residual-in_err-comparison.result c.in_err-comparison.field-0.0 _ c.from_residual-in_err-comparison.ensures.1
    (next_fails c.args.levels classes.sign_and comparison comparisons_decided _ _ _ _ _ _ _ c.loop-operands.invariant c.eat.ensures.found c.eat.ensures.rest c.loop-operands-test.true c.in_err-comparison.ensures)

pub comparisons-loop-operands-smaller : goal.comparisons-loop-operands-smaller
comparisons-loop-operands-smaller t c = next_shorter c.args.levels classes.sign_and comparison comparisons_decided _ _ _ _ _ c.eat.ensures.found c.eat.ensures.rest c.loop-operands-test.true c.in_ok-comparison.ensures

pub comparisons-loop-operands-preserved : goal.comparisons-loop-operands-preserved
comparisons-loop-operands-preserved t c =
    next_goes c.args.levels classes.sign_and comparison comparisons_decided _ _ _ _ _ _ _ _ c.loop-operands.invariant c.eat.ensures.found c.eat.ensures.rest c.loop-operands-test.true c.in_ok-comparison.ensures c.in_ok-push.ensures.ok

pub comparisons-returns : goal.comparisons-returns
comparisons-returns t c = nexts_end c.args.levels classes.sign_and comparison comparisons_decided _ _ _ _ _ c.loop-operands.invariant c.eat.ensures.found c.eat.ensures.rest c.loop-operands-test.false

pub conjunctions-returns-in_err-first : goal.conjunctions-returns-in_err-first
conjunctions-returns-in_err-first t c =
    passes _ c.from_residual.result c.in_err-first.field-0.0 _ c.from_residual.ensures.1
    (first_stops c.args.levels conjunction (behind classes.sign_or conjunction) c.args.self.now _ _ c.in_err-first.ensures)

pub conjunctions-loop-operands-init : goal.conjunctions-loop-operands-init
conjunctions-loop-operands-init t c = list_begun c.args.levels conjunction (behind classes.sign_or conjunction) c.args.self.now _ _ _ c.in_ok-first.ensures c.in_ok-operands.ensures

pub conjunctions-returns-in_err-conjunction : goal.conjunctions-returns-in_err-conjunction
conjunctions-returns-in_err-conjunction t c =
    passes _ c.from_residual-in_err-conjunction.result c.in_err-conjunction.field-0.0 _ c.from_residual-in_err-conjunction.ensures.1
    (next_fails c.args.levels classes.sign_or conjunction conjunctions_decided _ _ _ _ _ _ _ c.loop-operands.invariant c.eat.ensures.found c.eat.ensures.rest c.loop-operands-test.true c.in_err-conjunction.ensures)

pub conjunctions-loop-operands-smaller : goal.conjunctions-loop-operands-smaller
conjunctions-loop-operands-smaller t c = next_shorter c.args.levels classes.sign_or conjunction conjunctions_decided _ _ _ _ _ c.eat.ensures.found c.eat.ensures.rest c.loop-operands-test.true c.in_ok-conjunction.ensures

pub conjunctions-loop-operands-preserved : goal.conjunctions-loop-operands-preserved
conjunctions-loop-operands-preserved t c =
    next_goes c.args.levels classes.sign_or conjunction conjunctions_decided _ _ _ _ _ _ _ _ c.loop-operands.invariant c.eat.ensures.found c.eat.ensures.rest c.loop-operands-test.true c.in_ok-conjunction.ensures c.in_ok-push.ensures.ok

pub conjunctions-returns : goal.conjunctions-returns
conjunctions-returns t c = nexts_end c.args.levels classes.sign_or conjunction conjunctions_decided _ _ _ _ _ c.loop-operands.invariant c.eat.ensures.found c.eat.ensures.rest c.loop-operands-test.false

pub some_members-returns-in_err-first : goal.some_members-returns-in_err-first
some_members-returns-in_err-first t c =
    passes _ c.from_residual.result c.in_err-first.field-0.0 _ c.from_residual.ensures.1
    (first_stops c.args.levels member (behind classes.sign_comma member) c.args.self.now _ _ c.in_err-first.ensures)

pub some_members-loop-members-init : goal.some_members-loop-members-init
some_members-loop-members-init t c = list_begun c.args.levels member (behind classes.sign_comma member) c.args.self.now _ _ _ c.in_ok-first.ensures c.in_ok-members.ensures

pub some_members-returns-in_err-member : goal.some_members-returns-in_err-member
some_members-returns-in_err-member t c =
    passes _ c.from_residual-in_err-member.result c.in_err-member.field-0.0 _ c.from_residual-in_err-member.ensures.1
    (next_fails c.args.levels classes.sign_comma member members_decided _ _ _ _ _ _ _ c.loop-members.invariant c.eat.ensures.found c.eat.ensures.rest c.loop-members-test.true c.in_err-member.ensures)

pub some_members-loop-members-smaller : goal.some_members-loop-members-smaller
some_members-loop-members-smaller t c = next_shorter c.args.levels classes.sign_comma member members_decided _ _ _ _ _ c.eat.ensures.found c.eat.ensures.rest c.loop-members-test.true c.in_ok-member.ensures

pub some_members-loop-members-preserved : goal.some_members-loop-members-preserved
some_members-loop-members-preserved t c =
    next_goes c.args.levels classes.sign_comma member members_decided _ _ _ _ _ _ _ _ c.loop-members.invariant c.eat.ensures.found c.eat.ensures.rest c.loop-members-test.true c.in_ok-member.ensures c.in_ok-push.ensures.ok

pub some_members-returns : goal.some_members-returns
some_members-returns t c = nexts_end c.args.levels classes.sign_comma member members_decided _ _ _ _ _ c.loop-members.invariant c.eat.ensures.found c.eat.ensures.rest c.loop-members-test.false

pub primary-returns-then-sees : goal.primary-returns-then-sees
unfolding primary whole_number long_number quoted_text truth path_value path id size defined_test cast grouped
primary-returns-then-sees t c =
    let b = sym c.sees.ensures ∙ c.if-sees.true in
    rw (b) c.whole_number.ensures

pub primary-returns-then-sees-2 : goal.primary-returns-then-sees-2
unfolding primary whole_number long_number quoted_text truth path_value path id size defined_test cast grouped
primary-returns-then-sees-2 t c =
    let a0 = sym c.sees.ensures ∙ c.if-sees.false in
    let b = sym c.sees-2.ensures ∙ c.if-sees-2.true in
    rw (a0, b) c.long_number.ensures

pub primary-returns-then-sees-3 : goal.primary-returns-then-sees-3
unfolding primary whole_number long_number quoted_text truth path_value path id size defined_test cast grouped
primary-returns-then-sees-3 t c =
    let a0 = sym c.sees.ensures ∙ c.if-sees.false in
    let a1 = sym c.sees-2.ensures ∙ c.if-sees-2.false in
    let b = sym c.sees-3.ensures ∙ c.if-sees-3.true in
    rw (a0, a1, b) c.quoted_text.ensures

pub primary-returns-then-sees-4 : goal.primary-returns-then-sees-4
unfolding primary whole_number long_number quoted_text truth path_value path id size defined_test cast grouped
primary-returns-then-sees-4 t c =
    let a0 = sym c.sees.ensures ∙ c.if-sees.false in
    let a1 = sym c.sees-2.ensures ∙ c.if-sees-2.false in
    let a2 = sym c.sees-3.ensures ∙ c.if-sees-3.false in
    let b = sym c.sees-4.ensures ∙ c.if-sees-4.true in
    rw (a0, a1, a2, b) c.truth.ensures

pub primary-returns-then-sees-5 : goal.primary-returns-then-sees-5
unfolding primary whole_number long_number quoted_text truth path_value path id size defined_test cast grouped
primary-returns-then-sees-5 t c =
    let a0 = sym c.sees.ensures ∙ c.if-sees.false in
    let a1 = sym c.sees-2.ensures ∙ c.if-sees-2.false in
    let a2 = sym c.sees-3.ensures ∙ c.if-sees-3.false in
    let a3 = sym c.sees-4.ensures ∙ c.if-sees-4.false in
    let b = sym c.sees-5.ensures ∙ c.if-sees-5.true in
    rw (a0, a1, a2, a3, b) c.path_value.ensures

pub primary-returns-then-sees_sign : goal.primary-returns-then-sees_sign
unfolding primary whole_number long_number quoted_text truth path_value path id size defined_test cast grouped
primary-returns-then-sees_sign t c =
    let a0 = sym c.sees.ensures ∙ c.if-sees.false in
    let a1 = sym c.sees-2.ensures ∙ c.if-sees-2.false in
    let a2 = sym c.sees-3.ensures ∙ c.if-sees-3.false in
    let a3 = sym c.sees-4.ensures ∙ c.if-sees-4.false in
    let a4 = sym c.sees-5.ensures ∙ c.if-sees-5.false in
    let b = sym c.sees_sign.ensures ∙ c.if-sees_sign.true in
    rw (a0, a1, a2, a3, a4, b) c.size.ensures

pub primary-returns-then-sees_word : goal.primary-returns-then-sees_word
unfolding primary whole_number long_number quoted_text truth path_value path id size defined_test cast grouped
primary-returns-then-sees_word t c =
    let a0 = sym c.sees.ensures ∙ c.if-sees.false in
    let a1 = sym c.sees-2.ensures ∙ c.if-sees-2.false in
    let a2 = sym c.sees-3.ensures ∙ c.if-sees-3.false in
    let a3 = sym c.sees-4.ensures ∙ c.if-sees-4.false in
    let a4 = sym c.sees-5.ensures ∙ c.if-sees-5.false in
    let a5 = sym c.sees_sign.ensures ∙ c.if-sees_sign.false in
    let b = sym c.sees_word.ensures ∙ c.if-sees_word.true in
    rw (a0, a1, a2, a3, a4, a5, b) c.defined_test.ensures

pub primary-returns-then-sees-6 : goal.primary-returns-then-sees-6
unfolding primary whole_number long_number quoted_text truth path_value path id size defined_test cast grouped
primary-returns-then-sees-6 t c =
    let a0 = sym c.sees.ensures ∙ c.if-sees.false in
    let a1 = sym c.sees-2.ensures ∙ c.if-sees-2.false in
    let a2 = sym c.sees-3.ensures ∙ c.if-sees-3.false in
    let a3 = sym c.sees-4.ensures ∙ c.if-sees-4.false in
    let a4 = sym c.sees-5.ensures ∙ c.if-sees-5.false in
    let a5 = sym c.sees_sign.ensures ∙ c.if-sees_sign.false in
    let a6 = sym c.sees_word.ensures ∙ c.if-sees_word.false in
    let b = sym c.sees-6.ensures ∙ c.if-sees-6.true in
    rw (a0, a1, a2, a3, a4, a5, a6, b) c.cast.ensures

pub primary-returns-then-sees_sign-2 : goal.primary-returns-then-sees_sign-2
unfolding primary whole_number long_number quoted_text truth path_value path id size defined_test cast grouped
primary-returns-then-sees_sign-2 t c =
    let a0 = sym c.sees.ensures ∙ c.if-sees.false in
    let a1 = sym c.sees-2.ensures ∙ c.if-sees-2.false in
    let a2 = sym c.sees-3.ensures ∙ c.if-sees-3.false in
    let a3 = sym c.sees-4.ensures ∙ c.if-sees-4.false in
    let a4 = sym c.sees-5.ensures ∙ c.if-sees-5.false in
    let a5 = sym c.sees_sign.ensures ∙ c.if-sees_sign.false in
    let a6 = sym c.sees_word.ensures ∙ c.if-sees_word.false in
    let a7 = sym c.sees-6.ensures ∙ c.if-sees-6.false in
    let b = sym c.sees_sign-2.ensures ∙ c.if-sees_sign-2.true in
    rw (a0, a1, a2, a3, a4, a5, a6, a7, b) c.grouped.ensures

pub primary-returns : goal.primary-returns
unfolding primary whole_number long_number quoted_text truth path_value path id size defined_test cast grouped
primary-returns t c =
    let a0 = sym c.sees.ensures ∙ c.if-sees.false in
    let a1 = sym c.sees-2.ensures ∙ c.if-sees-2.false in
    let a2 = sym c.sees-3.ensures ∙ c.if-sees-3.false in
    let a3 = sym c.sees-4.ensures ∙ c.if-sees-4.false in
    let a4 = sym c.sees-5.ensures ∙ c.if-sees-5.false in
    let a5 = sym c.sees_sign.ensures ∙ c.if-sees_sign.false in
    let a6 = sym c.sees_word.ensures ∙ c.if-sees_word.false in
    let a7 = sym c.sees-6.ensures ∙ c.if-sees-6.false in
    let a8 = sym c.sees_sign-2.ensures ∙ c.if-sees_sign-2.false in
    rw (a0, a1, a2, a3, a4, a5, a6, a7, a8) c.literal.ensures

pub unary-returns-then-sees : goal.unary-returns-then-sees
unfolding unary prefixed_operand
unary-returns-then-sees t c = left_reads c.args.levels prefixed_operand primary c.args.self.now _ _ _ c.sees.ensures c.if-sees.true c.prefixed_operand.ensures

pub unary-returns-else-sees : goal.unary-returns-else-sees
unfolding unary prefixed_operand
unary-returns-else-sees t c = right_reads c.args.levels prefixed_operand primary c.args.self.now _ _ _ c.sees.ensures c.if-sees.false c.primary.ensures

pub index-returns-then-not-sees_sign : goal.index-returns-then-not-sees_sign
unfolding index
index-returns-then-not-sees_sign t c = optional_none c.args.levels (between classes.sign_open_bracket syntax.an_expression classes.sign_close_bracket) c.args.self.now _ c.sees_sign.ensures c.if-not-sees_sign.true

pub index-returns-in_err-index : goal.index-returns-in_err-index
unfolding index
index-returns-in_err-index t c =
    passes _ c.from_residual.result c.in_err-index.field-0.0 _ c.from_residual.ensures.1
    (optional_stops c.args.levels (between classes.sign_open_bracket syntax.an_expression classes.sign_close_bracket) c.args.self.now _ _ _ c.sees_sign.ensures c.if-not-sees_sign.false c.in_err-index.ensures)

pub index-returns : goal.index-returns
unfolding index
index-returns t c =
    rw c.in_ok-new.ensures (optional_read c.args.levels (between classes.sign_open_bracket syntax.an_expression classes.sign_close_bracket) c.args.self.now _ _ _ c.sees_sign.ensures c.if-not-sees_sign.false c.in_ok-index.ensures)

pub path_in_parens-returns : goal.path_in_parens-returns
path_in_parens-returns t c =
    between_reads classes.sign_open_paren syntax.a_path classes.sign_close_paren c.args.levels (c.args.levels - 1) c.args.self.now _ _ _ _ c.path-part.result c.closed.result c.in_ok-open.ensures.opened refl c.in_ok-open.ensures.reads c.path-part.ensures c.closed.ensures

pub expression_in_parens-returns : goal.expression_in_parens-returns
expression_in_parens-returns t c =
    between_reads classes.sign_open_paren syntax.an_expression classes.sign_close_paren c.args.levels (c.args.levels - 1) c.args.self.now _ _ _ _ c.expression-part.result c.closed.result c.in_ok-open.ensures.opened refl c.in_ok-open.ensures.reads c.expression-part.ensures c.closed.ensures

pub expression_in_brackets-returns : goal.expression_in_brackets-returns
expression_in_brackets-returns t c =
    between_reads classes.sign_open_bracket syntax.an_expression classes.sign_close_bracket c.args.levels (c.args.levels - 1) c.args.self.now _ _ _ _ c.expression-part.result c.closed.result c.in_ok-open.ensures.opened refl c.in_ok-open.ensures.reads c.expression-part.ensures c.closed.ensures

pub grouped-returns-in_err-inside : goal.grouped-returns-in_err-inside
unfolding grouped
grouped-returns-in_err-inside t c =
    passes _ c.from_residual-in_err-inside.result c.in_err-inside.field-0.0 _ c.from_residual-in_err-inside.ensures.1
    (stops_then (read c.args.levels (inside classes.sign_open_paren syntax.an_expression classes.sign_close_paren) c.args.self.now) _ _ _
    (inside_stops classes.sign_open_paren syntax.an_expression classes.sign_close_paren c.args.levels (c.args.levels - 1) c.args.self.now _ _ _ _ c.expression-part.result _ c.in_ok-open.ensures.opened refl c.in_ok-open.ensures.reads c.expression-part.ensures c.in_err-inside.ensures))

pub grouped-returns : goal.grouped-returns
unfolding grouped
grouped-returns t c =
    let e = inside_read classes.sign_open_paren syntax.an_expression classes.sign_close_paren c.args.levels (c.args.levels - 1) c.args.self.now _ _ _ _ c.expression-part.result _ c.in_ok-open.ensures.opened refl c.in_ok-open.ensures.reads c.expression-part.ensures c.in_ok-inside.ensures in
    rw (e, c.at.ensures) refl

pub literal-returns-in_err-members : goal.literal-returns-in_err-members
unfolding literal
literal-returns-in_err-members t c =
    passes _ c.from_residual-in_err-members.result c.in_err-members.field-0.0 _ c.from_residual-in_err-members.ensures.1
    (stops_then (read c.args.levels (inside classes.sign_open_brace syntax.some_members classes.sign_close_brace) c.args.self.now) _ _ _
    (inside_stops classes.sign_open_brace syntax.some_members classes.sign_close_brace c.args.levels (c.args.levels - 1) c.args.self.now _ _ _ _ c.members-part.result _ c.in_ok-open.ensures.opened refl c.in_ok-open.ensures.reads c.members-part.ensures c.in_err-members.ensures))

pub literal-returns : goal.literal-returns
unfolding literal
literal-returns t c =
    let e = inside_read classes.sign_open_brace syntax.some_members classes.sign_close_brace c.args.levels (c.args.levels - 1) c.args.self.now _ _ _ _ c.members-part.result _ c.in_ok-open.ensures.opened refl c.in_ok-open.ensures.reads c.members-part.ensures c.in_ok-members.ensures in
    rw (e, c.in_ok-new.ensures, c.at.ensures) refl

pub prefixed_operand-returns : goal.prefixed_operand-returns
unfolding prefixed_operand
prefixed_operand-returns t c =
    let e = prefix_read (classes.sign_minus ∷ classes.sign_not ∷ []) syntax.an_operand c.args.levels (c.args.levels - 1) c.args.self.now _ _ _ _ c.in_ok-prefix.ensures.opened refl c.in_ok-prefix.ensures.reads c.in_ok-operand.ensures in
    rw (e, c.in_ok-prefixed_of.ensures) refl

pub comparison-returns-then-not-sees : goal.comparison-returns-then-not-sees
unfolding comparison comparand
comparison-returns-then-not-sees t c =
    let none = optional_none c.args.levels comparand c.sum.new.self _ c.sees.ensures c.if-not-sees.true in
    rw (c.in_ok-left.ensures, none) refl

pub comparison-returns-in_err-right : goal.comparison-returns-in_err-right
unfolding comparison comparand
comparison-returns-in_err-right t c =
    let b = sym c.sees.ensures ∙ c.if-not-sees.false in
    passes _ c.from_residual-in_err-right.result c.in_err-right.field-0.0 _ c.from_residual-in_err-right.ensures.1
    (rw (c.in_ok-left.ensures, b, c.in_ok-sign.ensures) (stops_then _ _ _ _ (stops_then _ _ _ _ (stops_then _ _ _ _ (stops_then (read c.args.levels sum c.take.new.self) _ _ _ c.in_err-right.ensures)))))

pub comparison-returns : goal.comparison-returns
unfolding comparison comparand
comparison-returns t c =
    let b = sym c.sees.ensures ∙ c.if-not-sees.false in
    rw (c.in_ok-left.ensures, b, c.in_ok-sign.ensures, c.in_ok-right.ensures, c.in_ok-compared.ensures) refl

pub member-returns-in_err-word : goal.member-returns-in_err-word
unfolding member word
member-returns-in_err-word t c =
    let d = eaten c.args.levels classes.sign_dot c.args.self.now _ c.eat.ensures.rest in
    passes _ c.from_residual.result c.in_err-word.field-0.0 _ c.from_residual.ensures.1
    (rw d.1 (stops_then _ _ _ _ (stops_then _ _ _ _ (stops_then _ _ _ _ c.in_err-word.ensures))))

pub member-returns-in_err-sign : goal.member-returns-in_err-sign
unfolding member word
member-returns-in_err-sign t c =
    let d = eaten c.args.levels classes.sign_dot c.args.self.now _ c.eat.ensures.rest in
    passes _ c.from_residual-in_err-sign.result c.in_err-sign.field-0.0 _ c.from_residual-in_err-sign.ensures.1
    (rw (d.1, c.in_ok-word.ensures) (stops_then _ _ _ _ (stops_then _ _ _ _ (stops_then _ _ _ _ (stops_then _ _ _ _ (stops_then _ _ _ _ c.in_err-sign.ensures))))))

pub member-returns-in_err-value : goal.member-returns-in_err-value
unfolding member word
member-returns-in_err-value t c =
    let d = eaten c.args.levels classes.sign_dot c.args.self.now _ c.eat.ensures.rest in
    passes _ c.from_residual-in_err-value.result c.in_err-value.field-0.0 _ c.from_residual-in_err-value.ensures.1
    (rw (d.1, c.in_ok-word.ensures, c.in_ok-sign.ensures) (stops_then _ _ _ _ (stops_then _ _ _ _ (stops_then _ _ _ _ (stops_then _ _ _ _ (stops_then _ _ _ _ c.in_err-value.ensures))))))

pub member-returns : goal.member-returns
unfolding member word
member-returns t c =
    let d = eaten c.args.levels classes.sign_dot c.args.self.now _ c.eat.ensures.rest in
    rw (d.1, c.in_ok-word.ensures, c.in_ok-sign.ensures, c.in_ok-value.ensures, c.in_ok-name.ensures) refl

pub members-returns-then-not-sees : goal.members-returns-then-not-sees
unfolding members member word
members-returns-then-not-sees t c =
    let none = optional_none c.args.levels (separated classes.sign_comma member) c.args.self.now _ c.sees.ensures c.if-not-sees.true in
    rw (none, c.new.ensures) refl

pub members-returns : goal.members-returns
unfolding members member word
members-returns t c =
    let b = sym c.sees.ensures ∙ c.if-not-sees.false in
    rw (b, unwrapped (read c.args.levels (separated classes.sign_comma member) c.args.self.now)) c.some_members.ensures
