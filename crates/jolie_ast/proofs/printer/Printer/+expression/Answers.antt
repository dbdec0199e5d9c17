use Rattle.std.proofs.Common.{◌≡◌, ◌+◌, ◌++◌, ◌∷◌, [], OnOk, arith, codes, flat_map, ap, subst, sym, refl, ◌∙◌}
use Rattle.std.specs.Prelude.{option_map}
use Rattle.jolie_ast.specs.declared.expression.Path.{out-Path}
use Rattle.jolie_ast.specs.declared.expression.Step.{out-Step}
use Rattle.jolie_ast.specs.Spacing.{after, separated, with_token}
use Rattle.jolie_ast.specs.PrintedExpressions.{factor_tokens, term_tokens, member_tokens, step_tokens, operand_tokens, cast_token, expr_shown, expr_tokens, form_shown, path_tokens, in_parens}
use Rattle.jolie_ast.specs.PrintedParts.{index_tokens}
use Rattle.jolie_ast.proofs.Spacing.{turn_of, token_then, all_separated, all_behind, shown_as, shown_behind}
use Rattle.jolie_ast.proofs.PrintedExpressions.{operand_several, operand_alone, indexed_step, factor_is, term_is, path_is, step_is, and_shown, cast_shown, defined_shown, minus_shown, not_shown, or_shown, path_form_shown, product_shown, size_shown, sum_shown, text_shown, truth_shown}
use Rattle.jolie_ast.proofs.printer.Printer.+expression.Goals as goal

pub operand-returns-then-is_operation : goal.operand-returns-then-is_operation
operand-returns-then-is_operation t c = rw (operand_several c.args.operand.now (ap (λ f. (form_shown f).several) (sym c.get.ensures) ∙ sym c.is_operation.ensures ∙ c.if-is_operation.true)) c.in_parens.ensures

pub operand-returns-else-is_operation : goal.operand-returns-else-is_operation
operand-returns-else-is_operation t c = rw (operand_alone c.args.operand.now (ap (λ f. (form_shown f).several) (sym c.get.ensures) ∙ sym c.is_operation.ensures ∙ c.if-is_operation.false)) c.expr.ensures

pub form-returns-in_ok-token-in-IsDefined : goal.form-returns-in_ok-token-in-IsDefined
form-returns-in_ok-token-in-IsDefined t c =
    subst (λ us. OnOk c.path_in_parens.result (c.path_in_parens.new.self ≡ after c.args.self.now us))
    (sym (ap (λ f. (form_shown f).tokens) c.in-IsDefined.is ∙ ap (λ s. s.tokens) (defined_shown c.in-IsDefined.path)))
    (subst (λ p. OnOk c.path_in_parens.result (c.path_in_parens.new.self ≡ after p (in_parens (path_tokens c.in-IsDefined.path)))) (c.in_ok-token-in-IsDefined.ensures) c.path_in_parens.ensures)

pub factors-loop-factor-preserved : goal.factors-loop-factor-preserved
factors-loop-factor-preserved t c =
    turn_of factor_tokens c.args.self.now c.loop-factor.self c.operand.new.self c.args.factors.now c.loop-factor.factor-index c.factor-item.result c.loop-factor-test.true c.factor-item.is c.loop-factor.invariant
    (token_then _ _ _ _ _ _ (c.in_ok-multiplicative.ensures) (c.in_ok-operand.ensures) (factor_is c.factor-item.result))

pub terms-loop-term-preserved : goal.terms-loop-term-preserved
terms-loop-term-preserved t c =
    turn_of term_tokens c.args.self.now c.loop-term.self c.operand.new.self c.args.terms.now c.loop-term.term-index c.term-item.result c.loop-term-test.true c.term-item.is c.loop-term.invariant
    (token_then _ _ _ _ _ _ (c.in_ok-additive.ensures) (c.in_ok-operand.ensures) (term_is c.term-item.result))

pub members-loop-member-preserved : goal.members-loop-member-preserved
members-loop-member-preserved t c =
    turn_of (λ m. codes "," ∷ member_tokens m) c.member.new.self c.loop-member.self c.member-in-loop-member.new.self _ c.loop-member.member-index c.member-item.result c.loop-member-test.true c.member-item.is c.loop-member.invariant
    (token_then c.loop-member.self c.token.new.self c.member-in-loop-member.new.self (codes ",") (member_tokens c.member-item.result) _ (c.in_ok-token.ensures) (c.in_ok-member-2.ensures) refl)

pub operands-loop-value-preserved : goal.operands-loop-value-preserved
operands-loop-value-preserved t c =
    turn_of (λ e. c.args.sign.now ∷ operand_tokens e) c.operand.new.self c.loop-value.self c.operand-in-loop-value.new.self _ c.loop-value.value-index c.value-item.result c.loop-value-test.true c.value-item.is c.loop-value.invariant
    (token_then c.loop-value.self c.token.new.self c.operand-in-loop-value.new.self c.args.sign.now (operand_tokens c.value-item.result) _ (c.in_ok-token.ensures) (c.in_ok-operand-2.ensures) refl)

pub members-returns-after-loop-member : goal.members-returns-after-loop-member
members-returns-after-loop-member t c =
    all_separated (codes ",") member_tokens c.args.self.now c.member.new.self c.loop-member.self c.args.members.now c.first-item.result c.loop-member.member-index c.in-len1-up.len_at_least c.first-item.is (c.in_ok-member.ensures) c.loop-member.invariant (omega arith)

pub operands-returns-after-loop-value : goal.operands-returns-after-loop-value
operands-returns-after-loop-value t c =
    all_separated c.args.sign.now operand_tokens c.args.self.now c.operand.new.self c.loop-value.self c.args.values.now c.first-item.result c.loop-value.value-index c.in-len1-up.len_at_least c.first-item.is (c.in_ok-operand.ensures) c.loop-value.invariant (omega arith)

pub path-loop-step-preserved : goal.path-loop-step-preserved
path-loop-step-preserved t c =
    turn_of (λ s. codes "." ∷ step_tokens s) c.step.new.self c.loop-step.self c.step-in-loop-step.new.self c.as_slice-step-items.result.now c.loop-step.step-index c.step-item.result c.loop-step-test.true c.step-item.is c.loop-step.invariant
    (token_then c.loop-step.self c.token.new.self c.step-in-loop-step.new.self (codes ".") (step_tokens c.step-item.result) _ (c.in_ok-token.ensures) (c.in_ok-step-2.ensures) refl)

pub path-returns : goal.path-returns
path-returns t c =
    all_behind (λ s. codes "." ∷ step_tokens s) c.args.self.now c.step.new.self c.loop-step.self (step_tokens (out-Path c.args.path.now).first) (path_tokens c.args.path.now) c.as_slice-step-items.result.now c.loop-step.step-index
    (c.in_ok-step.ensures) c.loop-step.invariant (omega arith)
    (path_is c.args.path.now ∙ ap (λ ss. step_tokens (out-Path c.args.path.now).first ++ flat_map (λ s. codes "." ∷ step_tokens s) ss) (sym c.as_slice-step-items.ensures))

pub step-returns-in_default : goal.step-returns-in_default
step-returns-in_default t c =
    token_then c.args.self.now c.token.new.self c.token.new.self (out-Step c.args.step.now).name.text [] (step_tokens c.args.step.now) (c.in_ok-token.ensures ∙ ap (with_token c.args.self.now) c.as_str.ensures) refl
    (step_is c.args.step.now ∙ ap (λ i. (out-Step c.args.step.now).name.text ∷ index_tokens (option_map expr_shown i)) c.in_default.is)

pub step-returns-in_ok-token-3 : goal.step-returns-in_ok-token-3
step-returns-in_ok-token-3 t c =
    indexed_step c.args.step.now c.in-Some.index c.get.result.now c.args.self.now c.token.new.self c.token-in-Some.new.self c.expr.new.self c.token-in-Some-2.new.self c.in-Some.is c.get.ensures
    (c.in_ok-token.ensures ∙ ap (with_token c.args.self.now) c.as_str.ensures) c.in_ok-token-2.ensures c.in_ok-expr.ensures c.in_ok-token-3.ensures

pub form-returns-in-Str : goal.form-returns-in-Str
form-returns-in-Str t c =
    shown_as c.quoted.result c.args.self.now c.quoted.new.self _ _ (ap (λ f. (form_shown f).tokens) c.in-Str.is ∙ ap (λ s. s.tokens) (text_shown _)) c.quoted.ensures

pub form-returns-in-Bool : goal.form-returns-in-Bool
form-returns-in-Bool t c =
    shown_as c.truth.result c.args.self.now c.truth.new.self _ _ (ap (λ f. (form_shown f).tokens) c.in-Bool.is ∙ ap (λ s. s.tokens) (truth_shown _)) c.truth.ensures

pub form-returns-in-Path : goal.form-returns-in-Path
form-returns-in-Path t c =
    shown_as c.path.result c.args.self.now c.path.new.self _ _ (ap (λ f. (form_shown f).tokens) c.in-Path.is ∙ ap (λ s. s.tokens) (path_form_shown _)) c.path.ensures

pub form-returns-in_ok-token-in-Size : goal.form-returns-in_ok-token-in-Size
form-returns-in_ok-token-in-Size t c =
    shown_behind c.path-in-Size.result c.args.self.now c.token.new.self c.path-in-Size.new.self (codes "#" ∷ []) _ _ c.in_ok-token-in-Size.ensures (ap (λ f. (form_shown f).tokens) c.in-Size.is ∙ ap (λ s. s.tokens) (size_shown _)) c.path-in-Size.ensures

pub form-returns-in_ok-cast_target-in-Cast : goal.form-returns-in_ok-cast_target-in-Cast
form-returns-in_ok-cast_target-in-Cast t c =
    shown_behind c.in_parens.result c.args.self.now c.cast_target.new.self c.in_parens.new.self (_ ∷ []) _ _ c.in_ok-cast_target-in-Cast.ensures (ap (λ f. (form_shown f).tokens) c.in-Cast.is ∙ ap (λ s. s.tokens) (cast_shown _ _) ∙ ap (λ v. cast_token c.in-Cast.target ∷ in_parens (expr_tokens v)) (sym c.get.ensures)) c.in_parens.ensures

pub form-returns-in_ok-token-in-Minus : goal.form-returns-in_ok-token-in-Minus
form-returns-in_ok-token-in-Minus t c =
    shown_behind c.operand.result c.args.self.now c.token-in-Minus.new.self c.operand.new.self (codes "-" ∷ []) _ _ c.in_ok-token-in-Minus.ensures (ap (λ f. (form_shown f).tokens) c.in-Minus.is ∙ ap (λ s. s.tokens) (minus_shown _) ∙ ap (λ v. codes "-" ∷ operand_tokens v) (sym c.get-in-Minus.ensures)) c.operand.ensures

pub form-returns-in_ok-token-in-Not : goal.form-returns-in_ok-token-in-Not
form-returns-in_ok-token-in-Not t c =
    shown_behind c.operand-in-Not.result c.args.self.now c.token-in-Not.new.self c.operand-in-Not.new.self (codes "!" ∷ []) _ _ c.in_ok-token-in-Not.ensures (ap (λ f. (form_shown f).tokens) c.in-Not.is ∙ ap (λ s. s.tokens) (not_shown _) ∙ ap (λ v. codes "!" ∷ operand_tokens v) (sym c.get-in-Not.ensures)) c.operand-in-Not.ensures

pub form-returns-in_ok-operand-in-Product : goal.form-returns-in_ok-operand-in-Product
form-returns-in_ok-operand-in-Product t c =
    shown_behind c.factors.result c.args.self.now c.operand-in-Product.new.self c.factors.new.self (operand_tokens c.get-in-Product.result.now) (flat_map factor_tokens c.as_slice-in-Product.result.now) _ c.in_ok-operand-in-Product.ensures (ap (λ f. (form_shown f).tokens) c.in-Product.is ∙ ap (λ s. s.tokens) (product_shown _ _) ∙ ap (λ v. operand_tokens v ++ flat_map factor_tokens c.in-Product.rest) (sym c.get-in-Product.ensures) ∙ ap (λ vs. operand_tokens c.get-in-Product.result.now ++ flat_map factor_tokens vs) (sym c.as_slice-in-Product.ensures)) c.factors.ensures

pub form-returns-in_ok-operand-in-Sum : goal.form-returns-in_ok-operand-in-Sum
form-returns-in_ok-operand-in-Sum t c =
    shown_behind c.terms.result c.args.self.now c.operand-in-Sum.new.self c.terms.new.self (operand_tokens c.get-in-Sum.result.now) (flat_map term_tokens c.as_slice-in-Sum.result.now) _ c.in_ok-operand-in-Sum.ensures (ap (λ f. (form_shown f).tokens) c.in-Sum.is ∙ ap (λ s. s.tokens) (sum_shown _ _) ∙ ap (λ v. operand_tokens v ++ flat_map term_tokens c.in-Sum.rest) (sym c.get-in-Sum.ensures) ∙ ap (λ vs. operand_tokens c.get-in-Sum.result.now ++ flat_map term_tokens vs) (sym c.as_slice-in-Sum.ensures)) c.terms.ensures

pub form-returns-in-And : goal.form-returns-in-And
form-returns-in-And t c =
    shown_as c.operands.result c.args.self.now c.operands.new.self _ _ (ap (λ f. (form_shown f).tokens) c.in-And.is ∙ ap (λ s. s.tokens) (and_shown _) ∙ ap (separated (codes "&&") operand_tokens) (sym c.as_slice-in-And.ensures)) c.operands.ensures

pub form-returns-in-Or : goal.form-returns-in-Or
form-returns-in-Or t c =
    shown_as c.operands-in-Or.result c.args.self.now c.operands-in-Or.new.self _ _ (ap (λ f. (form_shown f).tokens) c.in-Or.is ∙ ap (λ s. s.tokens) (or_shown _) ∙ ap (separated (codes "||") operand_tokens) (sym c.as_slice-in-Or.ensures)) c.operands-in-Or.ensures
