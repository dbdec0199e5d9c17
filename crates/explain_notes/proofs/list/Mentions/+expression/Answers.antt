use Rattle.std.proofs.Common.{◌++◌, ap, sym, ◌∙◌}
use Rattle.jolie_ast.specs.declared.expression.Step.{out-Step}
use Rattle.explain_notes.specs.Expressions.{expr_mentions}
use Rattle.explain_notes.specs.Parts.{index_after, factor_mentions, form_mentions, index_mentions, member_mentions, term_mentions}
use Rattle.explain_notes.proofs.Lists.{nothing_added, turn_of}
use Rattle.explain_notes.proofs.ExpressionForms.{factor_is, int_is, long_is, member_is, step_is, term_is, text_is, truth_is}
use Rattle.explain_notes.proofs.list.Mentions.+expression.Goals as goal

pub form-returns-in-Int : goal.form-returns-in-Int
form-returns-in-Int t c = nothing_added _ _ (ap form_mentions c.in-Int.is ∙ int_is _)

pub form-returns-in-Long : goal.form-returns-in-Long
form-returns-in-Long t c = nothing_added _ _ (ap form_mentions c.in-Long.is ∙ long_is _)

pub form-returns-in-Str : goal.form-returns-in-Str
form-returns-in-Str t c = nothing_added _ _ (ap form_mentions c.in-Str.is ∙ text_is _)

pub form-returns-in-Bool : goal.form-returns-in-Bool
form-returns-in-Bool t c = nothing_added _ _ (ap form_mentions c.in-Bool.is ∙ truth_is _)

pub index-returns-in-None : goal.index-returns-in-None
index-returns-in-None t c =
    nothing_added _ _ (step_is c.args.step.now ∙ ap (λ i. index_after (out-Step c.args.step.now).name.at i) c.in-None.is)

pub exprs-loop-value-preserved : goal.exprs-loop-value-preserved
exprs-loop-value-preserved t c =
    turn_of expr_mentions _ _ _ _ _ _ c.loop-value-test.true c.value-item.is c.loop-value.invariant c.in_ok-expr.ensures

pub factors-loop-factor-preserved : goal.factors-loop-factor-preserved
factors-loop-factor-preserved t c =
    turn_of factor_mentions _ _ _ _ _ _ c.loop-factor-test.true c.factor-item.is c.loop-factor.invariant
    (c.in_ok-expr.ensures ∙ ap (λ ms. c.loop-factor.self ++ ms) (sym (factor_is c.factor-item.result)))

pub terms-loop-term-preserved : goal.terms-loop-term-preserved
terms-loop-term-preserved t c =
    turn_of term_mentions _ _ _ _ _ _ c.loop-term-test.true c.term-item.is c.loop-term.invariant
    (c.in_ok-expr.ensures ∙ ap (λ ms. c.loop-term.self ++ ms) (sym (term_is c.term-item.result)))

pub members-loop-member-preserved : goal.members-loop-member-preserved
members-loop-member-preserved t c =
    turn_of member_mentions _ _ _ _ _ _ c.loop-member-test.true c.member-item.is c.loop-member.invariant
    (c.in_ok-expr.ensures ∙ ap (λ ms. c.loop-member.self ++ ms) (sym (member_is c.member-item.result)))

pub steps-loop-step-preserved : goal.steps-loop-step-preserved
steps-loop-step-preserved t c =
    turn_of index_mentions _ _ _ _ _ _ c.loop-step-test.true c.step-item.is c.loop-step.invariant c.in_ok-index.ensures
