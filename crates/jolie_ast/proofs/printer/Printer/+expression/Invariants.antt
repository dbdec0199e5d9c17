use Rattle.std.proofs.Common.{◌≡◌, ◌∷◌, take, flat_map, codes}
use Rattle.jolie_ast.specs.Spacing.{after}
use Rattle.jolie_ast.specs.PrintedExpressions.{factor_tokens, term_tokens, member_tokens, step_tokens, operand_tokens}
use Rattle.jolie_ast.proofs.printer.Printer.+expression.Given as goal

abbrev pub invariant-factors-loop-factor : goal.invariant-factors-loop-factor
invariant-factors-loop-factor l = l.self ≡ after l.initial.self (flat_map factor_tokens (take l.factor-index l.factors))

abbrev pub invariant-terms-loop-term : goal.invariant-terms-loop-term
invariant-terms-loop-term l = l.self ≡ after l.initial.self (flat_map term_tokens (take l.term-index l.terms))

abbrev pub invariant-members-loop-member : goal.invariant-members-loop-member
invariant-members-loop-member l = l.self ≡ after l.initial.self (flat_map (λ m. codes "," ∷ member_tokens m) (take l.member-index l.rest))

abbrev pub invariant-operands-loop-value : goal.invariant-operands-loop-value
invariant-operands-loop-value l = l.self ≡ after l.initial.self (flat_map (λ e. l.sign ∷ operand_tokens e) (take l.value-index l.rest))

abbrev pub invariant-path-loop-step : goal.invariant-path-loop-step
invariant-path-loop-step l = l.self ≡ after l.initial.self (flat_map (λ s. codes "." ∷ step_tokens s) (take l.step-index l.step-items))
