use Rattle.std.proofs.Common.{◌≡◌, ◌++◌, take, flat_map}
use Rattle.explain_notes.specs.Expressions.{expr_mentions}
use Rattle.explain_notes.specs.Parts.{factor_mentions, term_mentions, member_mentions, index_mentions}
use Rattle.explain_notes.proofs.list.Mentions.+expression.Given as goal

abbrev pub invariant-exprs-loop-value : goal.invariant-exprs-loop-value
invariant-exprs-loop-value l = l.self ≡ l.initial.self ++ flat_map expr_mentions (take l.value-index l.values)

abbrev pub invariant-factors-loop-factor : goal.invariant-factors-loop-factor
invariant-factors-loop-factor l = l.self ≡ l.initial.self ++ flat_map factor_mentions (take l.factor-index l.factors)

abbrev pub invariant-terms-loop-term : goal.invariant-terms-loop-term
invariant-terms-loop-term l = l.self ≡ l.initial.self ++ flat_map term_mentions (take l.term-index l.terms)

abbrev pub invariant-members-loop-member : goal.invariant-members-loop-member
invariant-members-loop-member l = l.self ≡ l.initial.self ++ flat_map member_mentions (take l.member-index l.members)

abbrev pub invariant-steps-loop-step : goal.invariant-steps-loop-step
invariant-steps-loop-step l = l.self ≡ l.initial.self ++ flat_map index_mentions (take l.step-index l.steps)
