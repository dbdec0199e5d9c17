use Rattle.std.proofs.Common.{◌-◌, length}
use Rattle.explain_hints.proofs.FewTokens.{ComesSoFar}
use Rattle.explain_hints.proofs.short.without_statements.Given as goal

abbrev pub invariant-loop-at : goal.invariant-loop-at
invariant-loop-at l = ComesSoFar l.text l.tokens l.at l.short

abbrev pub decreases-loop-at : goal.decreases-loop-at
decreases-loop-at l = length l.tokens - l.at
