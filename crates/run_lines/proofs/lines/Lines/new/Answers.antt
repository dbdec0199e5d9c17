-- Nothing is there yet.
use Rattle.std.proofs.Common.{[], ap, arith}
use Rattle.run_lines.proofs.Splitting.{split-open}
use Rattle.run_lines.proofs.lines.Lines.new.Goals as goal

pub invariant_of-result : goal.invariant_of-result
invariant_of-result c = (omega arith, ap (λ p. p.0) (split-open [] tt), ap (λ p. p.1) (split-open [] tt))
