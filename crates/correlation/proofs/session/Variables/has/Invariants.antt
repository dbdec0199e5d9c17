use Rattle.std.proofs.Common.{◌≡◌, drop, nat_eq}
use Rattle.std.specs.List.{list_any}
use Rattle.correlation.proofs.session.Variables.has.Given as goal

abbrev pub invariant-loop-number : goal.invariant-loop-number
invariant-loop-number l = list_any (nat_eq l.variable) l.self ≡ list_any (nat_eq l.variable) (drop l.number-index l.number-items)
