use Rattle.std.proofs.Common.{◌≡◌, take}
use Rattle.correlation.proofs.session.Sets.copied.Given as goal

abbrev pub invariant-loop-set : goal.invariant-loop-set
invariant-loop-set l = l.list.items ≡ take l.set-index l.sets
