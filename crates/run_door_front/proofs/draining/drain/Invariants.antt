-- Where a text still goes out its wire could move nothing as often in a row as nothing moved.
use Rattle.run_door_front.proofs.Drained.{Draining}
use Rattle.run_door_front.proofs.draining.drain.Given as goal

abbrev pub invariant-loop-writes : goal.invariant-loop-writes
invariant-loop-writes g l = Draining l.left l.still l.fn.doors l.doors l.fn.connections l.connections

-- each turn but the last is a rest
abbrev pub decreases-loop-writes : goal.decreases-loop-writes
decreases-loop-writes g l = l.left
