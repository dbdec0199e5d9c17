use Rattle.std.proofs.Common.{◌≡◌, map, drop}
use Rattle.behaviour_tree.specs.PartsView.{throws_view}
use Rattle.session_calculus.specs.Accepted.{type_thrown}
use Rattle.session_values.proofs.accepted.type_thrown.Given as goal

abbrev pub invariant-loop-thrown : goal.invariant-loop-thrown
invariant-loop-thrown l = type_thrown (map throws_view (drop l.thrown-index l.throws)) l.fault ≡ type_thrown (map throws_view l.throws) l.fault
