use Rattle.std.proofs.Common.{◌≡◌, drop, map}
use Rattle.behaviour_tree.specs.PartsView.{set_view}
use Rattle.test_conditions.specs.Told.{reaches}
use Rattle.test_conditions.proofs.sessions.reaches.Given as goal

abbrev pub invariant-loop-set : goal.invariant-loop-set
invariant-loop-set l = reaches l.variable (map set_view l.sets) ≡ reaches l.left (map set_view (drop l.set-index l.sets))
