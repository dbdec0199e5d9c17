use Rattle.std.proofs.Common.{◌≡◌, drop}
use Rattle.correlation.specs.Sessions.{set_with}
use Rattle.correlation.proofs.session.Session.set_with.Given as goal

abbrev pub invariant-loop-set : goal.invariant-loop-set
invariant-loop-set l = set_with l.variable l.self.sets ≡ set_with l.variable (drop l.set-index l.set-items)
