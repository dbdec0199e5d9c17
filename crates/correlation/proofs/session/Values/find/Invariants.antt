use Rattle.std.proofs.Common.{◌≡◌, drop}
use Rattle.correlation.specs.Sessions.{value_of}
use Rattle.correlation.proofs.session.Values.find.Given as goal

abbrev pub invariant-loop-written : goal.invariant-loop-written
invariant-loop-written l = value_of l.self l.variable ≡ value_of (drop l.written-index l.written-items) l.variable
