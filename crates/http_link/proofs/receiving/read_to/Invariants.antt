use Rattle.std.proofs.Common.{◌≡◌, ◌-◌, false, length}
use Rattle.outside_dials.specs.Dials.{traffic}
use Rattle.http_link.specs.Steps.{Heard}
use Rattle.http_link.specs.Trips.{most_read}
use Rattle.http_link.proofs.receiving.read_to.Given as goal

abbrev pub invariant-loop-inbox : goal.invariant-loop-inbox
invariant-loop-inbox g l = record {
  heard : Heard
      (traffic (g.W.Wire.told l.fn.wire))
      (traffic (g.W.Wire.told l.wire))
      l.fn.inbox l.inbox false;
  unclosed : (g.W.Wire.told l.wire).closed ≡ false;
}

abbrev pub decreases-loop-inbox : goal.decreases-loop-inbox
decreases-loop-inbox g l = most_read - length l.inbox
