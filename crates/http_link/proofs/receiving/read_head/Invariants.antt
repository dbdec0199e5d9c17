use Rattle.std.proofs.Common.{◌≡◌, ◌-◌, false, length, take}
use Rattle.outside_dials.specs.Dials.{traffic}
use Rattle.http_port.specs.HeadPart.{HoldsScan, longest_head}
use Rattle.http_link.specs.Steps.{Heard}
use Rattle.http_link.specs.Trips.{most_read}
use Rattle.http_link.proofs.receiving.read_head.Given as goal

abbrev pub invariant-loop-announced : goal.invariant-loop-announced
invariant-loop-announced g l = record {
  heard : Heard
      (traffic (g.W.Wire.told l.fn.wire))
      (traffic (g.W.Wire.told l.wire))
      l.fn.inbox l.inbox false;
  scan : HoldsScan (take longest_head l.inbox) l.scan;
  unclosed : (g.W.Wire.told l.wire).closed ≡ false;
}

abbrev pub decreases-loop-announced : goal.decreases-loop-announced
decreases-loop-announced g l = most_read - length l.inbox
