use Rattle.std.proofs.Common.{◌-◌, length}
use Rattle.http_port.specs.HeadPart.{HoldsScan}
use Rattle.http_port.proofs.scan.Scan.finish.Given as goal

abbrev pub invariant-loop-before : goal.invariant-loop-before
invariant-loop-before l = HoldsScan l.bytes l.self

abbrev pub decreases-loop-before : goal.decreases-loop-before
decreases-loop-before l = length l.bytes - l.self.at
