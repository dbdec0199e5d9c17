use Rattle.std.proofs.Common.{◌-◌, ◌≤◌, length, drop}
use Rattle.http_port.specs.Connections.{Reading}
use Rattle.http_port.proofs.laws.each_connection_has_a_reading.Given as goal

abbrev pub invariant-loop-length : goal.invariant-loop-length
invariant-loop-length l = record {
  within : l.at ≤ length l.bytes;
  leads : ∥ Reading (drop l.at l.bytes) ∥₁ → ∥ Reading l.bytes ∥₁;
}

abbrev pub decreases-loop-length : goal.decreases-loop-length
decreases-loop-length l = length l.bytes - l.at
