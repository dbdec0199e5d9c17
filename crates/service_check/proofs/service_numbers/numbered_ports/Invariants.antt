use Rattle.std.proofs.Common.{◌≡◌, map, take}
use Rattle.service_check.specs.KeptPorts.{sided}
use Rattle.service_check.specs.Programs.{numbered_from}
use Rattle.service_check.proofs.service_numbers.numbered_ports.Given as goal

abbrev pub invariant-loop-place : goal.invariant-loop-place
invariant-loop-place l = l.ports ≡ numbered_from l.interfaces 0 (map sided (take l.place l.sides))
