use Rattle.std.proofs.Common.{◌≡◌, drop}
use Rattle.main_commands.specs.Numbers as spec
use Rattle.main_commands.proofs.Picks.{list_after}
use Rattle.main_commands.proofs.numbers.picks_of.Given as goal

abbrev pub invariant-loop-byte : goal.invariant-loop-byte
invariant-loop-byte l = list_after l.picks l.begun (drop l.byte-index l.bytes) ≡ spec.picks_of l.bytes
