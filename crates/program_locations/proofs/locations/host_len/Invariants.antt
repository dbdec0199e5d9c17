use Rattle.std.proofs.Common.{◌≡◌, ℕ, ◌<◌, true, get_or}
use Rattle.behaviour_tree.specs.Locations.{is_host_byte}
use Rattle.program_locations.proofs.locations.host_len.Given as goal

abbrev pub invariant-loop-place : goal.invariant-loop-place
invariant-loop-place l = (k : ℕ) → k < l.place → is_host_byte (get_or l.text k 0) ≡ true
