use Rattle.std.proofs.Common.{◌≡◌, ℕ, ◌<◌, true, get_or}
use Rattle.behaviour_tree.specs.Texts.{is_digit}
use Rattle.program_locations.proofs.locations.digits_len.Given as goal

abbrev pub invariant-loop-place : goal.invariant-loop-place
invariant-loop-place l = (k : ℕ) → k < l.place → is_digit (get_or l.text k 0) ≡ true
