-- Runs that ended since their output failed.
use Rattle.std.proofs.Common.{◌≡◌, ℕ, suc, ◌-◌, true, false, arith}
use Rattle.run_theorem.specs.Statuses.{Causes}

-- the output failed, and nothing else
abbrev pub causes : Causes
causes = record { source = false; output = true; notes = false; doors = false; spent = false }

-- the last of so many
pub last_of : (n j : ℕ) → n ≡ suc j → n - 1 ≡ j
last_of n j is = omega (arith, is)
