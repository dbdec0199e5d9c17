-- Counts of bytes.
use Rattle.std.proofs.Common.{◌≡◌, ◌≤◌, ◌<◌, ◌+◌, ◌^◌, ℕ, Bool, List, length, arith, subst, sym}
use Rattle.std.specs.Prelude.{count_by}
use Rattle.std.proofs.lemmas.List.Sums.{count_by-le-length}

-- no more pass than there are
pub counted : (p : ℕ → Bool) (bytes : List ℕ) (n : ℕ) → n ≡ count_by p bytes → n ≤ length bytes
counted p bytes n e = subst (λ k. k ≤ length bytes) (sym e) (count_by-le-length p bytes)

-- one more than pass is no more than a number of 64 bits holds
pub one_more_fits : (p : ℕ → Bool) (bytes : List ℕ) (n : ℕ) → n ≡ count_by p bytes → length bytes < 2 ^ 63 → n + 1 < 2 ^ 64
one_more_fits p bytes n e short = omega (arith, counted p bytes n e)
