-- When a whole number fits 32 or 64 bits.
use Rattle.std.proofs.Common.{◌≡◌, ℕ, ◌<◌, ◌≤◌, ℤ, pos, negsuc, Bool, true, false, Some, None, refl, arith}
use Rattle.std.specs.Prelude.{FitsSigned, nat_le, nat_lt}
use Rattle.std.proofs.Math.Facts.{sfits_lit}
use Rattle.std.proofs.lemmas.Float.{T_from_true}
use Rattle.std.proofs.lemmas.Int.{ints}
use Rattle.std.proofs.lemmas.Bool.Decides.{nat_tests}
use Rattle.behaviour_tree.specs.Numbers.{int_root, long_root}
use Rattle.jolie_trees.specs.declared.root.Root.TheVariants as root
use mir.Syntax.{w32, w64}

below : (n k m : ℕ) → k < m → nat_le n k ≡ true → nat_lt n m ≡ true
below n k m h e = grind (arith, nat_tests)

pub int_fits : (z : ℤ) → FitsSigned w32 z → Some (root.Int z) ≡ int_root z
int_fits (pos n) h = let k : n ≤ 2147483647 = omega (arith, ints) in let e : nat_le n 2147483647 ≡ true = grind (arith, nat_tests) in rw e
int_fits (negsuc n) h = let k : n ≤ 2147483647 = omega (arith, ints) in let e : nat_le n 2147483647 ≡ true = grind (arith, nat_tests) in rw e

int_passes_pos : (n : ℕ) (b : Bool) → nat_le n 2147483647 ≡ b → ¬ FitsSigned w32 (pos n) → None ≡ int_root (pos n)
int_passes_pos n true e h = absurd (h (sfits_lit {w = w32} {z = pos n} (T_from_true _ (below n 2147483647 2147483648 (omega arith) e))))
int_passes_pos n false e h = rw e

int_passes_neg : (n : ℕ) (b : Bool) → nat_le n 2147483647 ≡ b → ¬ FitsSigned w32 (negsuc n) → None ≡ int_root (negsuc n)
int_passes_neg n true e h = absurd (h (sfits_lit {w = w32} {z = negsuc n} (T_from_true _ (below n 2147483647 2147483648 (omega arith) e))))
int_passes_neg n false e h = rw e

pub int_passes : (z : ℤ) → ¬ FitsSigned w32 z → None ≡ int_root z
int_passes (pos n) h = int_passes_pos n (nat_le n 2147483647) refl h
int_passes (negsuc n) h = int_passes_neg n (nat_le n 2147483647) refl h

pub long_fits : (z : ℤ) → FitsSigned w64 z → Some (root.Long z) ≡ long_root z
long_fits (pos n) h = let k : n ≤ 9223372036854775807 = omega (arith, ints) in let e : nat_le n 9223372036854775807 ≡ true = grind (arith, nat_tests) in rw e
long_fits (negsuc n) h = let k : n ≤ 9223372036854775807 = omega (arith, ints) in let e : nat_le n 9223372036854775807 ≡ true = grind (arith, nat_tests) in rw e

long_passes_pos : (n : ℕ) (b : Bool) → nat_le n 9223372036854775807 ≡ b → ¬ FitsSigned w64 (pos n) → None ≡ long_root (pos n)
long_passes_pos n true e h = absurd (h (sfits_lit {w = w64} {z = pos n} (T_from_true _ (below n 9223372036854775807 9223372036854775808 (omega arith) e))))
long_passes_pos n false e h = rw e

long_passes_neg : (n : ℕ) (b : Bool) → nat_le n 9223372036854775807 ≡ b → ¬ FitsSigned w64 (negsuc n) → None ≡ long_root (negsuc n)
long_passes_neg n true e h = absurd (h (sfits_lit {w = w64} {z = negsuc n} (T_from_true _ (below n 9223372036854775807 9223372036854775808 (omega arith) e))))
long_passes_neg n false e h = rw e

pub long_passes : (z : ℤ) → ¬ FitsSigned w64 z → None ≡ long_root z
long_passes (pos n) h = long_passes_pos n (nat_le n 9223372036854775807) refl h
long_passes (negsuc n) h = long_passes_neg n (nat_le n 9223372036854775807) refl h
