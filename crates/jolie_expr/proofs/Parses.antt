-- A number that is read from a text is the number that the text writes.
use Rattle.std.proofs.Common.{◌≡◌, ℕ, ℤ, pos, neg_ℤ, List, [], ◌∷◌, Bool, true, false, ◌==◌, Option, None, Some, Result, Ok, Err, refl, sym, ap, ◌∙◌, eqb-true, arith, rules}
use Rattle.std.specs.Prelude.{option_map, option_and_then, FitsSigned}
use Rattle.std.specs.List.{list_all}
use Rattle.std.specs.Result.{OkIff, result_ok}
use Rattle.std.specs.Str.Parse.{IsNumeral, ParsesSigned, digits_value}
use Rattle.std.proofs.lemmas.Bool.{false≢true}
use Rattle.std.proofs.lemmas.Str.Parse.{IsNumeralModel, IsDigitsTest, numerals_by_value}
use Rattle.jolie_trees.specs.declared.root.Root.{Root}
use Rattle.jolie_trees.specs.declared.root.Root.TheVariants as root
use Rattle.behaviour_tree.specs.Numbers.{int_root, long_root}
use Rattle.behaviour_tree.specs.Texts.{is_digit, digits_in, number_in}
use Rattle.jolie_expr.specs.Signs.{begins_with_plus}
use Rattle.jolie_expr.proofs.Ranges.{int_fits, int_passes, long_fits, long_passes}
use mir.Syntax.{Width, w32, w64}

tells : IsDigitsTest (λ ds. list_all is_digit ds ≡ true)
tells = search rules

own : IsNumeralModel (λ ds. list_all is_digit ds ≡ true) (digits_value 10)
own = numerals_by_value _ tells

-- at a kind of numbers that holds those that fit a width
module _ (w : Width) (make : ℤ → Root) (within : ℤ → Option Root) (fits : (z : ℤ) → FitsSigned w z → Some (make z) ≡ within z) (passes : (z : ℤ) → ¬ FitsSigned w z → None ≡ within z) where
  by_test : {E : Type 0} (f : ℕ → ℤ) (d : ℕ) (ds : List ℕ) (b : Bool) → list_all is_digit (d ∷ ds) ≡ b → (r : Result ℤ E)
      → OkIff r (IsNumeral 10 (d ∷ ds) × FitsSigned w (f (digits_value 10 (d ∷ ds)))) (f (digits_value 10 (d ∷ ds)))
      → option_map make (result_ok r) ≡ option_and_then within (option_map f (digits_in (d ∷ ds)))
  by_test f d ds true e (Ok z) h = rw e (ap (λ (x : ℤ). Some (make x)) h.1 ∙ fits _ h.0.1)
  by_test f d ds true e (Err x) h = rw e (passes _ (λ k. h ((omega arith, own.to (d ∷ ds) e), k)))
  by_test f d ds false e (Ok z) h = absurd (false≢true (sym e ∙ own.from (d ∷ ds) h.0.0.1))
  by_test f d ds false e (Err x) h = rw e refl

  by_digits : {E : Type 0} (f : ℕ → ℤ) (ds : List ℕ) (r : Result ℤ E)
      → OkIff r (IsNumeral 10 ds × FitsSigned w (f (digits_value 10 ds))) (f (digits_value 10 ds))
      → option_map make (result_ok r) ≡ option_and_then within (option_map f (digits_in ds))
  by_digits f [] (Ok z) h = absurd (omega (arith, h.0.0.0))
  by_digits f [] (Err x) h = refl
  by_digits f (d ∷ ds) r h = by_test f d ds (list_all is_digit (d ∷ ds)) refl r h

  by_sign : {E : Type 0} (b : ℕ) (bs : List ℕ) (m : Bool) → (b == 45) ≡ m → (r : Result ℤ E) → (b == 43) ≡ false → ParsesSigned w 10 (b ∷ bs) r
      → option_map make (result_ok r) ≡ option_and_then within (number_in (b ∷ bs))
  by_sign b bs true e r p h = rw e (by_digits (λ n. neg_ℤ (pos n)) bs r (rw e at h))
  by_sign b bs false e r p h = rw e (by_digits pos (b ∷ bs) r (rw (e, p) at h))

  parses : {E : Type 0} (bs : List ℕ) (r : Result ℤ E) → begins_with_plus bs ≡ false → ParsesSigned w 10 bs r
      → option_map make (result_ok r) ≡ option_and_then within (number_in bs)
  parses [] (Ok z) p h = absurd (omega (arith, h.0.0.0))
  parses [] (Err x) p h = refl
  parses (b ∷ bs) r p h = by_sign b bs (b == 45) refl r p h

  plus_is_none : (bs : List ℕ) → begins_with_plus bs ≡ true → None ≡ option_and_then within (number_in bs)
  plus_is_none [] p = absurd (false≢true p)
  plus_is_none (b ∷ bs) p = let e = eqb-true b 43 p in rw e refl

pub int_parses : {E : Type 0} (bs : List ℕ) (r : Result ℤ E) → begins_with_plus bs ≡ false → ParsesSigned w32 10 bs r → option_map root.Int (result_ok r) ≡ option_and_then int_root (number_in bs)
int_parses bs r p h = parses w32 root.Int int_root int_fits int_passes bs r p h

pub long_parses : {E : Type 0} (bs : List ℕ) (r : Result ℤ E) → begins_with_plus bs ≡ false → ParsesSigned w64 10 bs r → option_map root.Long (result_ok r) ≡ option_and_then long_root (number_in bs)
long_parses bs r p h = parses w64 root.Long long_root long_fits long_passes bs r p h

pub plus_is_no_int : (bs : List ℕ) → begins_with_plus bs ≡ true → None ≡ option_and_then int_root (number_in bs)
plus_is_no_int bs p = plus_is_none w32 root.Int int_root int_fits int_passes bs p

pub plus_is_no_long : (bs : List ℕ) → begins_with_plus bs ≡ true → None ≡ option_and_then long_root (number_in bs)
plus_is_no_long bs p = plus_is_none w64 root.Long long_root long_fits long_passes bs p
