-- Lists with one element changed or one more.
use Rattle.std.proofs.Common.{◌≡◌, ◌≢◌, ℕ, zero, suc, Bool, true, false, List, [], ◌∷◌, refl, sym, ap, ◌∙◌, Option, None, Some, option_map, true≢false}
use Rattle.std.specs.Prelude.{nat_eq, slice_get, slice_set, if◌then◌else◌}
use Rattle.std.specs.Cmp.{unsigned_Decides}

pub same_of : {A : Type 0} (x y : A) → Some x ≡ Some y → x ≡ y
same_of x y h = ap (λ o. elim o [ None ↦ x | Some z ↦ z ]) h

pub none_not_some : {A : Type 0} (x : A) → None ≡ Some x → ⊥
none_not_some x h = true≢false (sym (ap (λ o. elim o [ None ↦ false | Some y ↦ true ]) h))

-- equal numbers are found equal
pub eq_true : (m n : ℕ) → nat_eq m n ≡ true → m ≡ n
eq_true m n e = (unsigned_Decides m n).0 e

pub itself : (n : ℕ) → nat_eq n n ≡ true
itself n = (unsigned_Decides n n).1 refl

pub eq_false : (m n : ℕ) → nat_eq m n ≡ false → m ≢ n
eq_false m n e h = true≢false (sym ((unsigned_Decides m n).1 h) ∙ e)

pub not_eq : (m n : ℕ) → m ≢ n → nat_eq m n ≡ false
not_eq m n h = by (nat_eq m n) refl
  where
    by : (b : Bool) → nat_eq m n ≡ b → b ≡ false
    by true e = absurd (h (eq_true m n e))
    by false e = refl

-- which number stands first does not matter
pub turned : (m n : ℕ) → nat_eq m n ≡ nat_eq n m
turned m n = by (nat_eq m n) refl
  where
    by : (b : Bool) → nat_eq m n ≡ b → nat_eq m n ≡ nat_eq n m
    by true e = e ∙ sym ((unsigned_Decides n m).1 (sym (eq_true m n e)))
    by false e = e ∙ sym (not_eq n m (λ h. eq_false m n e (sym h)))

-- the changed element
pub set_here : {A : Type 0} (xs : List A) (s : ℕ) (x y : A) → slice_get xs s ≡ Some x → slice_get (slice_set xs s y) s ≡ Some y
set_here [] s x y h = absurd (none_not_some x h)
set_here (z ∷ xs) zero x y h = refl
set_here (z ∷ xs) (suc s) x y h = set_here xs s x y h

-- the others
pub set_other : {A : Type 0} (xs : List A) (s t : ℕ) (y : A) → t ≢ s → slice_get (slice_set xs s y) t ≡ slice_get xs t
set_other [] s t y h = refl
set_other (z ∷ xs) zero zero y h = absurd (h refl)
set_other (z ∷ xs) zero (suc t) y h = refl
set_other (z ∷ xs) (suc s) zero y h = refl
set_other (z ∷ xs) (suc s) (suc t) y h = set_other xs s t y (λ e. h (ap suc e))

-- what stands in a list of which one element was changed
pub set_at : {A : Type 0} (xs : List A) (s t : ℕ) (x : A) (f : A → A) → slice_get xs s ≡ Some x
    → slice_get (slice_set xs s (f x)) t ≡ option_map (λ y. if nat_eq t s then f y else y) (slice_get xs t)
set_at {A} xs s t x f h = by (nat_eq t s) refl
  where
    stays : (o : Option A) → option_map (λ z. z) o ≡ o
    stays None = refl
    stays (Some z) = refl

    by : (b : Bool) → nat_eq t s ≡ b
        → slice_get (slice_set xs s (f x)) t ≡ option_map (λ y. if b then f y else y) (slice_get xs t)
    by true e =
        ap (slice_get (slice_set xs s (f x))) (eq_true t s e) ∙ set_here xs s x (f x) h
        ∙ sym (ap (option_map f) (ap (slice_get xs) (eq_true t s e) ∙ h))
    by false e = set_other xs s t (f x) (eq_false t s e) ∙ sym (stays (slice_get xs t))
