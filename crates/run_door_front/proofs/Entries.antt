-- Entries of lists by their places, and how many there are of a kind.
use Rattle.std.proofs.Common.{◌≡◌, refl, sym, ap, ◌∙◌, arith, ℕ, zero, suc, ◌+◌, ◌<◌, ◌≤◌, Bool, true, false, cond, ◌⊎◌, inl, inr, List, [], ◌∷◌, ◌++◌, length, take, Some, count_by, slice_get, slice_set, nat_eq}
use Rattle.std.proofs.lemmas.List.Sums.{sum_by-cons}
use Rattle.std.proofs.lemmas.Bool.{eq-eqb, eqb-true, eqb-false}
use Rattle.std.proofs.lemmas.Option.{none-some, same_Some}

-- one where it is true
abbrev pub one_if : Bool → ℕ
one_if b = cond b 1 0

one_plus : (n : ℕ) → 1 + n ≡ suc n
one_plus n = omega arith

zero_plus : (n : ℕ) → 0 + n ≡ n
zero_plus n = omega arith

module _ {A : Type 0} where
  -- an entry stays where more stands behind it
  pub get_front : (xs ys : List A) (i : ℕ) (x : A) → slice_get xs i ≡ Some x → slice_get (xs ++ ys) i ≡ Some x
  get_front [] ys i x e = absurd (none-some x e)
  get_front (y ∷ xs) ys zero x e = e
  get_front (y ∷ xs) ys (suc i) x e = get_front xs ys i x e

  -- the entry behind others
  pub get_last : (xs : List A) (y : A) → slice_get (xs ++ y ∷ []) (length xs) ≡ Some y
  get_last [] y = refl
  get_last (x ∷ xs) y = get_last xs y

  -- an entry of a list with one more is one of the list, or that one
  pub get_cases : (xs : List A) (y : A) (i : ℕ) (x : A) → slice_get (xs ++ y ∷ []) i ≡ Some x
      → (slice_get xs i ≡ Some x) ⊎ ((i ≡ length xs) × (y ≡ x))
  get_cases [] y zero x e = inr (refl, same_Some y x e)
  get_cases [] y (suc i) x e = absurd (none-some x e)
  get_cases (z ∷ xs) y zero x e = inl e
  get_cases (z ∷ xs) y (suc i) x e =
      elim (get_cases xs y i x e) [ inl k ↦ inl k | inr k ↦ inr (ap suc k.0, k.1) ]

  -- the first of a list with more behind
  pub take_front : (xs ys : List A) (i : ℕ) → i ≤ length xs → take i (xs ++ ys) ≡ take i xs
  take_front xs ys zero h = refl
  take_front [] ys (suc i) h = absurd (omega arith)
  take_front (x ∷ xs) ys (suc i) h = ap (λ l. x ∷ l) (take_front xs ys i (omega arith))

  -- an entry that was set
  pub get_set_same : (xs : List A) (i : ℕ) (x y : A) → slice_get xs i ≡ Some x → slice_get (slice_set xs i y) i ≡ Some y
  get_set_same [] i x y e = absurd (none-some x e)
  get_set_same (z ∷ xs) zero x y e = refl
  get_set_same (z ∷ xs) (suc i) x y e = get_set_same xs i x y e

  -- the others stay
  pub get_set_unlike : (xs : List A) (i j : ℕ) (y : A) → (i ≡ j → ⊥) → slice_get (slice_set xs i y) j ≡ slice_get xs j
  get_set_unlike [] i j y h = refl
  get_set_unlike (z ∷ xs) zero zero y h = absurd (h refl)
  get_set_unlike (z ∷ xs) zero (suc j) y h = refl
  get_set_unlike (z ∷ xs) (suc i) zero y h = refl
  get_set_unlike (z ∷ xs) (suc i) (suc j) y h = get_set_unlike xs i j y (λ e. h (ap suc e))

  pub get_set_other : (xs : List A) (i j : ℕ) (y : A) → nat_eq i j ≡ false → slice_get (slice_set xs i y) j ≡ slice_get xs j
  get_set_other xs i j y e = get_set_unlike xs i j y (eqb-false i j e)

  -- a list stays as long where an entry is set
  pub length_set : (xs : List A) (i : ℕ) (y : A) → length (slice_set xs i y) ≡ length xs
  length_set [] i y = refl
  length_set (z ∷ xs) zero y = refl
  length_set (z ∷ xs) (suc i) y = ap suc (length_set xs i y)

  -- ---- counts

  module _ (p : A → Bool) where
    pub count_cons : (x : A) (xs : List A) → count_by p (x ∷ xs) ≡ one_if (p x) + count_by p xs
    count_cons x xs = sum_by-cons (λ y. one_if (p y)) x xs

    pub count_yes : (x : A) (xs : List A) → p x ≡ true → count_by p (x ∷ xs) ≡ suc (count_by p xs)
    count_yes x xs e = count_cons x xs ∙ ap (λ (b : Bool). one_if b + count_by p xs) e ∙ one_plus (count_by p xs)

    pub count_no : (x : A) (xs : List A) → p x ≡ false → count_by p (x ∷ xs) ≡ count_by p xs
    count_no x xs e = count_cons x xs ∙ ap (λ (b : Bool). one_if b + count_by p xs) e ∙ zero_plus (count_by p xs)

    pub count_append : (xs ys : List A) → count_by p (xs ++ ys) ≡ count_by p xs + count_by p ys
    count_append [] ys = let none : count_by p [] ≡ 0 = refl in omega arith
    count_append (x ∷ xs) ys =
        let more = count_append xs ys in
        let one = count_cons x (xs ++ ys) in
        let two = count_cons x xs in
        omega arith

    -- as many are of a kind where an entry is set to one that is alike
    pub count_set : (xs : List A) (i : ℕ) (x y : A) → slice_get xs i ≡ Some x → p y ≡ p x → count_by p (slice_set xs i y) ≡ count_by p xs
    count_set [] i x y e same = absurd (none-some x e)
    count_set (z ∷ xs) zero x y e same =
        count_cons y xs ∙ ap (λ (b : Bool). one_if b + count_by p xs) (same ∙ ap p (sym (same_Some z x e))) ∙ sym (count_cons z xs)
    count_set (z ∷ xs) (suc i) x y e same =
        count_cons z (slice_set xs i y) ∙ ap (λ n. one_if (p z) + n) (count_set xs i x y e same) ∙ sym (count_cons z xs)

    -- where one of a kind stands, with so many of it before
    abbrev pub IsLast : List A → ℕ → Type 0
    IsLast xs n = (i : ℕ) × (x : A) × (slice_get xs i ≡ Some x) × (p x ≡ true) × (count_by p (take i xs) ≡ n)

    last_behind : (x : A) (xs : List A) (m k n : ℕ) → ((i : ℕ) → count_by p (x ∷ take i xs) ≡ m + count_by p (take i xs)) → n ≡ m + k
        → IsLast xs k → IsLast (x ∷ xs) n
    last_behind x xs m k n step is found =
        (suc found.0, found.1, found.2, found.3, (let one = step found.0 in let there = found.4 in omega arith))

    last_step : (x : A) (xs : List A) (n : ℕ) → ((k : ℕ) → count_by p xs ≡ suc k → IsLast xs k) → (b : Bool) → p x ≡ b
        → count_by p (x ∷ xs) ≡ suc n → IsLast (x ∷ xs) n
    last_step x xs n rest true is e = by_rest (count_by p xs) refl
      where
        by_rest : (m : ℕ) → count_by p xs ≡ m → IsLast (x ∷ xs) n
        by_rest zero nothing = (0, x, refl, is, (let all = count_yes x xs is in let start : count_by p [] ≡ 0 = refl in omega arith))
        by_rest (suc k) more =
            last_behind x xs 1 k n (λ i. let one = count_yes x (take i xs) is in omega arith) (let all = count_yes x xs is in omega arith) (rest k more)
    last_step x xs n rest false is e =
        last_behind x xs 0 n n (λ i. let one = count_no x (take i xs) is in omega arith) (omega arith)
        (rest n (let all = count_no x xs is in omega arith))

    -- the last of a kind stands behind all others of it
    pub last_of : (xs : List A) (n : ℕ) → count_by p xs ≡ suc n → IsLast xs n
    last_of [] n e = absurd (let none : count_by p [] ≡ 0 = refl in omega arith)
    last_of (x ∷ xs) n e = last_step x xs n (λ k h. last_of xs k h) (p x) refl e

-- no number is another
pub nat_eq_same : (n : ℕ) → nat_eq n n ≡ true
nat_eq_same n = eq-eqb n n refl

pub nat_eq_is : (m n : ℕ) → nat_eq m n ≡ true → m ≡ n
nat_eq_is m n e = eqb-true m n e

pub nat_eq_less : (m n : ℕ) → n < m → nat_eq m n ≡ false
nat_eq_less m n h = unlike (nat_eq m n) refl
  where
    unlike : (b : Bool) → nat_eq m n ≡ b → nat_eq m n ≡ false
    unlike true e = absurd (let same : m ≡ n = eqb-true m n e in omega arith)
    unlike false e = e
