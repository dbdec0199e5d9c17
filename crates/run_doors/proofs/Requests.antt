-- The requests of one connection among all that were asked.
use Rattle.std.proofs.Common.{◌≡◌, ◌<◌, ℕ, zero, suc, ◌+◌, Bool, true, false, List, [], ◌∷◌, take}
use Rattle.std.proofs.Common.{refl, ap, ◌∙◌, cond, arith, count_by, Some, slice_get}
use Rattle.std.proofs.lemmas.List.Sums.{sum_by-cons}

module _ {A : Type 0} (p : A → Bool) where
  -- how many are of a kind, with one in front
  pub count_cons : (x : A) (xs : List A) → count_by p (x ∷ xs) ≡ cond (p x) 1 0 + count_by p xs
  count_cons x xs = sum_by-cons (λ y. cond (p y) 1 0) x xs

  -- One of a kind, before which there are so many.
  pub record IsNth (xs : List A) (m : ℕ) : Type 0 where
    pub place : ℕ
    pub item : A
    pub there : slice_get xs place ≡ Some item
    pub kind : p item ≡ true
    pub before : count_by p (take place xs) ≡ m

  one_more : (n c m : ℕ) → n ≡ 1 + c → c ≡ m → n ≡ suc m
  one_more n c m e h = omega (arith, e, h)

  no_more : (n c m : ℕ) → n ≡ 0 + c → c ≡ m → n ≡ m
  no_more n c m e h = omega (arith, e, h)

  -- how many are of a kind, by the one in front
  count_by_front : (x : A) (xs : List A) (b : Bool) → p x ≡ b → count_by p (x ∷ xs) ≡ cond b 1 0 + count_by p xs
  count_by_front x xs b is = count_cons x xs ∙ ap (λ c. cond c 1 0 + count_by p xs) is

  -- it stands behind another that is of the kind
  behind_one : (x : A) (xs : List A) (m : ℕ) → p x ≡ true → IsNth xs m → IsNth (x ∷ xs) (suc m)
  behind_one x xs m is k = record {
    place = suc k.place;
    item = k.item;
    there = k.there;
    kind = k.kind;
    before = one_more _ _ m (count_by_front x (take k.place xs) true is) k.before;
  }

  -- or behind one that is not
  behind_other : (x : A) (xs : List A) (m : ℕ) → p x ≡ false → IsNth xs m → IsNth (x ∷ xs) m
  behind_other x xs m is k = record {
    place = suc k.place;
    item = k.item;
    there = k.there;
    kind = k.kind;
    before = no_more _ _ m (count_by_front x (take k.place xs) false is) k.before;
  }

  less_one : (n m k : ℕ) → n ≡ 1 + m → suc k < n → k < m
  less_one n m k e below = omega (arith, e, below)

  less_same : (n m k : ℕ) → n ≡ 0 + m → k < n → k < m
  less_same n m k e below = omega (arith, e, below)

  -- the one in front, or another behind it
  nth_by : (x : A) (xs : List A) (b : Bool) → p x ≡ b → ((m : ℕ) → m < count_by p xs → IsNth xs m)
      → (m : ℕ) → m < count_by p (x ∷ xs) → IsNth (x ∷ xs) m
  nth_by x xs true e behind zero lt = record { place = 0; item = x; there = refl; kind = e; before = refl }
  nth_by x xs true e behind (suc k) lt = behind_one x xs k e (behind k (less_one _ _ k (count_by_front x xs true e) lt))
  nth_by x xs false e behind k lt = behind_other x xs k e (behind k (less_same _ _ k (count_by_front x xs false e) lt))

  none_below : (m : ℕ) → m < 0 → ⊥
  none_below m below = omega (arith, below)

  -- below their count there is one with any number of others before it
  pub nth_of : (xs : List A) (m : ℕ) → m < count_by p xs → IsNth xs m
  nth_of [] m below = absurd (none_below m below)
  nth_of (x ∷ xs) m below = nth_by x xs (p x) refl (nth_of xs) m below
