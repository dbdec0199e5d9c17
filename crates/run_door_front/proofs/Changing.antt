-- Lists of which one element was changed.
use Rattle.std.proofs.Common.{◌≡◌, ◌≢◌, ◌⊎◌, inl, inr, refl, sym, ap, ◌∙◌, ℕ, zero, suc, ◌<◌, Bool, true, false, ◌&&◌, arith, List, [], ◌∷◌, ◌++◌, length, map, None, Some, true≢false}
use Rattle.std.specs.Prelude.{nat_eq, slice_get, slice_set}
use Rattle.std.specs.List.{list_all}
use Rattle.std.specs.Cmp.{unsigned_Decides}

-- ---- numbers and options

-- numbers that are found equal
pub eq_true : (m n : ℕ) → nat_eq m n ≡ true → m ≡ n
eq_true m n e = (unsigned_Decides m n).0 e

pub eq_false : (m n : ℕ) → nat_eq m n ≡ false → m ≢ n
eq_false m n e h = true≢false (sym ((unsigned_Decides m n).1 h) ∙ e)

pub not_eq : (m n : ℕ) → m ≢ n → nat_eq m n ≡ false
not_eq m n h = by (nat_eq m n) refl
  where
    by : (b : Bool) → nat_eq m n ≡ b → b ≡ false
    by true e = absurd (h (eq_true m n e))
    by false e = refl

pub same_of : {A : Type 0} (x y : A) → Some x ≡ Some y → x ≡ y
same_of x y h = ap (λ o. elim o [ None ↦ x | Some z ↦ z ]) h

pub none_not_some : {A : Type 0} (x : A) → None ≡ Some x → ⊥
none_not_some x h = true≢false (sym (ap (λ o. elim o [ None ↦ false | Some y ↦ true ]) h))

-- ---- one element is another

-- the changed element
pub set_here : {A : Type 0} (xs : List A) (n : ℕ) (x y : A) → slice_get xs n ≡ Some x → slice_get (slice_set xs n y) n ≡ Some y
set_here [] n x y h = absurd (none_not_some x h)
set_here (z ∷ xs) zero x y h = refl
set_here (z ∷ xs) (suc n) x y h = set_here xs n x y h

-- the others
pub set_other : {A : Type 0} (xs : List A) (n k : ℕ) (y : A) → k ≢ n → slice_get (slice_set xs n y) k ≡ slice_get xs k
set_other [] n k y h = refl
set_other (z ∷ xs) zero zero y h = absurd (h refl)
set_other (z ∷ xs) zero (suc k) y h = refl
set_other (z ∷ xs) (suc n) zero y h = refl
set_other (z ∷ xs) (suc n) (suc k) y h = set_other xs n k y (λ e. h (ap suc e))

-- what stands there is the changed element, or it stood there before
pub set_cases : {A : Type 0} (xs : List A) (n k : ℕ) (x y z : A) → slice_get xs n ≡ Some x → slice_get (slice_set xs n y) k ≡ Some z
    → ((k ≡ n) × (z ≡ y)) ⊎ ((k ≢ n) × (slice_get xs k ≡ Some z))
set_cases {A} xs n k x y z h there = by (nat_eq k n) refl
  where
    by : (b : Bool) → nat_eq k n ≡ b → ((k ≡ n) × (z ≡ y)) ⊎ ((k ≢ n) × (slice_get xs k ≡ Some z))
    by true e =
        let is : k ≡ n = eq_true k n e in
        inl (is, same_of z y (sym there ∙ ap (slice_get (slice_set xs n y)) is ∙ set_here xs n x y h))
    by false e =
        let other : k ≢ n = eq_false k n e in inr (other, sym (set_other xs n k y other) ∙ there)

-- a test that finds both alike finds all as before
pub list_all-set : {A : Type 0} (p : A → Bool) (xs : List A) (n : ℕ) (x y : A) → slice_get xs n ≡ Some x → p y ≡ p x
    → list_all p (slice_set xs n y) ≡ list_all p xs
list_all-set p [] n x y h same = refl
list_all-set p (z ∷ xs) zero x y h same = ap (λ b. b && list_all p xs) (same ∙ ap p (sym (same_of z x h)))
list_all-set p (z ∷ xs) (suc n) x y h same = ap (λ b. p z && b) (list_all-set p xs n x y h same)

-- ---- one element more

-- an element in front
pub slice_get-front : {A : Type 0} (xs ys : List A) (i : ℕ) → i < length xs → slice_get (xs ++ ys) i ≡ slice_get xs i
slice_get-front [] ys i lt = absurd (omega arith)
slice_get-front (x ∷ xs) ys zero lt = refl
slice_get-front (x ∷ xs) ys (suc i) lt = slice_get-front xs ys i (omega arith)

-- the element behind all others
pub slice_get-last : {A : Type 0} (xs : List A) (y : A) → slice_get (xs ++ y ∷ []) (length xs) ≡ Some y
slice_get-last [] y = refl
slice_get-last (x ∷ xs) y = slice_get-last xs y

-- ---- maps

-- functions that are alike
pub map_alike : {A B : Type 0} (f g : A → B) (xs : List A) → ((x : A) → f x ≡ g x) → map f xs ≡ map g xs
map_alike f g [] h = refl
map_alike f g (x ∷ xs) h = λ i. h x i ∷ map_alike f g xs h i

-- an element of a map
pub slice_get-mapped : {A B : Type 0} (f : A → B) (xs : List A) (n : ℕ) (x : A) → slice_get xs n ≡ Some x → slice_get (map f xs) n ≡ Some (f x)
slice_get-mapped f [] n x h = absurd (none_not_some x h)
slice_get-mapped f (z ∷ xs) zero x h = ap (λ y. Some (f y)) (same_of z x h)
slice_get-mapped f (z ∷ xs) (suc n) x h = slice_get-mapped f xs n x h
