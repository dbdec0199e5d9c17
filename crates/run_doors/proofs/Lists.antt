-- Lists: what stands at a place, what holds of all or of one, and fronts.
use Rattle.std.proofs.Common.{◌≡◌, ◌≢◌, ◌<◌, ◌≤◌, ℕ, zero, suc, Bool, true, false, ◌&&◌, ◌||◌, List, [], ◌∷◌, ◌++◌}
use Rattle.std.proofs.Common.{refl, sym, ap, subst, ◌∙◌, arith, length, map, take, true≢false, Contains, get_or, append_assoc}
use Rattle.std.proofs.Common.{None, Some, option_map, slice_get}
use Rattle.std.specs.List.{list_all, list_any}
use Rattle.run_theorem.specs.Lines.{IsPrefix, IsProperPrefix}
use Rattle.run_order_laws.proofs.Lists.{none_not_some, both_true}

-- ---- places

-- nothing stands behind the last
pub get_past : {A : Type 0} (xs : List A) → slice_get xs (length xs) ≡ None
get_past [] = refl
get_past (x ∷ xs) = get_past xs

none_within : (n : ℕ) → n < 0 → ⊥
none_within n h = omega (arith, h)

first_within : (n : ℕ) → 0 < suc n
first_within n = omega arith

one_within : (m n : ℕ) → m < n → suc m < suc n
one_within m n h = omega (arith, h)

one_less : (m n : ℕ) → suc m < suc n → m < n
one_less m n h = omega (arith, h)

one_fewer : (m n : ℕ) → suc m ≤ suc n → m ≤ n
one_fewer m n h = omega (arith, h)

none_fewer : (n : ℕ) → suc n ≤ 0 → ⊥
none_fewer n h = omega (arith, h)

-- what is there is within
pub get_within : {A : Type 0} (xs : List A) (n : ℕ) (x : A) → slice_get xs n ≡ Some x → n < length xs
get_within [] n x h = absurd (none_not_some x h)
get_within (y ∷ ys) zero x h = first_within (length ys)
get_within (y ∷ ys) (suc n) x h = one_within n (length ys) (get_within ys n x h)

-- something is there within
pub get_some : {A : Type 0} (xs : List A) (n : ℕ) → n < length xs → (x : A) × (slice_get xs n ≡ Some x)
get_some [] n h = absurd (none_within n h)
get_some (y ∷ ys) zero h = (y, refl)
get_some (y ∷ ys) (suc n) h = get_some ys n (one_less n (length ys) h)

-- of a list that is made of another
pub get_map : {A B : Type 0} (f : A → B) (xs : List A) (n : ℕ) → slice_get (map f xs) n ≡ option_map f (slice_get xs n)
get_map f [] n = refl
get_map f (x ∷ xs) zero = refl
get_map f (x ∷ xs) (suc n) = get_map f xs n

pub length_map : {A B : Type 0} (f : A → B) (xs : List A) → length (map f xs) ≡ length xs
length_map f [] = refl
length_map f (x ∷ xs) = ap suc (length_map f xs)

-- ---- all and one

-- what holds at each place holds of all
pub all_by_place : {A : Type 0} (p : A → Bool) (xs : List A)
    → ((n : ℕ) (x : A) → slice_get xs n ≡ Some x → p x ≡ true) → list_all p xs ≡ true
all_by_place p [] h = refl
all_by_place p (x ∷ xs) h =
    both_true (p x) (list_all p xs) (h 0 x refl) (all_by_place p xs (λ n y there. h (suc n) y there))

pub any_map : {A B : Type 0} (p : B → Bool) (f : A → B) (xs : List A) → list_any p (map f xs) ≡ list_any (λ x. p (f x)) xs
any_map p f [] = refl
any_map p f (x ∷ xs) = ap (λ b. p (f x) || b) (any_map p f xs)

pub all_map : {A B : Type 0} (p : B → Bool) (f : A → B) (xs : List A) → list_all p (map f xs) ≡ list_all (λ x. p (f x)) xs
all_map p f [] = refl
all_map p f (x ∷ xs) = ap (λ b. p (f x) && b) (all_map p f xs)

-- ---- fronts

or_keeps : (a b c : Bool) → (b ≡ true → c ≡ true) → (a || b) ≡ true → (a || c) ≡ true
or_keeps true b c f h = refl
or_keeps false b c f h = f h

-- what is found among the first so many, which stand in a front, is found in the front
pub any_first : {A : Type 0} (p : A → Bool) (n : ℕ) (xs ys : List A) → n ≤ length xs
    → list_any p (take n (xs ++ ys)) ≡ true → list_any p xs ≡ true
any_first p zero xs ys inside h = absurd (true≢false (sym h))
any_first p (suc n) [] ys inside h = absurd (none_fewer n inside)
any_first p (suc n) (x ∷ xs) ys inside h =
    or_keeps (p x) (list_any p (take n (xs ++ ys))) (list_any p xs) (λ k. any_first p n xs ys (one_fewer n (length xs) inside) k) h

-- what stands in a front stands in the whole
pub contains_more : {A : Type 0} (xs ys : List A) (x : A) → Contains xs x → Contains (xs ++ ys) x
contains_more xs ys x k = (k.0, wider xs ys k.0 k.1, same xs ys x k.0 k.1 ∙ k.2)
  where
    wider : {B : Type 0} (us vs : List B) (n : ℕ) → n < length us → n < length (us ++ vs)
    wider [] vs n h = absurd (none_within n h)
    wider (u ∷ us) vs zero h = first_within (length (us ++ vs))
    wider (u ∷ us) vs (suc n) h = one_within n (length (us ++ vs)) (wider us vs n (one_less n (length us) h))

    same : {B : Type 0} (us vs : List B) (u : B) (n : ℕ) → n < length us → get_or (us ++ vs) n u ≡ get_or us n u
    same [] vs u n h = absurd (none_within n h)
    same (v ∷ us) vs u zero h = refl
    same (v ∷ us) vs u (suc n) h = same us vs u n (one_less n (length us) h)

pub contains_front : {A : Type 0} (xs all : List A) (x : A) → IsPrefix xs all → Contains xs x → Contains all x
contains_front xs all x f k = subst (λ l. Contains l x) f.1 (contains_more xs f.0 x k)

-- what is not empty stays so
longer_is_some : {A : Type 0} (xs ys : List A) → xs ≢ [] → (xs ++ ys) ≢ []
longer_is_some [] ys some none = some refl
longer_is_some (x ∷ xs) ys some none = let clash : (x ∷ (xs ++ ys)) ≡ [] = none in cc

-- a front that is not all of a front
pub proper_front : {A : Type 0} (xs ys zs : List A) → IsProperPrefix xs ys → IsPrefix ys zs → IsProperPrefix xs zs
proper_front xs ys zs f g =
    (f.0 ++ g.0, longer_is_some f.0 g.0 f.1, sym (append_assoc xs f.0 g.0) ∙ ap (λ l. l ++ g.0) f.2 ∙ g.1)
