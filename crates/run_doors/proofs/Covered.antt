-- The order in which one worker answers has each posting; and where those are finished that are answered early.
use Rattle.std.proofs.Common.{◌≡◌, ◌<◌, ◌≤◌, ℕ, zero, suc, ◌+◌, Bool, true, false, ◌||◌, List, [], ◌∷◌, ◌++◌}
use Rattle.std.proofs.Common.{refl, sym, ap, subst, ◌∙◌, cond, arith, nat_eq, flat_map, true≢false}
use Rattle.std.specs.List.{filter, list_any}
use Rattle.office_core.specs.declared.history.Entry.{Entry}
use Rattle.office_core.specs.Limits.{Setting}
use Rattle.office_core.specs.Accepted.{past_of}
use Rattle.run_record.specs.Order.{numbers_from, finished_at, finished_there, order_alone, is_finished}
use Rattle.run_order_laws.proofs.Lists.{true_left, true_right, itself, any_append, eq_true}
use Rattle.run_order_laws.proofs.Least.{at_bound}

-- ---- a number among others

-- it is among them
abbrev pub is_in : ℕ → List ℕ → Bool
is_in j xs = list_any (nat_eq j) xs

-- one of two is true
or_cases : (a b : Bool) (P : Type 0) → (a || b) ≡ true → (a ≡ true → P) → (b ≡ true → P) → P
or_cases true b P h f g = f refl
or_cases false b P h f g = g h

-- in front or behind
in_front : (j : ℕ) (xs ys : List ℕ) → is_in j xs ≡ true → is_in j (xs ++ ys) ≡ true
in_front j xs ys h = any_append (nat_eq j) xs ys ∙ true_left (is_in j xs) (is_in j ys) h

in_back : (j : ℕ) (xs ys : List ℕ) → is_in j ys ≡ true → is_in j (xs ++ ys) ≡ true
in_back j xs ys h = any_append (nat_eq j) xs ys ∙ true_right (is_in j xs) (is_in j ys) h

beyond : (n j : ℕ) → n ≤ j → nat_eq j n ≡ false → suc n ≤ j
beyond n j low e = more (λ same. true≢false (sym (subst (λ m. nat_eq j m ≡ true) same (itself j)) ∙ e))
  where
    more : (j ≡ n → ⊥) → suc n ≤ j
    more apart = omega (arith, low, apart)

one_further : (n k j : ℕ) → j < n + suc k → j < suc n + k
one_further n k j high = omega (arith, high)

either_way : (b : Bool) (c : Bool) → (b ≡ false → c ≡ true) → (b || c) ≡ true
either_way true c h = refl
either_way false c h = h refl

-- among the numbers from one on
pub in_numbers : (n k j : ℕ) → n ≤ j → j < n + k → is_in j (numbers_from n k) ≡ true
in_numbers n zero j low high = absurd (omega (arith, low, high))
in_numbers n (suc k) j low high =
    either_way (nat_eq j n) (is_in j (numbers_from (suc n) k))
    (λ e. in_numbers (suc n) k j (beyond n j low e) (one_further n k j high))

filter_here : (p : ℕ → Bool) (j x : ℕ) (xs : List ℕ) → p j ≡ true → nat_eq j x ≡ true
    → is_in j (cond (p x) (x ∷ filter p xs) (filter p xs)) ≡ true
filter_here p j x xs is e =
    ap (λ b. is_in j (cond b (x ∷ filter p xs) (filter p xs))) (ap p (sym (eq_true j x e)) ∙ is)
    ∙ true_left (nat_eq j x) (is_in j (filter p xs)) e

filter_later : (p : ℕ → Bool) (j x : ℕ) (xs : List ℕ) (b : Bool) → is_in j (filter p xs) ≡ true
    → is_in j (cond b (x ∷ filter p xs) (filter p xs)) ≡ true
filter_later p j x xs true g = true_right (nat_eq j x) (is_in j (filter p xs)) g
filter_later p j x xs false g = g

-- among those of a kind
pub in_filter : (p : ℕ → Bool) (j : ℕ) (xs : List ℕ) → is_in j xs ≡ true → p j ≡ true → is_in j (filter p xs) ≡ true
in_filter p j [] h is = h
in_filter p j (x ∷ xs) h is =
    or_cases (nat_eq j x) (is_in j xs) (is_in j (cond (p x) (x ∷ filter p xs) (filter p xs)) ≡ true) h
    (filter_here p j x xs is)
    (λ g. filter_later p j x xs (p x) (in_filter p j xs g is))

-- among what one of them gives
pub in_flat : (f : ℕ → List ℕ) (i j : ℕ) (xs : List ℕ) → is_in i xs ≡ true → is_in j (f i) ≡ true
    → is_in j (flat_map f xs) ≡ true
in_flat f i j [] h g = absurd (true≢false (sym h))
in_flat f i j (x ∷ xs) h g =
    or_cases (nat_eq i x) (is_in i xs) (is_in j (f x ++ flat_map f xs) ≡ true) h
    (λ e. in_front j (f x) (flat_map f xs) (subst (λ m. is_in j (f m) ≡ true) (eq_true i x e) g))
    (λ e. in_back j (f x) (flat_map f xs) (in_flat f i j xs e g))

-- ---- the order

-- a posting that is finished before a number is among those
pub before_has : (w : Setting) (h : List Entry) (actor count i j : ℕ) → i < count
    → finished_at w (past_of w h) actor count i < j
    → is_in i (flat_map (finished_there w (past_of w h) actor count) (numbers_from 0 j)) ≡ true
before_has w h actor count i j inside before =
    in_flat (finished_there w (past_of w h) actor count) at i (numbers_from 0 j) (in_numbers 0 j at low high)
    (in_filter (λ m. nat_eq at (finished_at w (past_of w h) actor count m)) i (numbers_from 0 count)
    (in_numbers 0 count i from within) (itself at))
  where
    at : ℕ
    at = finished_at w (past_of w h) actor count i

    low : 0 ≤ at
    low = omega arith

    high : at < 0 + j
    high = omega (arith, before)

    from : 0 ≤ i
    from = omega arith

    within : i < 0 + count
    within = omega (arith, inside)

-- each posting is answered
pub order_has : (w : Setting) (h : List Entry) (actor count j : ℕ) → j < count
    → is_in j (order_alone w h actor count) ≡ true
order_has w h actor count j below = before_has w h actor count j (suc count) below at_last
  where
    bound : finished_at w (past_of w h) actor count j ≤ count
    bound = at_bound (is_finished w (past_of w h) actor) count j below

    at_last : finished_at w (past_of w h) actor count j < suc count
    at_last = omega (arith, bound)

-- ---- what is answered early

nearer : (n k j : ℕ) → j < suc n + k → j < n + suc k
nearer n k j less = omega (arith, less)

here_within : (n k j : ℕ) → j ≡ n → j < n + suc k
here_within n k j same = omega (arith, same)

-- a number among so many from one on is below their end
number_within : (n k j : ℕ) → is_in j (numbers_from n k) ≡ true → j < n + k
number_within n zero j h = absurd (true≢false (sym h))
number_within n (suc k) j h =
    or_cases (nat_eq j n) (is_in j (numbers_from (suc n) k)) (j < n + suc k) h
    (λ e. here_within n k j (eq_true j n e))
    (λ e. nearer n k j (number_within (suc n) k j e))

filtered_by : (p : ℕ → Bool) (j x : ℕ) (xs : List ℕ) → (is_in j (filter p xs) ≡ true → p j ≡ true) → (b : Bool) → p x ≡ b
    → is_in j (cond b (x ∷ filter p xs) (filter p xs)) ≡ true → p j ≡ true
filtered_by p j x xs later true is h =
    or_cases (nat_eq j x) (is_in j (filter p xs)) (p j ≡ true) h (λ e. ap p (eq_true j x e) ∙ is) later
filtered_by p j x xs later false is h = later h

-- what is among those of a kind is of it
filtered_is : (p : ℕ → Bool) (j : ℕ) (xs : List ℕ) → is_in j (filter p xs) ≡ true → p j ≡ true
filtered_is p j [] h = absurd (true≢false (sym h))
filtered_is p j (x ∷ xs) h = filtered_by p j x xs (λ g. filtered_is p j xs g) (p x) refl h

-- one of some numbers gives it
abbrev GivenBy : (ℕ → List ℕ) → ℕ → List ℕ → Type 0
GivenBy f j xs = (i : ℕ) × (is_in i xs ≡ true) × (is_in j (f i) ≡ true)

given_by : (f : ℕ → List ℕ) (j : ℕ) (xs : List ℕ) → is_in j (flat_map f xs) ≡ true → GivenBy f j xs
given_by f j [] h = absurd (true≢false (sym h))
given_by f j (x ∷ xs) h =
    or_cases (is_in j (f x)) (is_in j (flat_map f xs)) (GivenBy f j (x ∷ xs))
    (sym (any_append (nat_eq j) (f x) (flat_map f xs)) ∙ h)
    (λ e. (x, true_left (nat_eq x x) (is_in x xs) (itself x), e))
    (λ e.
    let found = given_by f j xs e in (found.0, true_right (nat_eq found.0 x) (is_in found.0 xs) found.1, found.2))

from_zero : (i j : ℕ) → i < 0 + j → i < j
from_zero i j less = omega (arith, less)

-- a posting among those that are finished at one before a number is finished before it
pub finished_below : (w : Setting) (h : List Entry) (actor count i j : ℕ)
    → is_in i (flat_map (finished_there w (past_of w h) actor count) (numbers_from 0 j)) ≡ true
    → finished_at w (past_of w h) actor count i < j
finished_below w h actor count i j is =
    let found = given_by (finished_there w (past_of w h) actor count) i (numbers_from 0 j) is in
    subst (λ n. n < j)
    (eq_true found.0 (finished_at w (past_of w h) actor count i)
    (filtered_is (λ m. nat_eq found.0 (finished_at w (past_of w h) actor count m)) i (numbers_from 0 count) found.2))
    (from_zero found.0 j (number_within 0 j found.0 found.1))
