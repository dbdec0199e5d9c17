-- The numbers that pass a test.
use Rattle.std.proofs.Common.{◌≡◌, ℕ, zero, suc, ◌<◌, Bool, true, false, List, [], ◌∷◌, ◌++◌, ◌+◌, length, take, get_or, append-nil, if◌then◌else◌, ◌⊎◌, ⊎_elim, inl, inr, refl, sym, ap, ◌∙◌, subst, arith}
use Rattle.std.specs.Prelude.{Contains, ◌↔◌}
use Rattle.std.specs.List.{filter}
use Rattle.std.proofs.lemmas.Bool.{false≢true}
use Rattle.std.proofs.lemmas.List.{take_more}
use Rattle.std.proofs.lemmas.List.Elements.{Contains-append_left, Contains-append_right, Contains-append_cases, filter-append}

-- the only element of a list of one
alone : (y x : ℕ) → Contains (y ∷ []) x → y ≡ x
alone y x (zero, lt, e) = e
alone y x (suc k, lt, e) = absurd (omega (arith, lt))

-- the first element, if it passes
first-passes : (b : Bool) (y : ℕ) (ys : List ℕ) → b ≡ true → Contains (if b then y ∷ ys else ys) y
first-passes true y ys e = (0, omega arith, refl)
first-passes false y ys e = absurd (false≢true e)

-- an element behind it
behind : (b : Bool) (y : ℕ) (ys : List ℕ) (x : ℕ) → Contains ys x → Contains (if b then y ∷ ys else ys) x
behind true y ys x h = Contains-append_right (y ∷ []) ys x h
behind false y ys x h = h

-- an element that passes is one of those that pass
pub contains-filter : (p : ℕ → Bool) (xs : List ℕ) (x : ℕ) → Contains xs x → p x ≡ true → Contains (filter p xs) x
contains-filter p [] x h e = absurd (omega (arith, h.1))
contains-filter p (y ∷ ys) x h e =
    ⊎_elim
    (λ here. subst (λ z. Contains (filter p (y ∷ ys)) z) (alone y x here)
    (first-passes (p y) y (filter p ys) (ap p (alone y x here) ∙ e)))
    (λ there. behind (p y) y (filter p ys) x (contains-filter p ys x there e))
    (Contains-append_cases (y ∷ []) ys x h)

-- what is left of one element
passed-first : (b : Bool) (y : ℕ) (ys : List ℕ) (x : ℕ) → Contains (if b then y ∷ ys else ys) x
    → ((y ≡ x) × (b ≡ true)) ⊎ Contains ys x
passed-first true y ys x h =
    ⊎_elim (λ here. inl (alone y x here, refl)) (λ there. inr there) (Contains-append_cases (y ∷ []) ys x h)
passed-first false y ys x h = inr h

-- and one of those that pass is an element, and passes
pub from_filter : (p : ℕ → Bool) (xs : List ℕ) (x : ℕ) → Contains (filter p xs) x → Contains xs x × (p x ≡ true)
from_filter p [] x h = absurd (omega (arith, h.1))
from_filter p (y ∷ ys) x h =
    ⊎_elim
    (λ here. (Contains-append_left (y ∷ []) ys x (0, omega arith, here.0), sym (ap p here.0) ∙ here.1))
    (λ there. let rest = from_filter p ys x there in (Contains-append_right (y ∷ []) ys x rest.0, rest.1))
    (passed-first (p y) y (filter p ys) x h)

-- ---- one more

-- some numbers, and one more if it passes
one-more : (b : Bool) (ys : List ℕ) (x : ℕ) → ys ++ (if b then x ∷ [] else []) ≡ (if b then ys ++ x ∷ [] else ys)
one-more true ys x = refl
one-more false ys x = append-nil ys

pub filter-more : (p : ℕ → Bool) (xs : List ℕ) (i x : ℕ) → i < length xs → x ≡ get_or xs i x
    → filter p (take (i + 1) xs) ≡ (if p x then filter p (take i xs) ++ x ∷ [] else filter p (take i xs))
filter-more p xs i x lt is =
    ap (filter p) (take_more xs i x lt ∙ ap (λ y. take i xs ++ y ∷ []) (sym is))
    ∙ filter-append p (take i xs) (x ∷ [])
    ∙ one-more (p x) (filter p (take i xs)) x
