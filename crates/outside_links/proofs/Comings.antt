-- What is to come in order is what trips bring.
use Rattle.std.proofs.Common.{◌≡◌, ◌+◌, ◌++◌, ◌∙◌, refl, sym, ap, arith, ℕ, List, [], ◌∷◌, length, map, Option, None, Some, MatchOption}
use Rattle.std.specs.Option.{option_to_list}
use Rattle.std.proofs.lemmas.List.{nil_from_length}
use Rattle.outside_links.specs.Trips.{Brings}

-- ---- by lengths

-- how many are left behind a step of an iterator, which was told how many there were
pub left_behind : {V : Type 0} (r : Option V) (before now : List V) (n m : ℕ) → n ≡ length before → before ≡ option_to_list r ++ now
    → MatchOption r ((n ≡ 0) × (m ≡ 0)) (λ x. (before ≡ x ∷ now) × (m + 1 ≡ n)) → m ≡ length now
left_behind None before now n m is all h = h.1 ∙ sym h.0 ∙ is ∙ ap length all
left_behind (Some x) before now n m is all h = let long = ap length h.0 in let more = h.1 in omega arith

-- what came, by what is left
pub next_of_left : {V : Type 0} (r : Option V) (before now : List V) (n m : ℕ) → n ≡ length before → m ≡ length now
    → MatchOption r ((n ≡ 0) × (m ≡ 0)) (λ x. (before ≡ x ∷ now) × (m + 1 ≡ n)) → MatchOption r ((before ≡ []) × (now ≡ [])) (λ x. before ≡ x ∷ now)
next_of_left None before now n m is left h = (nil_from_length before (sym is ∙ h.0), nil_from_length now (sym left ∙ h.1))
next_of_left (Some x) before now n m is left h = h.0

-- ---- trips

-- the first of what is to come
pub first_brought : {V : Type 0} (f : V → Option (List ℕ)) (before now : List V) (x : V) → before ≡ x ∷ now
    → Brings (Some (map f before)) (Some (map f now)) (f x)
first_brought f before now x is = rw is (refl, refl)

-- no bytes behind the last
pub none_brought : {V : Type 0} (f : V → Option (List ℕ)) (before now : List V) (bytes : List ℕ) → (before ≡ []) × (now ≡ []) → bytes ≡ []
    → Brings (Some (map f before)) (Some (map f now)) (Some bytes)
none_brought f before now bytes gone empty = rw (gone.0, gone.1, empty) (refl, refl)
