-- What is to come in order, by how many there are and by what holds of each.
use Rattle.std.proofs.Common.{◌≡◌, ◌+◌, ◌++◌, ◌∙◌, sym, ap, subst, arith, ℕ, List, [], ◌∷◌, length, Option, None, Some, MatchOption}
use Rattle.std.specs.Option.{option_to_list}
use Rattle.std.specs.Prelude.{All}
use Rattle.std.proofs.lemmas.List.{nil_from_length}
use Rattle.std.proofs.lemmas.List.Elements.{All-head, All-tail}

-- how many are left behind a step of an iterator, which was told how many there were
pub left_behind : {V : Type 0} (r : Option V) (before now : List V) (n m : ℕ) → n ≡ length before → before ≡ option_to_list r ++ now
    → MatchOption r ((n ≡ 0) × (m ≡ 0)) (λ x. (before ≡ x ∷ now) × (m + 1 ≡ n)) → m ≡ length now
left_behind None before now n m is all h = h.1 ∙ sym h.0 ∙ is ∙ ap length all
left_behind (Some x) before now n m is all h = let long = ap length h.0 in let more = h.1 in omega arith

-- what came, by what is left
pub next_of_left : {V : Type 0} (r : Option V) (before now : List V) (n m : ℕ) → n ≡ length before → m ≡ length now
    → MatchOption r ((n ≡ 0) × (m ≡ 0)) (λ x. (before ≡ x ∷ now) × (m + 1 ≡ n)) → MatchOption r ((before ≡ []) × (now ≡ [])) (λ x. before ≡ x ∷ now)
next_of_left None before now n m is left h = (nil_from_length before (sym is ∙ h.0), nil_from_length now (sym left ∙ h.1))
next_of_left (Some x) before now n m is left h = h.0

-- what holds of all holds of those that are left behind the first
pub all_left : {V : Type 0} (P : V → Type 0) (before now : List V) (x : V) → before ≡ x ∷ now → All P before → All P now
all_left P before now x is all = All-tail P x now (subst (All P) is all)

-- and of the first
pub first_of_all : {V : Type 0} (P : V → Type 0) (before now : List V) (x : V) → before ≡ x ∷ now → All P before → P x
first_of_all P before now x is all = All-head P x now (subst (All P) is all)
