-- Laws of all but the first of a list.
use Rattle.std.proofs.Common.{◌≡◌, ℕ, List, [], ◌∷◌, map, drop, refl, ap, sym, ◌∙◌}
use Rattle.service_check.specs.Clauses.{later}

-- a list of which each thing is taken as it is
pub map_same : (xs : List ℕ) → map (λ x. x) xs ≡ xs
map_same [] = refl
map_same (x ∷ xs) = ap (λ rest. x ∷ rest) (map_same xs)

-- all but the first
pub later_is : (places : List ℕ) → drop 1 places ≡ later places
later_is [] = refl
later_is (p ∷ ps) = refl

-- what a chain gave is all but the first
pub gave_later : (xs places : List ℕ) → map (λ y. y) xs ≡ drop 1 places → xs ≡ later places
gave_later xs places e = sym (map_same xs) ∙ e ∙ later_is places
