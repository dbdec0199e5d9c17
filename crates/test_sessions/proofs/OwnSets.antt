-- The sets of the scripts have a variable, a number and variables of their own.
use Rattle.std.proofs.Common.{◌≡◌, true, List, [], ◌∷◌, ap, ◌∙◌}
use Rattle.correlation.specs.Sessions.{are_sets}
use Rattle.correlation.specs.declared.session.SetOf.{SetOf}

-- the first set alone
pub first_alone : (x : SetOf) (sets : List SetOf) → sets ≡ x ∷ [] → x ≡ record { set = 1; variables = 10 ∷ [] } → are_sets sets ≡ true
first_alone x sets e f = ap are_sets e ∙ ap (λ (s : SetOf). are_sets (s ∷ [])) f

-- the second set alone
pub second_alone : (x : SetOf) (sets : List SetOf) → sets ≡ x ∷ [] → x ≡ record { set = 2; variables = 20 ∷ 21 ∷ [] } → are_sets sets ≡ true
second_alone x sets e f = ap are_sets e ∙ ap (λ (s : SetOf). are_sets (s ∷ [])) f

-- the two together
pub both_together : (x y : SetOf) (sets : List SetOf) → sets ≡ x ∷ y ∷ [] → x ≡ record { set = 1; variables = 10 ∷ [] }
    → y ≡ record { set = 2; variables = 20 ∷ 21 ∷ [] } → are_sets sets ≡ true
both_together x y sets e f g =
    ap are_sets e ∙ ap (λ (s : SetOf). are_sets (s ∷ y ∷ [])) f ∙ ap (λ (s : SetOf). are_sets (record { set = 1; variables = 10 ∷ [] } ∷ s ∷ [])) g
