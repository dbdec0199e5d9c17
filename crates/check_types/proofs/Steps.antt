-- Laws of steps from place to place.
use Rattle.std.proofs.Common.{◌≡◌, ℕ, zero, suc, Bool, true, ◌+◌, ◌-◌, ◌<◌, ◌≤◌, arith, Option, Some, None, refl, ap, sym, ◌∙◌}
use Rattle.std.specs.Prelude.{◌||◌, ◌==◌, option_and_then}
use Rattle.std.proofs.lemmas.Bool.{eq-eqb, or_right}
use Rattle.behaviour_tree.specs.Operations.{is_among}
use Rattle.behaviour_tree.proofs.Leading.{from_there}
use Rattle.check_types.specs.Circles.{place_leads_back, steps_on}

-- whether a place that may follow is the start or leads to it
abbrev pub back_to : (ℕ → Option ℕ) → ℕ → ℕ → Option ℕ → Bool
back_to next n start o = is_among (from_there next n o) start

-- what may follow, followed by itself
pub then_some : (o : Option ℕ) → option_and_then (λ p. Some p) o ≡ o
then_some None = refl
then_some (Some p) = refl

-- what may follow, followed twice
pub then_then : (f g : ℕ → Option ℕ) (o : Option ℕ) → option_and_then g (option_and_then f o) ≡ option_and_then (λ p. option_and_then g (f p)) o
then_then f g None = refl
then_then f g (Some p) = refl

-- steps after steps
pub steps_after : (next : ℕ → Option ℕ) (j k p : ℕ) → steps_on next (j + k) p ≡ option_and_then (steps_on next j) (steps_on next k p)
steps_after next zero k p = ap (λ m. steps_on next m p) (let e : 0 + k ≡ k = omega arith in e) ∙ sym (then_some (steps_on next k p))
steps_after next (suc j) k p =
    ap (λ m. steps_on next m p) (let e : suc j + k ≡ suc (j + k) = omega arith in e)
    ∙ ap (option_and_then next) (steps_after next j k p)
    ∙ then_then (steps_on next j) next (steps_on next k p)

-- the first step
pub step_first : (next : ℕ → Option ℕ) (k p : ℕ) → steps_on next (suc k) p ≡ option_and_then (steps_on next k) (next p)
step_first next k p = ap (λ m. steps_on next m p) (let e : suc k ≡ k + 1 = omega arith in e) ∙ steps_after next k 1 p

-- what follows leads to the start if steps do
pub leads_from : (next : ℕ → Option ℕ) (n k start : ℕ) (o : Option ℕ) → option_and_then (steps_on next k) o ≡ Some start → k < suc n
    → ((j q : ℕ) → steps_on next (suc j) q ≡ Some start → j < n → place_leads_back next n start q ≡ true) → back_to next n start o ≡ true
leads_from next n k start None e below rest = cc
leads_from next n zero start (Some q) e below rest = let same : q ≡ start = cc in ap (λ b. b || place_leads_back next n start q) (eq-eqb q start same)
leads_from next n (suc k) start (Some q) e below rest = or_right (q == start) (place_leads_back next n start q) (rest k q e (omega (arith, below)))

-- steps to the start lead to it
pub leads_by_steps : (next : ℕ → Option ℕ) (n k start p : ℕ) → steps_on next (suc k) p ≡ Some start → k < n → place_leads_back next n start p ≡ true
leads_by_steps next zero k start p e below = absurd (omega (arith, below))
leads_by_steps next (suc n) k start p e below = leads_from next n k start (next p) (sym (step_first next k p) ∙ e) below (λ j q h l. leads_by_steps next n j start q h l)

-- each place of a circle leads to itself in as many steps
pub same_round : (next : ℕ → Option ℕ) (l i start p : ℕ) → steps_on next l start ≡ Some start → steps_on next i start ≡ Some p → steps_on next l p ≡ Some p
same_round next l i start p round here =
    ap (option_and_then (steps_on next l)) (sym here)
    ∙ sym (steps_after next l i start)
    ∙ ap (λ m. steps_on next m start) (let e : l + i ≡ i + l = omega arith in e)
    ∙ steps_after next i l start
    ∙ ap (option_and_then (steps_on next i)) round
    ∙ here

-- steps that lead to a place lead somewhere before
pub leads_before : (next : ℕ → Option ℕ) (l i start p : ℕ) → steps_on next l start ≡ Some p → i < l → steps_on next (suc i) start ≡ None → ⊥
leads_before next l i start p there before none =
    let split : steps_on next l start ≡ None =
    ap (λ m. steps_on next m start) (let e : l ≡ (l - suc i) + suc i = omega arith in e)
    ∙ steps_after next (l - suc i) (suc i) start
    ∙ ap (option_and_then (steps_on next (l - suc i))) none
    in cc

-- each place of a circle leads back to itself
pub round_leads_back : (next : ℕ → Option ℕ) (n l i start p : ℕ) → steps_on next l start ≡ Some start → 0 < l → l ≤ n → steps_on next i start ≡ Some p → place_leads_back next n p p ≡ true
round_leads_back next n l i start p round some within here =
    leads_by_steps next n (l - 1) p p (ap (λ m. steps_on next m p) (let e : suc (l - 1) ≡ l = omega arith in e) ∙ same_round next l i start p round here) (omega arith)
