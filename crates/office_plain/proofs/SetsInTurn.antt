-- Sets with their numbers: what one set more makes of them.
use Rattle.std.proofs.Common.{◌≡◌, ◌≤◌, ◌<◌, ℕ, suc, ◌+◌, ◌-◌, true, false, List, [], ◌∷◌, ◌++◌, map, length, drop, get_or, refl, sym, ap, ◌∙◌, arith}
use Rattle.std.specs.Prelude.{nat_lt, if◌then◌else◌}
use Rattle.std.specs.List.{range_with_len}
use Rattle.std.proofs.lemmas.Bool.Decides.{nat_tests}
use Rattle.std.proofs.lemmas.List.{length-map}
use Rattle.correlation.specs.declared.session.SetOf.{SetOf}
use Rattle.behaviour_tree.specs.Data.{VariablePart}
use Rattle.behaviour_tree.specs.PartsView.{set_view, variable_view}
use Rattle.behaviour_tree.specs.declared.program.CorrelationSet.{CorrelationSet}
use Rattle.office_core.specs.Keys.{Variable, variables_from, sets_from}
use Rattle.office_plain.specs.SetNumbers.{numbered_from, set_from}
use Rattle.office_plain.proofs.Paths.{next_of}

-- the set of a number with these variables
abbrev set_by : ℕ → List ℕ → SetOf
set_by n ns = record { set = n; variables = ns }

-- the numbers of variables are those from the first on
numbers_of : (k : ℕ) (vs : List VariablePart)
    → map (λ (u : Variable). u.number) (variables_from k vs) ≡ range_with_len k (length vs)
numbers_of k [] = refl
numbers_of k (v ∷ vs) = ap (λ ns. k ∷ ns) (numbers_of (suc k) vs ∙ ap (λ j. range_with_len j (length vs)) (next k))
  where
    next : (k : ℕ) → suc k ≡ k + 1
    next k = omega arith

-- a set is left out where it has no variable, and else is numbered
pub one_set : (n k : ℕ) (vs : List VariablePart) (sets : List (List Variable))
    → numbered_from n (variables_from k vs ∷ sets) ≡ set_from n k (k + length vs) ++ numbered_from (suc n) sets
one_set n k [] sets =
    sym (ap (λ b. (if b then set_by n (range_with_len k (k + 0 - k)) ∷ [] else []) ++ numbered_from (suc n) sets)
    (none k))
  where
    none : (k : ℕ) → nat_lt k (k + 0) ≡ false
    none k = grind (arith, nat_tests)
one_set n k (v ∷ vs) sets =
    ap (λ ns. set_by n ns ∷ numbered_from (suc n) sets)
    (numbers_of k (v ∷ vs) ∙ ap (range_with_len k) (many k (suc (length vs))))
    ∙ sym (ap
    (λ b. (if b then set_by n (range_with_len k (k + suc (length vs) - k)) ∷ [] else []) ++ numbered_from (suc n) sets)
    (some k (length vs)))
  where
    many : (k l : ℕ) → l ≡ k + l - k
    many k l = omega arith

    some : (k l : ℕ) → nat_lt k (k + suc l) ≡ true
    some k l = grind (arith, nat_tests)

append_assoc : (xs ys zs : List SetOf) → xs ++ (ys ++ zs) ≡ (xs ++ ys) ++ zs
append_assoc [] ys zs = refl
append_assoc (x ∷ xs) ys zs = ap (λ l. x ∷ l) (append_assoc xs ys zs)

-- the sets numbered so far, with the one at hand
pub set_turn : (sets : List CorrelationSet) (i : ℕ) (set : CorrelationSet) (n k next m : ℕ)
    (whole list more : List SetOf)
    → i < length sets → set ≡ get_or sets i set
    → whole ≡ list ++ numbered_from n (sets_from k (map set_view (drop i sets)))
    → next ≡ k + length set.variables.items → more ≡ list ++ set_from n k next → m ≡ n + 1
    → whole ≡ more ++ numbered_from m (sets_from next (map set_view (drop (i + 1) sets)))
set_turn sets i set n k next m whole list more within is before sums pushed number =
    before
    ∙ ap (λ ss. list ++ numbered_from n (sets_from k (map set_view ss))) (next_of sets i set within is)
    ∙ ap (λ l. list ++ l)
    (one_set n k (map variable_view set.variables.items) (sets_from (k + many) (map set_view (drop (i + 1) sets))))
    ∙ (λ j. list ++ (set_from n k (at_next j)
    ++ numbered_from (after n m number j) (sets_from (at_next j) (map set_view (drop (i + 1) sets)))))
    ∙ append_assoc list (set_from n k next) (numbered_from m (sets_from next (map set_view (drop (i + 1) sets))))
    ∙ ap (λ l. l ++ numbered_from m (sets_from next (map set_view (drop (i + 1) sets)))) (sym pushed)
  where
    many : ℕ
    many = length (map variable_view set.variables.items)

    at_next : k + many ≡ next
    at_next = ap (λ l. k + l) (length-map set.variables.items variable_view) ∙ sym sums

    after : (n m : ℕ) → m ≡ n + 1 → suc n ≡ m
    after n m e = omega arith
