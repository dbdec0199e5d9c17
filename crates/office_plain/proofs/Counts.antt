-- How many sets services have, and the numbers that these get.
use Rattle.std.proofs.Common.{◌≡◌, ◌≤◌, ◌<◌, ◌^◌, ℕ, zero, suc, ◌+◌, ◌-◌, true, List, [], ◌∷◌, ◌++◌, length, map, take, drop, get_or, sum_by, None, Some, option_map, refl, sym, ap, ◌∙◌, arith}
use Rattle.std.specs.Prelude.{slice_get}
use Rattle.std.specs.List.{range_with_len}
use Rattle.std.proofs.lemmas.List.{take-map, length-map}
use Rattle.std.proofs.lemmas.List.Sums.{sum_by-cons, sum_by-take-le}
use Rattle.std.proofs.lemmas.Option.{none-some, same_Some, slice_get-map, slice_get_read}
use Rattle.behaviour_tree.specs.Data.{ServicePart, SetPart, ProgramParts}
use Rattle.behaviour_tree.specs.FormedNumbers.{are_numbered, count_sets, count_variables}
use Rattle.behaviour_tree.specs.PartsView.{parts_view, service_view, set_view, variable_view}
use Rattle.behaviour_tree.specs.declared.program.CorrelationSet.{CorrelationSet}
use Rattle.behaviour_tree.specs.declared.program.Parts.{Parts}
use Rattle.behaviour_tree.specs.declared.program.Service.{Service}
use Rattle.behaviour_tree.proofs.FewEnough.{few_sets}
use Rattle.office_plain.specs.SetNumbers as spec
use Rattle.office_plain.proofs.Paths.{next_of}

-- how many sets services have
abbrev count : List ServicePart → ℕ
count ds = sum_by (λ (s : ServicePart). length s.sets) ds

-- those of the services before one
pub sets_before : (parts : ProgramParts) (ds first : List Service) (n m : ℕ) → map service_view ds ≡ parts.services
    → first ≡ take n ds
    → m ≡ sum_by (λ (s : ServicePart). length s.sets) (map service_view first) → m ≡ spec.sets_before parts n
sets_before parts ds first n m all front counts =
    counts ∙ ap (λ xs. count (map service_view xs)) front ∙ ap count (sym (take-map service_view n ds))
    ∙ ap (λ xs. count (take n xs)) all

range_push : (a k : ℕ) → range_with_len a k ++ (a + k) ∷ [] ≡ range_with_len a (suc k)
range_push a zero = ap (λ n. n ∷ []) (same a)
  where
    same : (a : ℕ) → a + 0 ≡ a
    same a = omega arith
range_push a (suc k) = ap (λ l. a ∷ l) (ap (λ n. range_with_len (a + 1) k ++ n ∷ []) (same a k) ∙ range_push (a + 1) k)
  where
    same : (a k : ℕ) → a + suc k ≡ a + 1 + k
    same a k = omega arith

-- the numbers from one on, with the next one
pub number_turn : (a n : ℕ) (xs ys : List ℕ) → a ≤ n → xs ≡ range_with_len a (n - a) → ys ≡ xs ++ n ∷ []
    → ys ≡ range_with_len a (n + 1 - a)
number_turn a n xs ys le are more =
    more ∙ (λ j. are j ++ at_end a n le j ∷ []) ∙ range_push a (n - a) ∙ ap (range_with_len a) (next a n le)
  where
    at_end : (a n : ℕ) → a ≤ n → n ≡ a + (n - a)
    at_end a n le = omega arith

    next : (a n : ℕ) → a ≤ n → suc (n - a) ≡ n + 1 - a
    next a n le = omega arith

-- ---- few enough

-- the sets of some services are those of the next, and of those behind it
pub next_sets : (ds : List Service) (i : ℕ) (d : Service) → i < length ds → d ≡ get_or ds i d
    → count_sets (map service_view (drop i ds))
    ≡ length d.sets.items + count_sets (map service_view (drop (i + 1) ds))
next_sets ds i d within is =
    ap (λ l. count_sets (map service_view l)) (next_of ds i d within is)
    ∙ sum_by-cons (λ (s : ServicePart). length s.sets) (service_view d) (map service_view (drop (i + 1) ds))
    ∙ ap (λ n. n + count_sets (map service_view (drop (i + 1) ds))) (length-map d.sets.items set_view)

-- and so are the variables of some sets
pub next_variables : (sets : List CorrelationSet) (i : ℕ) (set : CorrelationSet) → i < length sets
    → set ≡ get_or sets i set
    → count_variables (map set_view (drop i sets))
    ≡ length set.variables.items + count_variables (map set_view (drop (i + 1) sets))
next_variables sets i set within is =
    ap (λ l. count_variables (map set_view l)) (next_of sets i set within is)
    ∙ sum_by-cons (λ (s : SetPart). length s.variables) (set_view set) (map set_view (drop (i + 1) sets))
    ∙ ap (λ n. n + count_variables (map set_view (drop (i + 1) sets))) (length-map set.variables.items variable_view)

-- the sets of the first services have numbers
pub few_first : (parts : ProgramParts) (ds first : List Service) (n : ℕ) → map service_view ds ≡ parts.services
    → first ≡ take n ds → are_numbered parts ≡ true → count_sets (map service_view first) < 2 ^ 32
few_first parts ds first n all front numbered =
    let same : count_sets (map service_view first) ≡ count_sets (take n parts.services) =
    ap (λ xs. count_sets (map service_view xs)) front ∙ ap count_sets (sym (take-map service_view n ds))
    ∙ ap (λ xs. count_sets (take n xs)) all in
    let some : count_sets (take n parts.services) ≤ count_sets parts.services =
    sum_by-take-le (λ (s : ServicePart). length s.sets) parts.services n in
    omega (arith, same, some, few_sets parts numbered)

-- the sets before a service, and those of it, are among all
sets_within : (ds : List ServicePart) (n : ℕ) (d : ServicePart) → slice_get ds n ≡ Some d
    → count_sets (take n ds) + length d.sets ≤ count_sets ds
sets_within [] n d there = absurd (none-some d there)
sets_within (e ∷ ds) zero d there =
    omega (
      arith,
      sum_by-cons (λ (s : ServicePart). length s.sets) e ds,
      ap (λ (s : ServicePart). length s.sets) (same_Some e d there),
    )
sets_within (e ∷ ds) (suc n) d there =
    omega (
      arith,
      sum_by-cons (λ (s : ServicePart). length s.sets) e ds,
      sum_by-cons (λ (s : ServicePart). length s.sets) e (take n ds),
      sets_within ds n d there,
    )

-- so that the sets of a service have numbers
pub few_of : (parts : ProgramParts) (n m : ℕ) (d : ServicePart) → are_numbered parts ≡ true
    → m ≡ spec.sets_before parts n → slice_get parts.services n ≡ Some d → m + length d.sets < 2 ^ 32
few_of parts n m d numbered same there =
    omega (arith, same, sets_within parts.services n d there, few_sets parts numbered)

-- ---- the service of a number

-- one that is there
pub service_there : (parts : ProgramParts) (p : Parts) (ds : List Service) (n : ℕ) (d : Service)
    → parts_view p ≡ parts → ds ≡ p.services.items → n < length ds → d ≡ get_or ds n d
    → slice_get parts.services n ≡ Some (service_view d)
service_there parts p ds n d all same within is =
    ap (λ (x : ProgramParts). slice_get x.services n) (sym all)
    ∙ ap (λ l. slice_get (map service_view l) n) (sym same)
    ∙ slice_get-map service_view ds n
    ∙ ap (option_map service_view) (slice_get_read ds (length ds) n d refl within is)

-- and none
pub service_missing : (parts : ProgramParts) (p : Parts) (ds : List Service) (n : ℕ)
    → parts_view p ≡ parts → ds ≡ p.services.items → length ds ≤ n → slice_get parts.services n ≡ None
service_missing parts p ds n all same past =
    ap (λ (x : ProgramParts). slice_get x.services n) (sym all)
    ∙ ap (λ l. slice_get (map service_view l) n) (sym same)
    ∙ slice_get-map service_view ds n
    ∙ ap (option_map service_view) (behind ds n past)
  where
    behind : (xs : List Service) (i : ℕ) → length xs ≤ i → slice_get xs i ≡ None
    behind [] i h = refl
    behind (x ∷ xs) zero h = absurd (omega (arith, h))
    behind (x ∷ xs) (suc i) h = behind xs i (omega (arith, h))
