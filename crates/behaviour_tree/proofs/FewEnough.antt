-- What the numbers of a well-formed program leave: less than 2^32 of each kind.
use Rattle.std.proofs.Common.{◌≡◌, ◌<◌, ◌^◌, ℕ, zero, suc, Bool, true, List, [], ◌∷◌, Some, length, sym, ap, ◌∙◌, arith}
use Rattle.std.specs.Prelude.{nat_lt, map, slice_get}
use Rattle.std.specs.List.{list_all}
use Rattle.std.proofs.lemmas.Bool.{and_parts}
use Rattle.std.proofs.lemmas.Option.{none-some, same_Some}
use Rattle.std.proofs.lemmas.Bool.Decides.{nat_tests}
use Rattle.std.proofs.lemmas.List.{length-map}
use Rattle.behaviour_tree.specs.Data.{ProgramParts, ServicePart}
use Rattle.behaviour_tree.specs.FormedNumbers.{are_numbered, count_sets, count_variables, have_numbers, is_numbered}
use Rattle.behaviour_tree.specs.PartsSeen.{parts_view, service_view}
use Rattle.behaviour_tree.specs.WellFormed.{is_well_formed}
use Rattle.behaviour_tree.specs.declared.program.Parts.{Parts}

less : (m n : ℕ) → nat_lt m n ≡ true → m < n
less m n h = grind (arith, nat_tests)

is_less : (m n : ℕ) → m < n → nat_lt m n ≡ true
is_less m n h = grind (arith, nat_tests)

-- a count of things that have numbers
pub fewer : (count : ℕ) → have_numbers count ≡ true → count < 2 ^ 32
fewer count h = less count (2 ^ 32) h

-- things of such a count have numbers
pub numbers_fit : (count : ℕ) → count < 2 ^ 32 → have_numbers count ≡ true
numbers_fit count h = is_less count (2 ^ 32) h

-- what is well formed is numbered
pub well_numbered : (parts : ProgramParts) → is_well_formed parts ≡ true → are_numbered parts ≡ true
unfolding is_well_formed
well_numbered parts h = (and_parts _ _ h).1

-- its names
pub few_names : (p : Parts) → is_well_formed (parts_view p) ≡ true → length p.names.items < 2 ^ 32
few_names p h =
    let numbered : are_numbered (parts_view p) ≡ true = well_numbered (parts_view p) h in
    fewer (length p.names.items)
    (and_parts _ _ (and_parts _ _ (and_parts _ _ (and_parts _ _ (and_parts _ _ numbered).0).0).0).0).0

-- its services
pub few_services : (p : Parts) → is_well_formed (parts_view p) ≡ true → length p.services.items < 2 ^ 32
few_services p h =
    let numbered : are_numbered (parts_view p) ≡ true = well_numbered (parts_view p) h in
    let few : length (map service_view p.services.items) < 2 ^ 32 =
    fewer (length (map service_view p.services.items)) (and_parts _ _ (and_parts _ _ (and_parts _ _ numbered).0).0).1 in
    rw (length-map p.services.items service_view) at few

-- the correlation sets of all its services
pub few_sets : (parts : ProgramParts) → are_numbered parts ≡ true → count_sets parts.services < 2 ^ 32
few_sets parts numbered = fewer (count_sets parts.services) (and_parts _ _ (and_parts _ _ numbered).0).1

-- what holds of each of a list
at-place : {X : Type 0} (f : X → Bool) (xs : List X) (n : ℕ) (x : X) → list_all f xs ≡ true → slice_get xs n ≡ Some x
    → f x ≡ true
at-place f [] n x h e = absurd (none-some x e)
at-place f (y ∷ xs) zero x h e = ap f (sym (same_Some y x e)) ∙ (and_parts (f y) (list_all f xs) h).0
at-place f (y ∷ xs) (suc n) x h e = at-place f xs n x (and_parts (f y) (list_all f xs) h).1 e

-- the correlation variables of a service
pub few_variables : (parts : ProgramParts) (n : ℕ) (s : ServicePart) → are_numbered parts ≡ true
    → slice_get parts.services n ≡ Some s → count_variables s.sets < 2 ^ 32
few_variables parts n s numbered there =
    let its : is_numbered s ≡ true = at-place is_numbered parts.services n s (and_parts _ _ numbered).1 there in
    fewer (count_variables s.sets) (and_parts (have_numbers (length s.ports)) (have_numbers (count_variables s.sets)) its).1
