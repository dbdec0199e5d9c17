-- That the parts of a program are numbered, of the counts of what they have.
use Rattle.std.proofs.Common.{◌≡◌, ◌<◌, ◌^◌, true, List, length, map}
use Rattle.std.specs.List.{list_all}
use Rattle.std.proofs.lemmas.Bool.{and_from}
use Rattle.std.proofs.lemmas.List.{length-map}
use Rattle.behaviour_tree.specs.FormedNumbers.{are_numbered, count_sets, count_variables, have_numbers, is_numbered}
use Rattle.behaviour_tree.specs.PartsView.{interface_view, parts_view, port_view, service_view, set_view}
use Rattle.behaviour_tree.specs.View.{type_view}
use Rattle.behaviour_tree.specs.declared.program.Parts.{Parts}
use Rattle.behaviour_tree.specs.declared.program.Service.{Service}
use Rattle.behaviour_tree.proofs.FewEnough.{numbers_fit}

-- what is seen of a list is as long as it
seen_fit : {A B : Type 0} (f : A → B) (xs : List A) → length xs < 2 ^ 32 → have_numbers (length (map f xs)) ≡ true
seen_fit f xs h = rw (length-map xs f) (numbers_fit (length xs) h)

-- a service
pub service_numbered : (s : Service) → length s.ports.items < 2 ^ 32 → count_variables (map set_view s.sets.items) < 2 ^ 32
    → is_numbered (service_view s) ≡ true
service_numbered s ports variables =
    and_from (have_numbers (length (map port_view s.ports.items))) (have_numbers (count_variables (map set_view s.sets.items)))
    (seen_fit port_view s.ports.items ports) (numbers_fit (count_variables (map set_view s.sets.items)) variables)

-- a program
pub parts_numbered : (p : Parts) → length p.names.items < 2 ^ 32 → length p.types.items < 2 ^ 32 → length p.interfaces.items < 2 ^ 32
    → length p.services.items < 2 ^ 32 → count_sets (map service_view p.services.items) < 2 ^ 32
    → list_all is_numbered (map service_view p.services.items) ≡ true → are_numbered (parts_view p) ≡ true
parts_numbered p names types interfaces services sets each =
    and_from _ _ (and_from _ _ (and_from _ _ (and_from _ _ (and_from _ _
    (numbers_fit (length p.names.items) names)
    (seen_fit type_view p.types.items types))
    (seen_fit interface_view p.interfaces.items interfaces))
    (seen_fit service_view p.services.items services))
    (numbers_fit (count_sets (map service_view p.services.items)) sets))
    each
