-- Each operation of a service reaches a session.
use Rattle.std.proofs.Common.{◌≡◌, ℕ, suc, ◌+◌, Bool, true, false, arith, List, [], ◌∷◌, ◌++◌, map, flat_map, Option, None, Some, slice_get, refl, ap, sym, ◌∙◌, bytes_eq}
use Rattle.std.specs.Prelude.{not, ◌&&◌, ◌||◌, ◌==◌, is_some, if◌then◌else◌, option_map, option_and_then, unwrap_or}
use Rattle.std.specs.List.{list_any}
use Rattle.std.proofs.lemmas.Bool.{and_from, or_left, or_right, or_parts, eq-eqb, false≢true}
use Rattle.std.proofs.lemmas.List.Folds.{list_any-append}
use Rattle.std.proofs.lemmas.Option.{same_Some, slice_get-map}
use Rattle.std.proofs.lemmas.Slice.Eq.{bytes_eq-Decides}
use Rattle.jolie_ast.specs.declared.name.Name.{Name}
use Rattle.jolie_ast.specs.declared.interface.Interface.{Interface}
use Rattle.jolie_ast.specs.declared.interface.TypeName.{TypeName}
use Rattle.jolie_ast.specs.declared.interface.TypeName.TheVariants as type_name
use Rattle.jolie_ast.specs.declared.service.CorrelationVariable.{CorrelationVariable}
use Rattle.jolie_ast.specs.declared.service.Execution.{Execution}
use Rattle.jolie_ast.specs.declared.service.Execution.TheVariants as said
use Rattle.jolie_ast.specs.declared.service.Service.{Service}
use Rattle.jolie_ast.specs.declared.process.Block.{Block}
use Rattle.behaviour_tree.specs.FormedSets as formed_sets
use Rattle.behaviour_tree.specs.FormedServices as formed_services
use Rattle.behaviour_tree.specs.Operations.{is_among}
use Rattle.behaviour_tree.specs.Distinct.{texts_differ, is_in}
use Rattle.behaviour_tree.specs.FormedServices.{all_reach, has_start, is_correlated}
use Rattle.check_base.specs.declared.refusal.CheckName.TheVariants.{NoStart, Uncorrelated}
use Rattle.check_base.specs.Least.{refused_if}
use Rattle.check_base.specs.OnceEach.{firsts_after}
use Rattle.check_base.specs.Files.{Operation, execution_of, input_operations, input_ports, is_concurrent, place_in, sets_of, texts_of}
use Rattle.lower_processes.specs.Behaviours.{Numbering, lowered_if_there}
use Rattle.service_check.specs.Programs.{lowered_execution, lowered_service, lowered_set, numbering}
use Rattle.lower_types.specs.LoweredInterfaces.{lowered_operation}
use Rattle.lower_types.specs.LoweredTypes.{lowered_type}
use Rattle.service_check.specs.ServiceRules as rules
use Rattle.check_processes.specs.FirstInputs.{first_input}
use Rattle.service_check.specs.ServiceRules.{is_lost, main_of, names_if_there, no_start, starting, uncorrelated}
use Rattle.check_ports.specs.SetRules.{alias_names, set_texts, types_in_sets}
use Rattle.service_check.proofs.Emptied.{fails, right_empty}
use Rattle.check_base.proofs.Firsts.{once_texts}
use Rattle.service_check.proofs.WellNames.{taken_differ}
use Rattle.service_check.proofs.WellPorts.{operations_listed}
use Rattle.service_check.proofs.WellSets.{all_texts, first_texts, sets_numbers, texts_in_all}
use Rattle.service_check.proofs.WellTypes.{own_place, place_is_found, text_is_in}
use Rattle.check_base.proofs.Loops.{mapped_each, mapped_twice}
use Rattle.service_check.proofs.WellStarts.{block_starts, numbers_of, starts_at}

-- ---- operations

first_turn : (a b c : Bool) → (a || b) ≡ true → (b ≡ true → c ≡ true) → (a || c) ≡ true
first_turn true b c e f = refl
first_turn false b c e f = f e

places_turn : (b : Bool) (f : List ℕ → ℕ) (t x : List ℕ) (ts : List (List ℕ)) → bytes_eq t x ≡ b → (is_in x ts ≡ true → is_among (map f ts) (f x) ≡ true) → is_in x (t ∷ ts) ≡ true → is_among (map f (t ∷ ts)) (f x) ≡ true
places_turn true f t x ts same rest there = or_left (f t == f x) (is_among (map f ts) (f x)) (eq-eqb (f t) (f x) (ap f ((bytes_eq-Decides t x).0 same)))
places_turn false f t x ts other rest there = or_right (f t == f x) (is_among (map f ts) (f x)) (rest (ap (λ b. b || is_in x ts) (sym other) ∙ there))

there_turn : (b : Bool) (x t : List ℕ) (taken ts : List (List ℕ)) → (is_in x taken ≡ true → is_in x ts ≡ true) → is_in x ((if b then [] else t ∷ []) ++ taken) ≡ true → is_in x (t ∷ ts) ≡ true
there_turn true x t taken ts rest e = or_right (bytes_eq t x) (is_in x ts) (rest e)
there_turn false x t taken ts rest e = first_turn (bytes_eq t x) (is_in x taken) (is_in x ts) e rest

either_turn : (b : Bool) (x : List ℕ) (ts us vs ws : List (List ℕ)) → is_in x ts ≡ b → (is_in x ts ≡ true → is_in x vs ≡ true) → (is_in x us ≡ true → is_in x ws ≡ true) → is_in x (ts ++ us) ≡ true → is_in x (vs ++ ws) ≡ true
either_turn true x ts us vs ws e first rest there = list_any-append (λ t. bytes_eq t x) vs ws ∙ or_left (is_in x vs) (is_in x ws) (first e)
either_turn false x ts us vs ws e first rest there =
    list_any-append (λ t. bytes_eq t x) vs ws ∙ or_right (is_in x vs) (is_in x ws) (rest (ap (λ b. b || is_in x us) (sym e) ∙ sym (list_any-append (λ t. bytes_eq t x) ts us) ∙ there))

-- the number of a text that is there is among those of the texts
pub in_places : (f : List ℕ → ℕ) (ts : List (List ℕ)) (x : List ℕ) → is_in x ts ≡ true → is_among (map f ts) (f x) ≡ true
in_places f [] x there = absurd (false≢true there)
in_places f (t ∷ ts) x there = places_turn (bytes_eq t x) f t x ts refl (in_places f ts x) there

-- a text that is taken was there
pub was_there : (x : List ℕ) (before ts : List (List ℕ)) → is_in x (firsts_after before ts) ≡ true → is_in x ts ≡ true
was_there x before [] taken = taken
was_there x before (t ∷ ts) taken = there_turn (is_in t before) x t (firsts_after (t ∷ before) ts) ts (was_there x (t ∷ before) ts) taken

-- a type that sets name is that of an alias
pub in_all_texts : (x : List ℕ) (sets : List (List CorrelationVariable)) → is_in x (types_in_sets sets) ≡ true → is_in x (texts_in_all sets) ≡ true
in_all_texts x [] there = there
in_all_texts x (set ∷ sets) there =
    either_turn (is_in x (set_texts set)) x (set_texts set) (types_in_sets sets) (all_texts set) (texts_in_all sets) refl
    (λ h. was_there x [] (all_texts set) (sym (ap (is_in x) (first_texts [] (flat_map alias_names set) ∙ ap (firsts_after []) (mapped_each (λ (n : Name). n.text) alias_names set))) ∙ h))
    (in_all_texts x sets) there

-- a request of a type that sets name
request_reaches : (types : List (List ℕ)) (sets : List (List CorrelationVariable)) (t : TypeName) → rules.is_among (types_in_sets sets) t ≡ true → is_correlated (map (lowered_set types) sets) (lowered_type types t) ≡ true
request_reaches types sets (type_name.Root at kind) e = absurd (false≢true e)
request_reaches types sets (type_name.Named n) e =
    ap (λ ns. is_among ns (place_in types n.text)) (sets_numbers types sets) ∙ in_places (place_in types) (texts_in_all sets) n.text (in_all_texts n.text sets e)
request_reaches types sets (type_name.Undefined at) e = absurd (false≢true e)

one_reaches : (a b c d : Bool) → (not a && not b) ≡ false → (a ≡ true → c ≡ true) → (b ≡ true → d ≡ true) → (c || d) ≡ true
one_reaches true b c d e f g = or_left c d (f refl)
one_reaches false true c d e f g = or_right c d (g refl)
one_reaches false false c d e f g = absurd (false≢true (sym e))

-- operations of which none is lost, numbered from one on
all_reach_by : (m : Numbering) (types names : List (List ℕ)) (sets : List (List CorrelationVariable)) (starts : List Name) (n : ℕ) (os : List Operation)
    → list_any (is_lost (map (λ (s : Name). s.text) starts) (types_in_sets sets)) os ≡ false → ((j : ℕ) (o : Operation) → slice_get os j ≡ Some o → place_in m.inputs o.name.text ≡ n + j)
    → all_reach (map (lowered_set types) sets) (numbers_of m starts) n (map (lowered_operation types names) os) ≡ true
all_reach_by m types names sets starts n [] e at = refl
all_reach_by m types names sets starts n (o ∷ os) e at =
    let texts : List (List ℕ) = map (λ (s : Name). s.text) starts in
    let parts : (is_lost texts (types_in_sets sets) o ≡ false) × (list_any (is_lost texts (types_in_sets sets)) os ≡ false) = or_parts (is_lost texts (types_in_sets sets) o) (list_any (is_lost texts (types_in_sets sets)) os) e in
    let here : n + 0 ≡ n = omega arith in
    let place : place_in m.inputs o.name.text ≡ n = at 0 o refl ∙ here in
    and_from (is_among (numbers_of m starts) n || is_correlated (map (lowered_set types) sets) (lowered_type types o.request)) (all_reach (map (lowered_set types) sets) (numbers_of m starts) (suc n) (map (lowered_operation types names) os))
    (one_reaches (is_in o.name.text texts) (rules.is_among (types_in_sets sets) o.request) (is_among (numbers_of m starts) n) (is_correlated (map (lowered_set types) sets) (lowered_type types o.request)) parts.0
    (λ h. ap (λ k. is_among (numbers_of m starts) k) (sym place)
    ∙ ap (λ ns. is_among ns (place_in m.inputs o.name.text)) (sym (mapped_twice (place_in m.inputs) (λ (s : Name). s.text) starts)) ∙ in_places (place_in m.inputs) texts o.name.text h)
    (request_reaches types sets o.request))
    (all_reach_by m types names sets starts (suc n) os parts.1 (λ j q there. let further : n + suc j ≡ suc n + j = omega arith in at (suc j) q there ∙ further))

-- ---- services

main_begins : (m : Numbering) (o : Option Block) → formed_services.first_input (lowered_if_there m o) ≡ starts_at m (option_and_then first_input o)
main_begins m None = refl
main_begins m (Some b) = block_starts m b

first_is_there : (b : Bool) → (true && not b) ≡ false → b ≡ true
first_is_there true e = refl
first_is_there false e = absurd (false≢true (sym e))

some_starts : (m : Numbering) (o : Option (List Name)) → is_some (starts_at m o) ≡ is_some o
some_starts m None = refl
some_starts m (Some ns) = refl

names_there : (m : Numbering) (o : Option (List Name)) → unwrap_or (starts_at m o) [] ≡ numbers_of m (unwrap_or o [])
names_there m None = refl
names_there m (Some ns) = refl

texts_there : (o : Option (List Name)) → names_if_there o ≡ map (λ (n : Name). n.text) (unwrap_or o [])
texts_there None = refl
texts_there (Some ns) = refl

-- the operations of a service have the numbers of their places
input_places : (is : List Interface) (s : Service) (j : ℕ) (o : Operation) → slice_get (input_operations is s) j ≡ Some o → place_in (texts_of (input_operations is s)) o.name.text ≡ 0 + j
input_places is s j o there =
    let ts : List (List ℕ) = texts_of (input_operations is s) in
    let text : slice_get ts j ≡ Some o.name.text = slice_get-map (λ (o : Operation). o.name.text) (input_operations is s) j ∙ ap (option_map (λ (o : Operation). o.name.text)) there in
    let differ : texts_differ ts ≡ true = ap texts_differ (once_texts [] (operations_listed is (input_ports s))) ∙ taken_differ [] (texts_of (operations_listed is (input_ports s))) in
    let zero_first : j ≡ 0 + j = omega arith in
    same_Some (place_in ts o.name.text) j (sym (place_is_found ts o.name.text (text_is_in ts j o.name.text text)) ∙ own_place ts j o.name.text differ text) ∙ zero_first

concurrent_start : (is : List Interface) (types names : List (List ℕ)) (s : Service) (m : Numbering) → m.inputs ≡ texts_of (input_operations is s) → (true && not (is_some (starting s))) ≡ false
    → (true && list_any (is_lost (names_if_there (starting s)) (types_in_sets (sets_of s))) (input_operations is s)) ≡ false
    → (is_some (formed_services.first_input (lowered_if_there m (main_of s))) && all_reach (map (lowered_set types) (sets_of s)) (unwrap_or (formed_services.first_input (lowered_if_there m (main_of s))) []) 0 (map (lowered_operation types names) (input_operations is s))) ≡ true
concurrent_start is types names s m inputs some lost =
    let o : Option (List Name) = starting s in
    let os : List Operation = input_operations is s in
    let first : formed_services.first_input (lowered_if_there m (main_of s)) ≡ starts_at m o = main_begins m (main_of s) in
    and_from (is_some (formed_services.first_input (lowered_if_there m (main_of s)))) (all_reach (map (lowered_set types) (sets_of s)) (unwrap_or (formed_services.first_input (lowered_if_there m (main_of s))) []) 0 (map (lowered_operation types names) os))
    (ap is_some first ∙ some_starts m o ∙ first_is_there (is_some o) some)
    (ap (λ f. all_reach (map (lowered_set types) (sets_of s)) (unwrap_or f []) 0 (map (lowered_operation types names) os)) first
    ∙ ap (λ ns. all_reach (map (lowered_set types) (sets_of s)) ns 0 (map (lowered_operation types names) os)) (names_there m o)
    ∙ all_reach_by m types names (sets_of s) (unwrap_or o []) 0 os (ap (λ ts. list_any (is_lost ts (types_in_sets (sets_of s))) os) (sym (texts_there o)) ∙ lost)
    (λ j q there. ap (λ ts. place_in ts q.name.text) inputs ∙ input_places is s j q there))

start_by : (e : Execution) (is : List Interface) (types names : List (List ℕ)) (s : Service) (m : Numbering) → m.inputs ≡ texts_of (input_operations is s) → (is_concurrent e && not (is_some (starting s))) ≡ false
    → (is_concurrent e && list_any (is_lost (names_if_there (starting s)) (types_in_sets (sets_of s))) (input_operations is s)) ≡ false
    → (not (formed_sets.is_concurrent (lowered_execution e)) || (is_some (formed_services.first_input (lowered_if_there m (main_of s))) && all_reach (map (lowered_set types) (sets_of s)) (unwrap_or (formed_services.first_input (lowered_if_there m (main_of s))) []) 0 (map (lowered_operation types names) (input_operations is s)))) ≡ true
start_by said.Concurrent is types names s m inputs some lost = concurrent_start is types names s m inputs some lost
start_by said.Single is types names s m inputs some lost = refl

-- a service whose sessions start, with its operations in order
pub start_formed : (is : List Interface) (types names : List (List ℕ)) (s : Service) → uncorrelated is s ≡ [] → no_start s ≡ [] → has_start (map (lowered_operation types names) (input_operations is s)) (lowered_service is types names s) ≡ true
start_formed is types names s lost none =
    start_by (execution_of s) is types names s (numbering is names s) refl
    (fails (is_concurrent (execution_of s) && not (is_some (starting s))) NoStart s.at (right_empty (refused_if (not (is_some (main_of s))) NoStart s.at) (refused_if (is_concurrent (execution_of s) && not (is_some (starting s))) NoStart s.at) none))
    (fails (is_concurrent (execution_of s) && list_any (is_lost (names_if_there (starting s)) (types_in_sets (sets_of s))) (input_operations is s)) Uncorrelated s.at lost)
