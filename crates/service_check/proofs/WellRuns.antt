-- The behaviours of a service are well formed where nothing is refused of the service.
use Rattle.std.proofs.Common.{◌≡◌, ℕ, zero, suc, ◌+◌, Bool, true, false, arith, List, [], ◌∷◌, ◌++◌, map, flat_map, length, Option, None, Some, slice_get, refl, ap, sym, subst, ◌∙◌, bytes_eq}
use Rattle.std.specs.Prelude.{not, ◌||◌, is_some, if◌then◌else◌, nat_lt, unwrap_or}
use Rattle.std.specs.List.{filter_map, list_all}
use Rattle.std.proofs.lemmas.Bool.{and_parts}
use Rattle.std.proofs.lemmas.List.{length-map}
use Rattle.std.proofs.lemmas.Option.{same_Some}
use Rattle.jolie_ast.specs.declared.name.Name.{Name}
use Rattle.jolie_ast.specs.declared.interface.Interface.{Interface}
use Rattle.jolie_ast.specs.declared.process.Block.{Block}
use Rattle.jolie_ast.specs.declared.service.Clause.{Clause}
use Rattle.jolie_ast.specs.declared.service.Clause.TheVariants as clause
use Rattle.jolie_ast.specs.declared.service.Service.{Service}
use Rattle.jolie_ast.specs.Formed.{block_formed, clause_formed}
use Rattle.behaviour_tree.specs.Data.{OperationPart, InterfacePart, VariablePart}
use Rattle.behaviour_tree.specs.FormedSets as formed_sets
use Rattle.behaviour_tree.specs.FormedServices as formed_services
use Rattle.behaviour_tree.specs.FormedBehaviours.{Reach, has_operation, is_behaviour}
use Rattle.behaviour_tree.specs.FormedServices.{sent_to}
use Rattle.behaviour_tree.specs.Distinct.{is_in}
use Rattle.check_base.specs.declared.refusal.CheckName.TheVariants.{UnknownOperation, WrongKind, Uncorrelated}
use Rattle.check_base.specs.declared.refusal.Refusal.{Refusal}
use Rattle.check_base.specs.Least.{refused, refused_if}
use Rattle.check_base.specs.Files.{Operation, first_there, init_in, input_operations, main_in, operation_named, output_ports, place_in, port_in, sets_of, texts_of, interface_names, variables_of}
use Rattle.lower_processes.specs.Behaviours.{Numbering, console_port, lowered_if_there, port_among}
use Rattle.check_base.specs.Repeated.{Texts}
use Rattle.service_check.specs.Mentioned.{block_texts, clause_texts}
use Rattle.check_base.specs.Console.{console, println}
use Rattle.check_ports.specs.PortRules.{operations_repeated}
use Rattle.check_processes.specs.Surroundings.{Surroundings, outlet, surroundings}
use Rattle.check_processes.specs.ProcessRules.{agree, block_refused, outlet_named, used}
use Rattle.lower_types.specs.LoweredInterfaces.{lowered_interface, lowered_operation}
use Rattle.service_check.specs.Programs.{lowered_port_part, lowered_set, numbered_from, numbering}
use Rattle.service_check.specs.ServiceRules.{clause_refused}
use Rattle.check_processes.specs.InitRules.{init_refused}
use Rattle.service_check.proofs.Emptied.{has_place, holds, left_empty}
use Rattle.service_check.proofs.WellBehaviours.{Meets, block_well}
use Rattle.service_check.proofs.WellInit.{init_clear, main_clear}
use Rattle.service_check.proofs.WellInterfaces.{all_in, front_in, back_in}
use Rattle.service_check.proofs.WellOperations.{operation_used, output_of, output_reaches, reaches}
use Rattle.service_check.proofs.WellPorts.{ports_of}
use Rattle.service_check.proofs.WellSets.{variable_names}

-- ---- operations

there_turn : (b : Bool) (o : Operation) (found : Option Operation) (i : Bool) → is_some found ≡ i → is_some (if b then Some o else found) ≡ (b || i)
there_turn true o found i e = refl
there_turn false o found i e = e

-- an operation is found where its name is there
operation_is_there : (os : List Operation) (t : List ℕ) → is_some (operation_named os t) ≡ is_in t (texts_of os)
operation_is_there [] t = refl
operation_is_there (o ∷ os) t = there_turn (bytes_eq o.name.text t) o (operation_named os t) (is_in t (texts_of os)) (operation_is_there os t)

used_is_there : (o : Option Operation) (n : Name) (answers : Bool) → (elim o as (λ _. List Refusal) [ None ↦ refused UnknownOperation (n.at ∷ []) | Some o ↦ refused_if (not (agree (is_some o.response) answers)) WrongKind n.at ]) ≡ [] → is_some o ≡ true
used_is_there None n answers e = cc
used_is_there (Some o) n answers e = refl

-- an operation that is used without a refusal is known by its name
known_by_use : (os : List Operation) (n : Name) (answers : Bool) → used os n answers ≡ [] → is_in n.text (texts_of os) ≡ true
known_by_use os n answers e = sym (operation_is_there os n.text) ∙ used_is_there (operation_named os n.text) n answers e

-- ---- ports

slice_front : {A : Type 0} (xs ys : List A) (j : ℕ) (x : A) → slice_get xs j ≡ Some x → slice_get (xs ++ ys) j ≡ Some x
slice_front [] ys j x e = cc
slice_front (z ∷ xs) ys zero x e = e
slice_front (z ∷ xs) ys (suc j) x e = slice_front xs ys j x e

slice_end : {A : Type 0} (xs : List A) (x : A) → slice_get (xs ++ x ∷ []) (length xs) ≡ Some x
slice_end [] x = refl
slice_end (z ∷ xs) x = slice_end xs x

-- the operations of the ports of a service, and those of the port that every service has
abbrev all_outputs : List InterfacePart → List (List ℕ) → List Clause → List (List OperationPart)
all_outputs interfaces names clauses = map (sent_to interfaces) (ports_of names clauses) ++ (formed_services.println ∷ []) ∷ []

sent_there : (types names : List (List ℕ)) (is : List Interface) (s : Service) (b : Bool) (operation port : Name) (answers : Bool)
    → flat_map (operations_repeated is) (output_ports s) ≡ []
    → output_of (if b then Some (println ∷ []) else outlet_named (map (outlet is) (output_ports s)) port.text) operation port answers ≡ []
    → reaches (all_outputs (map (lowered_interface types names) is) (interface_names is) s.clauses) operation answers (if b then console_port (numbering is names s) else port_among (numbered_from is zero (filter_map port_in s.clauses)) (console_port (numbering is names s)) port.text) ≡ true
sent_there types names is s true operation port answers once e =
    let pis : List InterfacePart = map (lowered_interface types names) is in
    let outs : List (List OperationPart) = map (sent_to pis) (ports_of (interface_names is) s.clauses) in
    let size : length outs ≡ length (filter_map port_in s.clauses) = length-map (ports_of (interface_names is) s.clauses) (sent_to pis) ∙ length-map (filter_map port_in s.clauses) (lowered_port_part (interface_names is)) in
    ap (λ n. has_operation (unwrap_or (slice_get (outs ++ (formed_services.println ∷ []) ∷ []) n) []) (place_in (println.name.text ∷ []) operation.text) answers) (sym size)
    ∙ ap (λ o. has_operation (unwrap_or o []) (place_in (println.name.text ∷ []) operation.text) answers) (slice_end outs (formed_services.println ∷ []))
    ∙ operation_used types names (println ∷ []) operation answers e
sent_there types names is s false operation port answers once e =
    let pis : List InterfacePart = map (lowered_interface types names) is in
    let outs : List (List OperationPart) = map (sent_to pis) (ports_of (interface_names is) s.clauses) in
    output_reaches types names is s.clauses zero (outs ++ (formed_services.println ∷ []) ∷ []) (console_port (numbering is names s)) operation port answers once
    (λ j os there. let same : j ≡ 0 + j = omega arith in subst (λ k. slice_get (outs ++ (formed_services.println ∷ []) ∷ []) k ≡ Some os) same (slice_front outs ((formed_services.println ∷ []) ∷ []) j os there)) e

-- ---- a service

-- what the behaviours of a service may name
abbrev pub reach_by : List (List ℕ) → List (List ℕ) → List Interface → Service → List OperationPart → Reach
reach_by types names is s inputs = record {
  inputs = inputs;
  outputs = all_outputs (map (lowered_interface types names) is) (interface_names is) s.clauses;
  variables = length (formed_sets.variables_of (map (lowered_set types) (sets_of s)));
  names = length names;
}

-- how many variables there are
variables_size : (types : List (List ℕ)) (s : Service) → length (map (λ (n : Name). n.text) (variables_of s)) ≡ length (formed_sets.variables_of (map (lowered_set types) (sets_of s)))
variables_size types s = ap length (sym (variable_names types (sets_of s))) ∙ length-map (formed_sets.variables_of (map (lowered_set types) (sets_of s))) (λ (v : VariablePart). v.name)

-- the numbers of a service meet what its processes may name
pub service_meets : (types names : List (List ℕ)) (is : List Interface) (s : Service) (inputs : List OperationPart) → inputs ≡ map (lowered_operation types names) (input_operations is s) → flat_map (operations_repeated is) (output_ports s) ≡ []
    → Meets (surroundings is s) (numbering is names s) (reach_by types names is s inputs)
service_meets types names is s inputs same once = record {
  inputs = λ n answers e. ap (λ os. has_operation os (place_in (texts_of (input_operations is s)) n.text) answers) same ∙ operation_used types names (input_operations is s) n answers e;
  outputs = λ operation port answers e. sent_there types names is s (bytes_eq port.text console) operation port answers once e;
  variables = λ at v e.
      ap (λ n. nat_lt (place_in (map (λ (n : Name). n.text) (variables_of s)) v.text) n) (sym (variables_size types s))
      ∙ has_place (map (λ (n : Name). n.text) (variables_of s)) v.text (holds (is_in v.text (map (λ (n : Name). n.text) (variables_of s))) Uncorrelated at e);
  known = λ n answers e. known_by_use (input_operations is s) n answers e;
  names = refl;
}

-- ---- init and main

-- what the first init names is among the names, and it is formed
init_part : (names : Texts) (clauses : List Clause) (b : Block) → all_in names (flat_map clause_texts clauses) ≡ true → list_all clause_formed clauses ≡ true → first_there (filter_map init_in clauses) ≡ Some b
    → (all_in names (block_texts b) ≡ true) × (block_formed b ≡ true)
init_part names [] b all shape there = cc
init_part names (clause.Init at body ∷ clauses) b all shape there =
    subst (λ x. (all_in names (block_texts x) ≡ true) × (block_formed x ≡ true)) (same_Some body b there) (front_in names (block_texts body) (flat_map clause_texts clauses) all, (and_parts (block_formed body) (list_all clause_formed clauses) shape).0)
init_part names (clause.Main at body ∷ clauses) b all shape there = init_part names clauses b (back_in names (block_texts body) (flat_map clause_texts clauses) all) (and_parts (block_formed body) (list_all clause_formed clauses) shape).1 there
init_part names (clause.InputPort p ∷ clauses) b all shape there = init_part names clauses b all shape there
init_part names (clause.OutputPort p ∷ clauses) b all shape there = init_part names clauses b all shape there
init_part names (clause.Execution at execution ∷ clauses) b all shape there = init_part names clauses b all shape there
init_part names (clause.CorrelationSet at variables ∷ clauses) b all shape there = init_part names clauses b all shape there

-- so is the first main
main_part : (names : Texts) (clauses : List Clause) (b : Block) → all_in names (flat_map clause_texts clauses) ≡ true → list_all clause_formed clauses ≡ true → first_there (filter_map main_in clauses) ≡ Some b
    → (all_in names (block_texts b) ≡ true) × (block_formed b ≡ true)
main_part names [] b all shape there = cc
main_part names (clause.Main at body ∷ clauses) b all shape there =
    subst (λ x. (all_in names (block_texts x) ≡ true) × (block_formed x ≡ true)) (same_Some body b there) (front_in names (block_texts body) (flat_map clause_texts clauses) all, (and_parts (block_formed body) (list_all clause_formed clauses) shape).0)
main_part names (clause.Init at body ∷ clauses) b all shape there = main_part names clauses b (back_in names (block_texts body) (flat_map clause_texts clauses) all) (and_parts (block_formed body) (list_all clause_formed clauses) shape).1 there
main_part names (clause.InputPort p ∷ clauses) b all shape there = main_part names clauses b all shape there
main_part names (clause.OutputPort p ∷ clauses) b all shape there = main_part names clauses b all shape there
main_part names (clause.Execution at execution ∷ clauses) b all shape there = main_part names clauses b all shape there
main_part names (clause.CorrelationSet at variables ∷ clauses) b all shape there = main_part names clauses b all shape there

body_well : (e : Surroundings) (m : Numbering) (r : Reach) → Meets e m r → (o : Option Block) → ((b : Block) → o ≡ Some b → block_refused e b false ≡ []) → ((b : Block) → o ≡ Some b → (all_in m.names (block_texts b) ≡ true) × (block_formed b ≡ true))
    → is_behaviour r false (lowered_if_there m o) ≡ true
body_well e m r w None clear part = refl
body_well e m r w (Some b) clear part = block_well e m r w b false (clear b refl) (part b refl).0 (part b refl).1

-- the init of a service of which nothing is refused
pub init_well : (e : Surroundings) (m : Numbering) (r : Reach) → Meets e m r → (clauses : List Clause) → flat_map (clause_refused e) clauses ≡ [] → all_in m.names (flat_map clause_texts clauses) ≡ true → list_all clause_formed clauses ≡ true
    → is_behaviour r false (lowered_if_there m (first_there (filter_map init_in clauses))) ≡ true
init_well e m r w clauses none all shape =
    body_well e m r w (first_there (filter_map init_in clauses)) (λ b there. left_empty (block_refused e b false) (init_refused b) (init_clear e clauses b none there)) (λ b there. init_part m.names clauses b all shape there)

-- its main
pub main_well : (e : Surroundings) (m : Numbering) (r : Reach) → Meets e m r → (clauses : List Clause) → flat_map (clause_refused e) clauses ≡ [] → all_in m.names (flat_map clause_texts clauses) ≡ true → list_all clause_formed clauses ≡ true
    → is_behaviour r false (lowered_if_there m (first_there (filter_map main_in clauses))) ≡ true
main_well e m r w clauses none all shape = body_well e m r w (first_there (filter_map main_in clauses)) (λ b there. main_clear e clauses b none there) (λ b there. main_part m.names clauses b all shape there)
