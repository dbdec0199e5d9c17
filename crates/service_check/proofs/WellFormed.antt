-- The law: the program of a file of which nothing is refused is well formed.
use Rattle.std.proofs.Common.{◌≡◌, ◌≤◌, ℕ, ◌+◌, true, false, arith, List, [], ◌∷◌, map, flat_map, sum_by, Option, None, Some, refl, ap, sym, ◌∙◌}
use Rattle.std.specs.Prelude.{◌&&◌, nat_le, option_map}
use Rattle.std.specs.List.{filter_map, list_all}
use Rattle.std.proofs.lemmas.Bool.{and_from, and_parts}
use Rattle.std.proofs.lemmas.Bool.Decides.{nat_tests}
use Rattle.std.proofs.lemmas.List.Sums.{sum_by-cons}
use Rattle.jolie_ast.specs.Formed.{clause_formed, definition_formed, is_formed}
use Rattle.jolie_ast.specs.Members as count
use Rattle.jolie_ast.specs.Members.{block_members, clause_members, definition_members, most_members, optional_count}
use Rattle.jolie_ast.specs.declared.interface.Interface.{Interface}
use Rattle.jolie_ast.specs.declared.process.Block.{Block}
use Rattle.jolie_ast.specs.declared.service.Clause.{Clause}
use Rattle.jolie_ast.specs.declared.service.Clause.TheVariants as clause
use Rattle.jolie_ast.specs.declared.service.Service.{Service}
use Rattle.jolie_ast.specs.declared.tree.Definition.{Definition}
use Rattle.jolie_ast.specs.declared.tree.Definition.TheVariants as definition
use Rattle.behaviour_tree.specs.Data.{OperationPart, ProgramParts, ServicePart}
use Rattle.behaviour_tree.specs.Operations.{input_interfaces, operations_of}
use Rattle.behaviour_tree.specs.FormedPorts as formed_ports
use Rattle.behaviour_tree.specs.Distinct.{is_some_list, texts_differ}
use Rattle.behaviour_tree.specs.FormedTypes.{are_types}
use Rattle.behaviour_tree.specs.FormedSets.{are_sets}
use Rattle.behaviour_tree.specs.FormedBehaviours.{is_behaviour, parallel_members}
use Rattle.behaviour_tree.specs.FormedNumbers.{are_numbered}
use Rattle.behaviour_tree.specs.FormedServices.{are_ports, has_few_members, has_start, is_init, is_service, runs_well}
use Rattle.behaviour_tree.specs.WellFormed.{are_interfaces, are_names, are_services, is_well_formed}
use Rattle.check_base.specs.declared.refusal.Refusal.{Refusal}
use Rattle.lower_processes.specs.Behaviours.{Numbering, lowered_if_there}
use Rattle.check_base.specs.Files.{first_there, init_in, input_operations, interfaces_of, main_in, services_of, types_of, type_names, interface_names}
use Rattle.service_check.specs.Mentioned.{clause_texts, definition_texts, names_of}
use Rattle.check_ports.specs.PortRules.{input_locations}
use Rattle.lower_types.specs.LoweredInterfaces.{lowered_interface, lowered_operation}
use Rattle.service_check.specs.Programs.{lowered_service, numbering, program_of}
use Rattle.service_check.specs.Refusals.{no_service, refusal_of}
use Rattle.service_check.specs.ServiceRules.{service_refused}
use Rattle.check_processes.specs.Surroundings.{surroundings}
use Rattle.service_check.proofs.Emptied.{left_empty, right_empty}
use Rattle.service_check.proofs.WellBehaviours.{Meets}
use Rattle.service_check.proofs.WellParts.{NothingRefused, part_by_part, program_interfaces, program_names, program_types}
use Rattle.service_check.proofs.WellInit.{service_init}
use Rattle.service_check.proofs.WellInterfaces.{all_in, front_in, back_in}
use Rattle.service_check.proofs.WellMembers.{block_counts}
use Rattle.service_check.proofs.WellNames.{all_named}
use Rattle.service_check.proofs.WellPorts.{all_known, ports_of, service_operations_are}
use Rattle.service_check.proofs.WellRuns.{init_well, main_well, reach_by, service_meets}
use Rattle.service_check.proofs.WellServices.{NothingOf, NothingOfPorts, locations_are, locations_differ, ports_by_part, ports_formed, service_by_part, service_sets, services_differ}
use Rattle.service_check.proofs.WellSessions.{start_formed}
use Rattle.service_check.proofs.WellTypes.{lowered_types}

-- ---- members

-- how many members there are in a block that may be there
abbrev members_there : Option Block → ℕ
members_there o = optional_count (option_map block_members o)

there_counts : (m : Numbering) (o : Option Block) → parallel_members (lowered_if_there m o) ≡ members_there o
there_counts m None = refl
there_counts m (Some b) = block_counts m b

init_step : (b i t s total : ℕ) → total ≡ b + s → i + t ≤ s → b + t ≤ total
init_step b i t s total e le = omega (arith, e, le)

main_step : (b i t s total : ℕ) → total ≡ b + s → i + t ≤ s → i + b ≤ total
main_step b i t s total e le = omega (arith, e, le)

other_step : (i t s total : ℕ) → total ≡ 0 + s → i + t ≤ s → i + t ≤ total
other_step i t s total e le = omega (arith, e, le)

none_is_least : (n : ℕ) → 0 ≡ n → 0 + 0 ≤ n
none_is_least n e = omega (arith, e)

-- the first init and the first main have no more members than all clauses
two_counts : (clauses : List Clause) → members_there (first_there (filter_map init_in clauses)) + members_there (first_there (filter_map main_in clauses)) ≤ sum_by clause_members clauses
two_counts [] = none_is_least (sum_by clause_members []) refl
two_counts (clause.Init at body ∷ clauses) =
    init_step (block_members body) (members_there (first_there (filter_map init_in clauses))) (members_there (first_there (filter_map main_in clauses))) (sum_by clause_members clauses) (sum_by clause_members (clause.Init at body ∷ clauses))
    (sum_by-cons clause_members (clause.Init at body) clauses) (two_counts clauses)
two_counts (clause.Main at body ∷ clauses) =
    main_step (block_members body) (members_there (first_there (filter_map init_in clauses))) (members_there (first_there (filter_map main_in clauses))) (sum_by clause_members clauses) (sum_by clause_members (clause.Main at body ∷ clauses))
    (sum_by-cons clause_members (clause.Main at body) clauses) (two_counts clauses)
two_counts (clause.InputPort p ∷ clauses) =
    other_step (members_there (first_there (filter_map init_in clauses))) (members_there (first_there (filter_map main_in clauses))) (sum_by clause_members clauses) (sum_by clause_members (clause.InputPort p ∷ clauses))
    (sum_by-cons clause_members (clause.InputPort p) clauses) (two_counts clauses)
two_counts (clause.OutputPort p ∷ clauses) =
    other_step (members_there (first_there (filter_map init_in clauses))) (members_there (first_there (filter_map main_in clauses))) (sum_by clause_members clauses) (sum_by clause_members (clause.OutputPort p ∷ clauses))
    (sum_by-cons clause_members (clause.OutputPort p) clauses) (two_counts clauses)
two_counts (clause.Execution at execution ∷ clauses) =
    other_step (members_there (first_there (filter_map init_in clauses))) (members_there (first_there (filter_map main_in clauses))) (sum_by clause_members clauses) (sum_by clause_members (clause.Execution at execution ∷ clauses))
    (sum_by-cons clause_members (clause.Execution at execution) clauses) (two_counts clauses)
two_counts (clause.CorrelationSet at variables ∷ clauses) =
    other_step (members_there (first_there (filter_map init_in clauses))) (members_there (first_there (filter_map main_in clauses))) (sum_by clause_members clauses) (sum_by clause_members (clause.CorrelationSet at variables ∷ clauses))
    (sum_by-cons clause_members (clause.CorrelationSet at variables) clauses) (two_counts clauses)

few : (a b i t s most : ℕ) → a ≡ i → b ≡ t → i + t ≤ s → s ≤ most → a + b ≤ most
few a b i t s most ea eb le bound = omega (arith, ea, eb, le, bound)

is_at_most : (m n : ℕ) → m ≤ n → nat_le m n ≡ true
is_at_most m n le = grind (arith, nat_tests)

-- the parallels of init and main have few enough members
few_members : (m : Numbering) (clauses : List Clause) → sum_by clause_members clauses ≤ most_members
    → nat_le (parallel_members (lowered_if_there m (first_there (filter_map init_in clauses))) + parallel_members (lowered_if_there m (first_there (filter_map main_in clauses)))) 1048576 ≡ true
few_members m clauses bound =
    is_at_most (parallel_members (lowered_if_there m (first_there (filter_map init_in clauses))) + parallel_members (lowered_if_there m (first_there (filter_map main_in clauses)))) 1048576
    (few (parallel_members (lowered_if_there m (first_there (filter_map init_in clauses)))) (parallel_members (lowered_if_there m (first_there (filter_map main_in clauses))))
    (members_there (first_there (filter_map init_in clauses))) (members_there (first_there (filter_map main_in clauses))) (sum_by clause_members clauses) 1048576
    (there_counts m (first_there (filter_map init_in clauses))) (there_counts m (first_there (filter_map main_in clauses))) (two_counts clauses) bound)

-- ---- services

-- a service of a file as plain data
abbrev service_of : List Definition → Service → ServicePart
service_of file s = lowered_service (interfaces_of file) (type_names (types_of file)) (names_of file) s

-- a service of which nothing is refused
service_formed : (file : List Definition) (s : Service) → NothingOf (types_of file) (interfaces_of file) (input_locations (services_of file)) s → all_in (names_of file) (flat_map clause_texts s.clauses) ≡ true
    → list_all clause_formed s.clauses ≡ true → sum_by clause_members s.clauses ≤ most_members → is_service (program_of file) (input_locations (services_of file)) (service_of file s) ≡ true
unfolding program_of
service_formed file s none all shape bound =
    let tn : List (List ℕ) = type_names (types_of file) in
    let names : List (List ℕ) = names_of file in
    let is : List Interface = interfaces_of file in
    let locations : List (List ℕ) = input_locations (services_of file) in
    let part : ServicePart = service_of file s in
    let m : Numbering = numbering is names s in
    let ports : NothingOfPorts is locations s = ports_by_part is locations s none.ports in
    let inputs : List OperationPart = operations_of (map (lowered_interface tn names) is) (input_interfaces (ports_of (interface_names is) s.clauses)) in
    let same : inputs ≡ map (lowered_operation tn names) (input_operations is s) = service_operations_are tn names is s.clauses (all_known is s.clauses ports.each) ports.interfaces ports.operations in
    let meets : Meets (surroundings is s) m (reach_by tn names is s inputs) = service_meets tn names is s inputs same ports.outputs in
    and_from (are_ports (program_of file) locations part && are_sets (lowered_types (types_of file)) part && runs_well (program_of file) part && has_start inputs part) (has_few_members part)
    (and_from (are_ports (program_of file) locations part && are_sets (lowered_types (types_of file)) part && runs_well (program_of file) part) (has_start inputs part)
    (and_from (are_ports (program_of file) locations part && are_sets (lowered_types (types_of file)) part) (runs_well (program_of file) part)
    (and_from (are_ports (program_of file) locations part) (are_sets (lowered_types (types_of file)) part)
    (ports_formed tn names is locations s ports)
    (service_sets is (types_of file) names s none.sets))
    (and_from (is_init part.init && is_behaviour (reach_by tn names is s inputs) false part.init) (is_behaviour (reach_by tn names is s inputs) false part.main)
    (and_from (is_init part.init) (is_behaviour (reach_by tn names is s inputs) false part.init)
    (service_init (surroundings is s) m s.clauses none.clauses)
    (init_well (surroundings is s) m (reach_by tn names is s inputs) meets s.clauses none.clauses all shape))
    (main_well (surroundings is s) m (reach_by tn names is s inputs) meets s.clauses none.clauses all shape)))
    (ap (λ os. has_start os part) same ∙ start_formed is tn names s none.correlated none.starts))
    (few_members m s.clauses bound)

first_of_sum : (a b total most : ℕ) → total ≡ a + b → total ≤ most → a ≤ most
first_of_sum a b total most e le = omega (arith, e, le)

rest_of_sum : (a b total most : ℕ) → total ≡ a + b → total ≤ most → b ≤ most
rest_of_sum a b total most e le = omega (arith, e, le)

-- the services among definitions of a file
services_formed : (file rest : List Definition) → flat_map (service_refused (types_of file) (interfaces_of file) (input_locations (services_of file))) (services_of rest) ≡ [] → all_in (names_of file) (flat_map definition_texts rest) ≡ true
    → list_all definition_formed rest ≡ true → sum_by definition_members rest ≤ most_members → list_all (is_service (program_of file) (input_locations (services_of file))) (map (service_of file) (services_of rest)) ≡ true
services_formed file [] none all shape bound = refl
services_formed file (definition.Type ty ∷ rest) none all shape bound =
    services_formed file rest none all shape
    (rest_of_sum 0 (sum_by definition_members rest) (sum_by definition_members (definition.Type ty ∷ rest)) most_members (sum_by-cons definition_members (definition.Type ty) rest) bound)
services_formed file (definition.Interface i ∷ rest) none all shape bound =
    services_formed file rest none (back_in (names_of file) (definition_texts (definition.Interface i)) (flat_map definition_texts rest) all) shape
    (rest_of_sum 0 (sum_by definition_members rest) (sum_by definition_members (definition.Interface i ∷ rest)) most_members (sum_by-cons definition_members (definition.Interface i) rest) bound)
services_formed file (definition.Service s ∷ rest) none all shape bound =
    let refused_of : Service → List Refusal = service_refused (types_of file) (interfaces_of file) (input_locations (services_of file)) in
    let total : sum_by definition_members (definition.Service s ∷ rest) ≡ sum_by clause_members s.clauses + sum_by definition_members rest = sum_by-cons definition_members (definition.Service s) rest in
    let parts : (list_all clause_formed s.clauses ≡ true) × (list_all definition_formed rest ≡ true) = and_parts (list_all clause_formed s.clauses) (list_all definition_formed rest) shape in
    and_from (is_service (program_of file) (input_locations (services_of file)) (service_of file s)) (list_all (is_service (program_of file) (input_locations (services_of file))) (map (service_of file) (services_of rest)))
    (service_formed file s (service_by_part (types_of file) (interfaces_of file) (input_locations (services_of file)) s (left_empty (refused_of s) (flat_map refused_of (services_of rest)) none))
    (front_in (names_of file) (flat_map clause_texts s.clauses) (flat_map definition_texts rest) all) parts.0
    (first_of_sum (sum_by clause_members s.clauses) (sum_by definition_members rest) (sum_by definition_members (definition.Service s ∷ rest)) most_members total bound))
    (services_formed file rest (right_empty (refused_of s) (flat_map refused_of (services_of rest)) none) (back_in (names_of file) (flat_map clause_texts s.clauses) (flat_map definition_texts rest) all) parts.1
    (rest_of_sum (sum_by clause_members s.clauses) (sum_by definition_members rest) (sum_by definition_members (definition.Service s ∷ rest)) most_members total bound))

some_services : (f : Service → ServicePart) (ss : List Service) → no_service ss ≡ [] → is_some_list (map f ss) ≡ true
some_services f [] e = cc
some_services f (s ∷ ss) e = refl

-- the services of the program
program_services : (file : List Definition) → NothingRefused file → is_formed file ≡ true → count.parallel_members file ≤ most_members → are_services (program_of file) ≡ true
unfolding program_of
program_services file none shape bound =
    let tn : List (List ℕ) = type_names (types_of file) in
    let services : List ServicePart = map (service_of file) (services_of file) in
    and_from (is_some_list services && texts_differ (map (λ (s : ServicePart). s.name) services) && texts_differ (formed_ports.input_locations services)) (list_all (is_service (program_of file) (formed_ports.input_locations services)) services)
    (and_from (is_some_list services && texts_differ (map (λ (s : ServicePart). s.name) services)) (texts_differ (formed_ports.input_locations services))
    (and_from (is_some_list services) (texts_differ (map (λ (s : ServicePart). s.name) services))
    (some_services (service_of file) (services_of file) none.service)
    (services_differ (interfaces_of file) tn (names_of file) (services_of file) none.services_once))
    (locations_differ (interfaces_of file) tn (names_of file) (services_of file) none.locations_once))
    (ap (λ ls. list_all (is_service (program_of file) ls) services) (locations_are (interfaces_of file) tn (names_of file) (services_of file))
    ∙ services_formed file file none.services (all_named file) shape bound)

-- ---- the law

-- The program of a file of which nothing is refused is well formed, where it is numbered.
pub program_formed : (file : List Definition) → refusal_of file ≡ None → is_formed file ≡ true
    → count.parallel_members file ≤ most_members → are_numbered (program_of file) ≡ true
    → is_well_formed (program_of file) ≡ true
unfolding is_well_formed
program_formed file e shape bound numbered =
    let none : NothingRefused file = part_by_part file e in
    and_from
    (are_names (program_of file).names && are_types (program_of file).types && are_interfaces (program_of file)
    && are_services (program_of file))
    (are_numbered (program_of file))
    (and_from (are_names (program_of file).names && are_types (program_of file).types && are_interfaces (program_of file)) (are_services (program_of file))
    (and_from (are_names (program_of file).names && are_types (program_of file).types) (are_interfaces (program_of file))
    (and_from (are_names (program_of file).names) (are_types (program_of file).types) (program_names file) (program_types file none))
    (program_interfaces file none))
    (program_services file none shape bound))
    numbered

-- Parts that are those of a file of which nothing is refused, and numbered, are well formed.
pub parts_formed : (file : List Definition) (parts : ProgramParts) → refusal_of file ≡ None → is_formed file ≡ true
    → count.parallel_members file ≤ most_members → parts ≡ program_of file → are_numbered parts ≡ true
    → is_well_formed parts ≡ true
parts_formed file parts e shape bound same numbered = ap is_well_formed same ∙ program_formed file e shape bound (ap are_numbered (sym same) ∙ numbered)
