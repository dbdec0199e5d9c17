-- Operations that a process uses without a refusal are there, by the numbers of ports and operations.
use Rattle.std.proofs.Common.{◌≡◌, ℕ, zero, suc, ◌+◌, Bool, true, false, arith, List, [], ◌∷◌, map, flat_map, Option, None, Some, slice_get, refl, ap, sym, subst, ◌∙◌, bytes_eq, append-nil}
use Rattle.std.specs.Prelude.{not, is_some, if◌then◌else◌, option_map, unwrap_or}
use Rattle.std.specs.List.{filter_map}
use Rattle.std.proofs.lemmas.Bool.{false≢true}
use Rattle.std.proofs.lemmas.List.Folds.{flat_map-map}
use Rattle.jolie_ast.specs.declared.name.Name.{Name}
use Rattle.jolie_ast.specs.declared.interface.Interface.{Interface}
use Rattle.jolie_ast.specs.declared.interface.TypeName.{TypeName}
use Rattle.jolie_ast.specs.declared.service.Clause.{Clause}
use Rattle.jolie_ast.specs.declared.service.Clause.TheVariants as clause
use Rattle.jolie_ast.specs.declared.service.Port.{Port}
use Rattle.behaviour_tree.specs.Data.{OperationPart, PortPart}
use Rattle.behaviour_tree.specs.Operations.{operations_of}
use Rattle.behaviour_tree.specs.FormedPorts as formed_ports
use Rattle.behaviour_tree.specs.Distinct.{texts_differ}
use Rattle.behaviour_tree.specs.FormedBehaviours.{has_operation}
use Rattle.behaviour_tree.specs.FormedServices.{sent_to}
use Rattle.check_base.specs.declared.refusal.CheckName.TheVariants.{DuplicateName, UnknownOperation, UnknownPort, WrongKind}
use Rattle.check_base.specs.declared.refusal.Refusal.{Refusal}
use Rattle.check_base.specs.Least.{refused, refused_if}
use Rattle.lower_processes.specs.Behaviours.{NumberedPort, port_among}
use Rattle.check_base.specs.Files.{Operation, each_once, operation_named, operations_named, output_port_in, place_in, port_in, port_operations, texts_of, interface_names}
use Rattle.check_ports.specs.PortRules.{brought, operations_repeated}
use Rattle.check_processes.specs.ProcessRules.{agree, outlet_named, used}
use Rattle.lower_types.specs.LoweredInterfaces.{lowered_interface, lowered_operation}
use Rattle.lower_types.specs.LoweredTypes.{lowered_type}
use Rattle.service_check.specs.Programs.{numbered_from}
use Rattle.check_processes.specs.Surroundings.{outlet}
use Rattle.service_check.proofs.Emptied.{holds, left_empty, names_differ, right_empty}
use Rattle.service_check.proofs.OnceEach.{new_taken}
use Rattle.service_check.proofs.WellPorts.{brought_texts, operations_behind, port_names, ports_of}
use Rattle.check_base.proofs.Loops.{mapped_each, mapped_twice}

-- ---- operations by their names

place_turn : (m : Operation → OperationPart) (b : Bool) (o : Operation) (os : List Operation) (p : ℕ) (found : Option Operation) → slice_get (map m os) p ≡ option_map m found
    → slice_get (map m (o ∷ os)) (if b then zero else suc p) ≡ option_map m (if b then Some o else found)
place_turn m true o os p found e = refl
place_turn m false o os p found e = e

-- the operation of a name stands at its place
pub operation_at_place : (m : Operation → OperationPart) (os : List Operation) (t : List ℕ) → slice_get (map m os) (place_in (texts_of os) t) ≡ option_map m (operation_named os t)
operation_at_place m [] t = refl
operation_at_place m (o ∷ os) t = place_turn m (bytes_eq o.name.text t) o os (place_in (texts_of os) t) (operation_named os t) (operation_at_place m os t)

as_used : (does answers : Bool) → agree does answers ≡ true → (if answers then does else not does) ≡ true
as_used true true e = refl
as_used true false e = absurd (false≢true e)
as_used false true e = absurd (false≢true e)
as_used false false e = refl

answer_kept : (types : List (List ℕ)) (t : Option TypeName) → is_some (option_map (lowered_type types) t) ≡ is_some t
answer_kept types None = refl
answer_kept types (Some t) = refl

-- an operation that may be there, used with an answer or without one
abbrev use_of : Option Operation → Name → Bool → List Refusal
use_of o n answers = elim o as (λ _. List Refusal) [ None ↦ refused UnknownOperation (n.at ∷ []) | Some o ↦ refused_if (not (agree (is_some o.response) answers)) WrongKind n.at ]

-- whether an operation that may be there has an answer or none
abbrev has_answer : Bool → Option OperationPart → Bool
has_answer answers o = elim o as (λ _. Bool) [ None ↦ false | Some o ↦ if answers then is_some o.response else not (is_some o.response) ]

used_there : (types names : List (List ℕ)) (o : Option Operation) (n : Name) (answers : Bool) → use_of o n answers ≡ [] → has_answer answers (option_map (lowered_operation types names) o) ≡ true
used_there types names None n answers e = cc
used_there types names (Some o) n answers e =
    ap (λ b. if answers then b else not b) (answer_kept types o.response) ∙ as_used (is_some o.response) answers (holds (agree (is_some o.response) answers) WrongKind n.at e)

-- an operation that is used without a refusal is there
pub operation_used : (types names : List (List ℕ)) (os : List Operation) (n : Name) (answers : Bool) → used os n answers ≡ [] → has_operation (map (lowered_operation types names) os) (place_in (texts_of os) n.text) answers ≡ true
operation_used types names os n answers e =
    ap (has_answer answers) (operation_at_place (lowered_operation types names) os n.text) ∙ used_there types names (operation_named os n.text) n answers e

-- ---- output ports

-- operations whose names differ are those once each
once_is : (os : List Operation) → texts_differ (texts_of os) ≡ true → each_once os ≡ os
once_is os differ = ap each_once (sym (append-nil os)) ∙ new_taken [] os [] differ (λ x h. refl) ∙ append-nil os

-- the operations that are sent to an output port are its own
pub sent_operations : (types names : List (List ℕ)) (is : List Interface) (p : Port) → operations_repeated is p ≡ []
    → formed_ports.port_operations (map (lowered_interface types names) is) (record { name = p.name.text; input = false; location = p.location.text; interfaces = map (λ (n : Name). place_in (interface_names is) n.text) p.interfaces }) ≡ map (lowered_operation types names) (port_operations is p)
sent_operations types names is p e =
    let os : List Operation = flat_map (operations_named is) (port_names p) in
    let differ : texts_differ (texts_of os) ≡ true =
    ap texts_differ (mapped_each (λ (o : Operation). o.name.text) (operations_named is) (port_names p) ∙ sym (brought_texts is [] p.interfaces)) ∙ names_differ DuplicateName (brought is [] p.interfaces) e in
    ap (operations_of (map (lowered_interface types names) is)) (sym (mapped_twice (place_in (interface_names is)) (λ (n : Name). n.text) p.interfaces))
    ∙ operations_behind types names is (port_names p)
    ∙ ap (map (lowered_operation types names)) (sym (once_is os differ) ∙ ap each_once (flat_map-map (operations_named is) (λ (n : Name). n.text) p.interfaces))

-- the operations of the ports of clauses are among others from a number on
abbrev pub StandFrom : List (List ℕ) → List (List ℕ) → List Interface → List Clause → ℕ → List (List OperationPart) → Type 0
StandFrom types names is clauses n all = (j : ℕ) (os : List OperationPart) → slice_get (map (sent_to (map (lowered_interface types names) is)) (ports_of (interface_names is) clauses)) j ≡ Some os → slice_get all (n + j) ≡ Some os

-- they are so one port further
stand_further : (first : List OperationPart) (rest : List (List OperationPart)) (n : ℕ) (all : List (List OperationPart)) → ((j : ℕ) (os : List OperationPart) → slice_get (first ∷ rest) j ≡ Some os → slice_get all (n + j) ≡ Some os)
    → (j : ℕ) (os : List OperationPart) → slice_get rest j ≡ Some os → slice_get all (suc n + j) ≡ Some os
stand_further first rest n all stand j os there = let same : n + suc j ≡ suc n + j = omega arith in subst (λ k. slice_get all k ≡ Some os) same (stand (suc j) os there)

-- an output to a port that may be there
abbrev pub output_of : Option (List Operation) → Name → Name → Bool → List Refusal
output_of o operation port answers = elim o as (λ _. List Refusal) [ None ↦ refused UnknownPort (port.at ∷ []) | Some os ↦ used os operation answers ]

-- whether the operation of a name is among those of the port of a number
abbrev pub reaches : List (List OperationPart) → Name → Bool → NumberedPort → Bool
reaches all operation answers p = has_operation (unwrap_or (slice_get all p.number) []) (place_in p.operations operation.text) answers

output_turn : (types names : List (List ℕ)) (is : List Interface) (b : Bool) (p : Port) (all : List (List OperationPart)) (n : ℕ) (operation port : Name) (answers : Bool) (found : Option (List Operation)) (rest : NumberedPort)
    → slice_get all n ≡ Some (map (lowered_operation types names) (port_operations is p)) → output_of (if b then Some (port_operations is p) else found) operation port answers ≡ []
    → (output_of found operation port answers ≡ [] → reaches all operation answers rest ≡ true)
    → reaches all operation answers (if b then record { name = p.name.text; number = n; operations = texts_of (port_operations is p) } else rest) ≡ true
output_turn types names is true p all n operation port answers found rest there e further =
    ap (λ o. has_operation (unwrap_or o []) (place_in (texts_of (port_operations is p)) operation.text) answers) there ∙ operation_used types names (port_operations is p) operation answers e
output_turn types names is false p all n operation port answers found rest there e further = further e

-- an output to a port of a service without a refusal reaches an operation
pub output_reaches : (types names : List (List ℕ)) (is : List Interface) (clauses : List Clause) (n : ℕ) (all : List (List OperationPart)) (none : NumberedPort) (operation port : Name) (answers : Bool)
    → flat_map (operations_repeated is) (filter_map output_port_in clauses) ≡ [] → StandFrom types names is clauses n all
    → output_of (outlet_named (map (outlet is) (filter_map output_port_in clauses)) port.text) operation port answers ≡ []
    → reaches all operation answers (port_among (numbered_from is n (filter_map port_in clauses)) none port.text) ≡ true
output_reaches types names is [] n all none operation port answers once stand e = cc
output_reaches types names is (clause.OutputPort p ∷ clauses) n all none operation port answers once stand e =
    let here : n + 0 ≡ n = omega arith in
    let mine : operations_repeated is p ≡ [] = left_empty (operations_repeated is p) (flat_map (operations_repeated is) (filter_map output_port_in clauses)) once in
    let rest : List PortPart = ports_of (interface_names is) clauses in
    let first : List OperationPart = formed_ports.port_operations (map (lowered_interface types names) is) (record { name = p.name.text; input = false; location = p.location.text; interfaces = map (λ (n : Name). place_in (interface_names is) n.text) p.interfaces }) in
    output_turn types names is (bytes_eq p.name.text port.text) p all n operation port answers (outlet_named (map (outlet is) (filter_map output_port_in clauses)) port.text) (port_among (numbered_from is (suc n) (filter_map port_in clauses)) none port.text)
    (subst (λ k. slice_get all k ≡ Some first) here (stand 0 first refl) ∙ ap Some (sent_operations types names is p mine)) e
    (λ h. output_reaches types names is clauses (suc n) all none operation port answers (right_empty (operations_repeated is p) (flat_map (operations_repeated is) (filter_map output_port_in clauses)) once)
    (stand_further first (map (sent_to (map (lowered_interface types names) is)) rest) n all stand) h)
output_reaches types names is (clause.InputPort p ∷ clauses) n all none operation port answers once stand e =
    output_reaches types names is clauses (suc n) all none operation port answers once (stand_further [] (map (sent_to (map (lowered_interface types names) is)) (ports_of (interface_names is) clauses)) n all stand) e
output_reaches types names is (clause.Execution at execution ∷ clauses) n all none operation port answers once stand e = output_reaches types names is clauses n all none operation port answers once stand e
output_reaches types names is (clause.CorrelationSet at variables ∷ clauses) n all none operation port answers once stand e = output_reaches types names is clauses n all none operation port answers once stand e
output_reaches types names is (clause.Init at body ∷ clauses) n all none operation port answers once stand e = output_reaches types names is clauses n all none operation port answers once stand e
output_reaches types names is (clause.Main at body ∷ clauses) n all none operation port answers once stand e = output_reaches types names is clauses n all none operation port answers once stand e
