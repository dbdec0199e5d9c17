-- What well-formed services are.
use Rattle.std.specs.Prelude.{ℕ, suc, ◌+◌, Bool, true, false, not, ◌&&◌, ◌||◌, nat_le, codes, if◌then◌else◌}
use Rattle.std.specs.Prelude.{List, [], ◌∷◌, ◌++◌, length, map, flat_map, Option, None, Some, is_some, unwrap_or}
use Rattle.std.specs.List.{list_all}
use Rattle.behaviour_tree.specs.declared.types.RootKind.TheVariants as kind
use Rattle.behaviour_tree.specs.Data.{TypeTree, plain, named, undefined, no_type_fields, Proc, nothing, assign}
use Rattle.behaviour_tree.specs.Data.{copy, sequence, choice, install, scope, block, Procs, no_procs, proc}
use Rattle.behaviour_tree.specs.Data.{OperationPart, InterfacePart, PortPart, SetPart, ServicePart, ProgramParts}
use Rattle.behaviour_tree.specs.Operations.{is_among, service_operations}
use Rattle.behaviour_tree.specs.Distinct.{texts_differ}
use Rattle.behaviour_tree.specs.FormedPorts.{operation_names, port_operations, is_port}
use Rattle.behaviour_tree.specs.FormedSets.{set_types, variables_of, is_concurrent, are_sets}
use Rattle.behaviour_tree.specs.FormedBehaviours.{Reach, branch_operations, is_behaviour, parallel_members}

abbrev mutual
  -- an assignment or a copy, or several: a sequence counts as its members
  pub assigns_alone : Proc → Bool
  assigns_alone (assign p e) = true
  assigns_alone (copy p e) = true
  assigns_alone (sequence ps) = all_assign_alone ps
  assigns_alone p = false

  -- each of these
  pub all_assign_alone : Procs → Bool
  all_assign_alone no_procs = true
  all_assign_alone (proc p ps) = assigns_alone p && all_assign_alone ps

-- what a service may do before main: nothing, an assignment, or several
abbrev pub is_init : Proc → Bool
is_init nothing = true
is_init p = assigns_alone p

abbrev mutual
  -- the operations of the first input of a behaviour, where it has one: a choice is its own, a sequence has that of its
  -- first member that is no install, a scope and a block have that of what they hold
  pub first_input : Proc → Option (List ℕ)
  first_input (choice branches) = Some (branch_operations branches)
  first_input (sequence ps) = first_of_members ps
  first_input (scope q p) = first_input p
  first_input (block p) = first_input p
  first_input p = None

  -- that of the first that is no install
  pub first_of_members : Procs → Option (List ℕ)
  first_of_members no_procs = None
  first_of_members (proc p ps) = if is_install p then first_of_members ps else first_input p

  -- an install
  pub is_install : Proc → Bool
  is_install (install list) = true
  is_install p = false

-- a request of a type of a set
abbrev pub is_correlated : List SetPart → TypeTree → Bool
is_correlated sets (named t) = is_among (flat_map set_types sets) t
is_correlated sets (plain k fields) = false
is_correlated sets undefined = false

-- each operation starts a session or has a request of a type of a set
abbrev pub all_reach : List SetPart → List ℕ → ℕ → List OperationPart → Bool
all_reach sets starting n [] = true
all_reach sets starting n (o ∷ os) =
    (is_among starting n || is_correlated sets o.request) && all_reach sets starting (suc n) os

-- a service whose sessions run beside each other has a first input, and each of its operations reaches a session
abbrev pub has_start : List OperationPart → ServicePart → Bool
has_start inputs s =
    not (is_concurrent s.execution)
    || (is_some (first_input s.main) && all_reach s.sets (unwrap_or (first_input s.main) []) 0 inputs)

-- the operation of the port that every service has
abbrev pub println : OperationPart
println = record {
  name = codes "println";
  request = plain kind.Any no_type_fields;
  response = Some (plain kind.Void no_type_fields);
  throws = [];
}

-- the operations that can be sent to a port: none of an input port
abbrev pub sent_to : List InterfacePart → PortPart → List OperationPart
sent_to interfaces port = if port.input then [] else port_operations interfaces port

-- what the behaviours of a service may name
abbrev pub reach_of : ProgramParts → ServicePart → Reach
reach_of parts s = record {
  inputs = service_operations parts s;
  outputs = map (sent_to parts.interfaces) s.ports ++ (println ∷ []) ∷ [];
  variables = length (variables_of s.sets);
  names = length parts.names;
}

-- the ports of a service: their names differ, and so do the names of the operations of its input ports
abbrev pub are_ports : ProgramParts → List (List ℕ) → ServicePart → Bool
are_ports parts locations s =
    texts_differ (map (λ (p : PortPart). p.name) s.ports) && list_all (is_port parts.interfaces locations) s.ports
    && texts_differ (operation_names (service_operations parts s))

-- the behaviours of a service; neither stands in a handler
abbrev pub runs_well : ProgramParts → ServicePart → Bool
runs_well parts s =
    is_init s.init && is_behaviour (reach_of parts s) false s.init && is_behaviour (reach_of parts s) false s.main

-- the parallels of a service, those in its handlers included, have few enough members in all
abbrev pub has_few_members : ServicePart → Bool
has_few_members s = nat_le (parallel_members s.init + parallel_members s.main) 1048576

-- a service
abbrev pub is_service : ProgramParts → List (List ℕ) → ServicePart → Bool
is_service parts locations s =
    are_ports parts locations s && are_sets parts.types s && runs_well parts s
    && has_start (service_operations parts s) s && has_few_members s
