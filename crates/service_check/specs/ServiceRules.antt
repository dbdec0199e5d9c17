-- What is refused of a service.
use Rattle.std.specs.Prelude.{ℕ, Bool, false, not, ◌&&◌, List, [], ◌++◌, map, flat_map, Option, None, Some}
use Rattle.std.specs.Prelude.{drop, is_some, option_and_then}
use Rattle.std.specs.Option.{option_map_or}
use Rattle.std.specs.List.{filter_map, list_any}
use Rattle.jolie_ast.specs.declared.name.Name.{Name}
use Rattle.jolie_ast.specs.declared.types.TypeDefinition.{TypeDefinition}
use Rattle.jolie_ast.specs.declared.interface.TypeName.{TypeName}
use Rattle.jolie_ast.specs.declared.interface.TypeName.TheVariants as type_name
use Rattle.jolie_ast.specs.declared.interface.Interface.{Interface}
use Rattle.jolie_ast.specs.declared.service.Clause.{Clause}
use Rattle.jolie_ast.specs.declared.service.Clause.TheVariants as clause
use Rattle.jolie_ast.specs.declared.service.Service.{Service}
use Rattle.jolie_ast.specs.declared.process.Block.{Block}
use Rattle.behaviour_tree.specs.Distinct.{is_in}
use Rattle.check_base.specs.declared.refusal.CheckName.TheVariants.{DuplicateName, Uncorrelated, NoStart}
use Rattle.check_base.specs.declared.refusal.Refusal.{Refusal}
use Rattle.check_base.specs.Least.{refused, refused_if}
use Rattle.check_base.specs.Files.{Operation, input_operations, sets_of, execution_of, is_concurrent, first_there}
use Rattle.check_base.specs.Files.{main_in}
use Rattle.check_ports.specs.PortRules.{ports_refused}
use Rattle.check_ports.specs.SetRules.{types_in_sets, sets_refused}
use Rattle.check_processes.specs.Surroundings.{Surroundings, surroundings}
use Rattle.check_processes.specs.ProcessRules.{block_refused}
use Rattle.check_processes.specs.FirstInputs.{first_input}
use Rattle.check_processes.specs.InitRules.{init_refused}

-- ---- clauses

-- the place of a clause that says how sessions are run
abbrev pub execution_place : Clause → Option ℕ
execution_place (clause.Execution at execution) = Some at
execution_place _ = None

-- the place of an init
abbrev pub init_place : Clause → Option ℕ
init_place (clause.Init at body) = Some at
init_place _ = None

-- the place of a main
abbrev pub main_place : Clause → Option ℕ
main_place (clause.Main at body) = Some at
main_place _ = None

-- a second clause of a kind that may stand once
abbrev pub second : (Clause → Option ℕ) → Service → List Refusal
second place s = refused DuplicateName (drop 1 (filter_map place s.clauses))

-- ---- a service

-- what is refused of the processes of a clause
abbrev pub clause_refused : Surroundings → Clause → List Refusal
clause_refused e (clause.Init at body) = block_refused e body false ++ init_refused body
clause_refused e (clause.Main at body) = block_refused e body false
clause_refused e _ = []

-- the main of a service, which is its first
abbrev pub main_of : Service → Option Block
main_of s = first_there (filter_map main_in s.clauses)

-- the operations that start a session: those of main's first input
abbrev pub starting : Service → Option (List Name)
starting s = option_and_then first_input (main_of s)

-- the names of operations that may be there
abbrev pub names_if_there : Option (List Name) → List (List ℕ)
names_if_there names = option_map_or (map (λ (n : Name). n.text)) names []

-- a type that is in one of these by its name
abbrev pub is_among : List (List ℕ) → TypeName → Bool
is_among types (type_name.Named n) = is_in n.text types
is_among types _ = false

-- an input operation that starts nothing and whose request is in no set
abbrev pub is_lost : List (List ℕ) → List (List ℕ) → Operation → Bool
is_lost starts types o = not (is_in o.name.text starts) && not (is_among types o.request)

-- a service whose sessions run beside each other, with an operation that reaches none, at its word
abbrev pub uncorrelated : List Interface → Service → List Refusal
uncorrelated interfaces s =
    refused_if
    (is_concurrent (execution_of s)
    && list_any (is_lost (names_if_there (starting s)) (types_in_sets (sets_of s)))
    (input_operations interfaces s)) Uncorrelated s.at

-- a service without main, and one whose sessions run beside each other and whose main has no first input, at its word
abbrev pub no_start : Service → List Refusal
no_start s =
    refused_if (not (is_some (main_of s))) NoStart s.at
    ++ refused_if (is_concurrent (execution_of s) && not (is_some (starting s))) NoStart s.at

-- what is refused of a service of a file with these types, interfaces and input locations
abbrev pub service_refused : List TypeDefinition → List Interface → List (List ℕ) → Service → List Refusal
service_refused types interfaces locations s =
    second execution_place s ++ second init_place s ++ second main_place s
    ++ ports_refused interfaces locations s ++ sets_refused types s
    ++ flat_map (clause_refused (surroundings interfaces s)) s.clauses
    ++ uncorrelated interfaces s ++ no_start s
