-- These definitions serve the proofs alone: no promise speaks of them.
-- What the rules say of the clauses of a service, of the statements of an init and of the definitions of a file, one by
-- one.
use Rattle.std.specs.Prelude.{ℕ, ◌&&◌, ◌++◌, List, drop, Option}
use Rattle.std.specs.List.{filter_map, list_any}
use Rattle.jolie_ast.specs.declared.tree.Definition.{Definition}
use Rattle.jolie_ast.specs.declared.types.TypeDefinition.{TypeDefinition}
use Rattle.jolie_ast.specs.declared.interface.Interface.{Interface}
use Rattle.jolie_ast.specs.declared.service.Clause.{Clause}
use Rattle.jolie_ast.specs.declared.service.Service.{Service}
use Rattle.check_base.specs.declared.refusal.CheckName.TheVariants.{DuplicateName, Uncorrelated}
use Rattle.check_base.specs.declared.refusal.Refusal.{Refusal}
use Rattle.check_base.specs.Least.{refused, refused_if}
use Rattle.check_base.specs.Files.{Operation, execution_of, is_concurrent, service_in, sets_of}
use Rattle.check_base.specs.MaybeThere.{if_there}
use Rattle.check_ports.specs.SetRules.{types_in_sets}
use Rattle.service_check.specs.ServiceRules.{execution_place, init_place, is_lost, main_place, names_if_there}
use Rattle.service_check.specs.ServiceRules.{service_refused, starting}

-- all but the first
abbrev pub later : List ℕ → List ℕ
later places = drop 1 places

-- a second clause of a kind that may stand once
abbrev pub second_among : (Clause → Option ℕ) → List Clause → List Refusal
second_among place clauses = refused DuplicateName (later (filter_map place clauses))

-- a second clause that says how sessions are run, a second init, and a second main
abbrev pub seconds_among : List Clause → List Refusal
seconds_among clauses =
    second_among execution_place clauses ++ second_among init_place clauses ++ second_among main_place clauses

-- some of these input operations of a service reaches no session
abbrev pub some_lost : List Operation → Service → List Refusal
some_lost inputs s =
    refused_if
    (is_concurrent (execution_of s)
    && list_any (is_lost (names_if_there (starting s)) (types_in_sets (sets_of s))) inputs) Uncorrelated s.at

-- what is refused of a definition, if it is a service of a file with these types, interfaces and locations of input
-- ports
abbrev pub definition_refused : List TypeDefinition → List Interface → List (List ℕ) → Definition → List Refusal
definition_refused types interfaces locations d = if_there (service_refused types interfaces locations) (service_in d)
