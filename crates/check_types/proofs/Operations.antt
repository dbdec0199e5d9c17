-- What is refused of operations, group by group.
use Rattle.std.proofs.Common.{◌≡◌, List, [], ◌++◌, map, ◌∙◌, flat_map, append-nil}
use Rattle.std.proofs.lemmas.List.Folds.{flat_map-map}
use Rattle.jolie_ast.specs.declared.types.TypeDefinition.{TypeDefinition}
use Rattle.jolie_ast.specs.declared.interface.RequestResponse.{RequestResponse}
use Rattle.jolie_ast.specs.declared.interface.OneWay.{OneWay}
use Rattle.jolie_ast.specs.declared.interface.OperationGroup.{OperationGroup}
use Rattle.check_base.specs.Files.{answering, silent, group_operations}
use Rattle.check_types.specs.TypeRules.{unknown_type_name}
use Rattle.check_types.specs.InterfaceRules.{operation_refused, answering_refused, silent_refused, group_refused}
use Rattle.check_base.proofs.Loops.{each_of_each}

pub each_group : (types : List TypeDefinition) (groups : List OperationGroup) → flat_map (operation_refused types) (flat_map group_operations groups) ≡ flat_map (group_refused types) groups
each_group types groups = each_of_each (operation_refused types) group_operations groups

pub each_answering : (types : List TypeDefinition) (operations : List RequestResponse) → flat_map (operation_refused types) (map answering operations) ≡ flat_map (answering_refused types) operations
each_answering types operations = flat_map-map (operation_refused types) answering operations

pub each_silent : (types : List TypeDefinition) (operations : List OneWay) → flat_map (operation_refused types) (map silent operations) ≡ flat_map (silent_refused types) operations
each_silent types operations = flat_map-map (operation_refused types) silent operations

pub silent_is : (types : List TypeDefinition) (o : OneWay) → silent_refused types o ≡ unknown_type_name types o.request
silent_is types o = append-nil (unknown_type_name types o.request ++ [] ++ []) ∙ append-nil (unknown_type_name types o.request ++ []) ∙ append-nil (unknown_type_name types o.request)
