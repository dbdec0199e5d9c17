-- What ports bring, group by group.
use Rattle.std.proofs.Common.{◌≡◌, ℕ, List, map, flat_map}
use Rattle.check_ports.specs.PortRules.{operation_at, answering_at, silent_at, group_at}
use Rattle.jolie_ast.specs.declared.interface.RequestResponse.{RequestResponse}
use Rattle.jolie_ast.specs.declared.interface.OneWay.{OneWay}
use Rattle.jolie_ast.specs.declared.interface.OperationGroup.{OperationGroup}
use Rattle.check_base.specs.Files.{answering, silent, group_operations}
use Rattle.check_base.proofs.Loops.{mapped_each, mapped_twice}

pub brought_groups : (at : ℕ) (groups : List OperationGroup) → map (operation_at at) (flat_map group_operations groups) ≡ flat_map (group_at at) groups
brought_groups at groups = mapped_each (operation_at at) group_operations groups

pub answering_brought : (at : ℕ) (operations : List RequestResponse) → map (operation_at at) (map answering operations) ≡ map (answering_at at) operations
answering_brought at operations = mapped_twice (operation_at at) answering operations

pub silent_brought : (at : ℕ) (operations : List OneWay) → map (operation_at at) (map silent operations) ≡ map (silent_at at) operations
silent_brought at operations = mapped_twice (operation_at at) silent operations
