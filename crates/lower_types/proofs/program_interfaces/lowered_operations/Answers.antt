use Rattle.std.proofs.Common.{rules, [], map, flat_map, ap, sym, ◌∙◌}
use Rattle.std.proofs.lemmas.List.{take_all}
use Rattle.check_base.specs.Files.{group_operations}
use Rattle.lower_types.specs.LoweredInterfaces.{lowered_operation}
use Rattle.check_base.proofs.Loops.{adding_turn, mapped_each}
use Rattle.lower_types.proofs.program_interfaces.lowered_operations.Goals as goal

pub loop-group-preserved : goal.loop-group-preserved
loop-group-preserved c =
    adding_turn (λ g. map (lowered_operation c.args.types.now c.args.names.now) (group_operations g)) [] _ _ _ _ _ c.loop-group-test.true c.group-item.is c.loop-group.invariant c.in_ok-add_group.ensures

pub returns : goal.returns
returns c =
    c.loop-group.invariant
    ∙ ap (flat_map (λ g. map (lowered_operation c.args.types.now c.args.names.now) (group_operations g))) (take_all c.loop-group.group-index c.args.groups.now (search rules))
    ∙ sym (mapped_each (lowered_operation c.args.types.now c.args.names.now) group_operations c.args.groups.now)
