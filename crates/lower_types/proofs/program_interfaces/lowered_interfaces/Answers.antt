use Rattle.std.proofs.Common.{rules, map}
use Rattle.behaviour_tree.specs.PartsView.{interface_view}
use Rattle.check_base.specs.Files.{interface_in}
use Rattle.lower_types.specs.LoweredInterfaces.{lowered_interface}
use Rattle.check_base.proofs.Loops.{gathering_turn, gathered}
use Rattle.lower_types.proofs.program_interfaces.lowered_interfaces.Goals as goal

pub loop-definition-preserved : goal.loop-definition-preserved
loop-definition-preserved c =
    gathering_turn (lowered_interface c.args.types.now c.args.names.now) interface_in _ _ _ _ _ c.loop-definition-test.true c.definition-item.is c.loop-definition.invariant c.in_ok-add_interface.ensures

pub returns : goal.returns
returns c = gathered (lowered_interface c.args.types.now c.args.names.now) interface_in (map interface_view c.loop-definition.lowered.items) c.args.file.now c.loop-definition.definition-index c.loop-definition.invariant (search rules)
