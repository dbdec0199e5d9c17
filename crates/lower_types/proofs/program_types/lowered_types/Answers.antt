use Rattle.std.proofs.Common.{rules, map}
use Rattle.behaviour_tree.specs.View.{type_view}
use Rattle.check_base.specs.Files.{type_in}
use Rattle.lower_types.specs.LoweredTypes.{lowered_definition}
use Rattle.check_base.proofs.Loops.{gathering_turn, gathered}
use Rattle.lower_types.proofs.program_types.lowered_types.Goals as goal

pub loop-definition-preserved : goal.loop-definition-preserved
loop-definition-preserved c =
    gathering_turn (lowered_definition c.args.types.now) type_in _ _ _ _ _ c.loop-definition-test.true c.definition-item.is c.loop-definition.invariant c.in_ok-add_type.ensures

pub returns : goal.returns
returns c = gathered (lowered_definition c.args.types.now) type_in (map type_view c.loop-definition.lowered.items) c.args.file.now c.loop-definition.definition-index c.loop-definition.invariant (search rules)
