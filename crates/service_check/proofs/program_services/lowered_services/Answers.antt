use Rattle.std.proofs.Common.{rules, map}
use Rattle.behaviour_tree.specs.PartsView.{service_view}
use Rattle.check_base.specs.Files.{service_in}
use Rattle.service_check.specs.Programs.{lowered_service}
use Rattle.check_base.proofs.Loops.{gathering_turn, gathered}
use Rattle.service_check.proofs.program_services.lowered_services.Goals as goal

pub loop-definition-preserved : goal.loop-definition-preserved
loop-definition-preserved c =
    gathering_turn (lowered_service c.args.interfaces.now c.args.types.now c.args.names.now) service_in _ _ _ _ _ c.loop-definition-test.true c.definition-item.is c.loop-definition.invariant c.in_ok-add_service.ensures

pub returns : goal.returns
returns c = gathered (lowered_service c.args.interfaces.now c.args.types.now c.args.names.now) service_in (map service_view c.loop-definition.lowered.items) c.args.file.now c.loop-definition.definition-index c.loop-definition.invariant (search rules)
