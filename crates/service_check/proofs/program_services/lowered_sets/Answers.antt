use Rattle.std.proofs.Common.{rules, map}
use Rattle.behaviour_tree.specs.PartsView.{set_view}
use Rattle.check_base.specs.Files.{set_in}
use Rattle.service_check.specs.Programs.{lowered_set}
use Rattle.check_base.proofs.Loops.{gathering_turn, gathered}
use Rattle.service_check.proofs.program_services.lowered_sets.Goals as goal

pub loop-clause-preserved : goal.loop-clause-preserved
loop-clause-preserved c =
    gathering_turn (lowered_set c.args.types.now) set_in _ _ _ _ _ c.loop-clause-test.true c.clause-item.is c.loop-clause.invariant c.in_ok-add_set.ensures

pub returns : goal.returns
returns c = gathered (lowered_set c.args.types.now) set_in (map set_view c.loop-clause.lowered.items) c.args.clauses.now c.loop-clause.clause-index c.loop-clause.invariant (search rules)
