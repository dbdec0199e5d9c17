use Rattle.std.proofs.Common.{map, take}
use Rattle.behaviour_tree.specs.PartsView.{parts_of, service_view}
use Rattle.office_plain.proofs.Singles.{first_singles, next_unborn, opens_none, service_turn, services_end}
use Rattle.office_plain.proofs.kept.Kept.open_singles.Goals as goal

pub loop-number-init : goal.loop-number-init
loop-number-init c = opens_none (parts_of c.args.program.now) _ c.requires.empty

pub open_single-requires-clause-unborn : goal.open_single-requires-clause-unborn
open_single-requires-clause-unborn c =
    next_unborn (parts_of c.args.program.now)
    (first_singles (map service_view (take c.loop-number.number c.args.services.now)))
    _ _ c.loop-number.invariant

pub loop-number-preserved : goal.loop-number-preserved
loop-number-preserved c =
    service_turn (parts_of c.args.program.now) c.args.services.now c.loop-number.number c.index-services-number.result _ _ _
    c.loop-number-test.true c.index-services-number.is c.loop-number.invariant
    c.in_ok-open_single.ensures.none c.in_ok-open_single.ensures.one

pub returns : goal.returns
returns c =
    services_end (parts_of c.args.program.now) c.args.services.now c.loop-number.number _ _ c.loop-number-test.false
    c.loop-number.invariant
