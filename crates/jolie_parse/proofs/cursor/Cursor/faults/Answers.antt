use Rattle.std.proofs.Common.{refl}
use Rattle.jolie_parse.specs.Grammar as spec
use Rattle.jolie_parse.specs.Grammar.{fault, type_named, id}
use Rattle.jolie_parse.proofs.Lists.{passes, first_stops, list_begun, turn_fails, turn_goes, turns_end, turn_shorter}
use Rattle.jolie_parse.proofs.cursor.Cursor.faults.Goals as goal

pub returns-in_err-first : goal.returns-in_err-first
returns-in_err-first c =
    passes _ c.from_residual.result c.in_err-first.field-0.0 _ c.from_residual.ensures.1
    (first_stops c.args.levels spec.fault spec.fault _ _ _ c.in_err-first.ensures)

pub loop-faults-init : goal.loop-faults-init
loop-faults-init c = list_begun c.args.levels spec.fault spec.fault _ _ _ _ c.in_ok-first.ensures c.in_ok-faults.ensures

pub returns-in_err-fault : goal.returns-in_err-fault
unfolding fault type_named id
returns-in_err-fault c =
    passes _ c.from_residual-in_err-fault.result c.in_err-fault.field-0.0 _ c.from_residual-in_err-fault.ensures.1
    (turn_fails c.args.levels spec.fault refl _ _ _ _ _ _ c.loop-faults.invariant c.sees.ensures c.loop-faults-test.true c.in_err-fault.ensures)

pub loop-faults-smaller : goal.loop-faults-smaller
unfolding fault type_named id
loop-faults-smaller c = turn_shorter c.args.levels spec.fault refl _ _ _ c.in_ok-fault.ensures

pub loop-faults-preserved : goal.loop-faults-preserved
unfolding fault type_named id
loop-faults-preserved c =
    turn_goes c.args.levels spec.fault refl _ _ _ _ _ _ _ c.loop-faults.invariant c.sees.ensures c.loop-faults-test.true c.in_ok-fault.ensures c.in_ok-push.ensures.ok

pub returns : goal.returns
unfolding fault type_named id
returns c = turns_end c.args.levels spec.fault refl _ _ _ _ c.loop-faults.invariant c.sees.ensures c.loop-faults-test.false
