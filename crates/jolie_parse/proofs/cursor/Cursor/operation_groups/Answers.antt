use Rattle.std.proofs.Common.{refl}
use Rattle.jolie_parse.specs.Grammar as spec
use Rattle.jolie_parse.specs.Grammar.{operation_group, request_responses, one_ways, request_response, one_way, throws, fault, type_named, id}
use Rattle.jolie_parse.proofs.Lists.{passes, turn_fails, turn_goes, turns_end, turn_shorter}
use Rattle.jolie_parse.proofs.cursor.Cursor.operation_groups.Goals as goal

pub returns-in_err-operation_group : goal.returns-in_err-operation_group
unfolding operation_group request_responses one_ways request_response one_way throws fault type_named id
returns-in_err-operation_group c =
    passes _ c.from_residual.result c.in_err-operation_group.field-0.0 _ c.from_residual.ensures.1
    (turn_fails c.args.levels spec.operation_group refl _ _ _ _ _ _ c.loop-groups.invariant c.sees.ensures c.loop-groups-test.true c.in_err-operation_group.ensures)

pub loop-groups-smaller : goal.loop-groups-smaller
unfolding operation_group request_responses one_ways request_response one_way throws fault type_named id
loop-groups-smaller c = turn_shorter c.args.levels spec.operation_group refl _ _ _ c.in_ok-operation_group.ensures

pub loop-groups-preserved : goal.loop-groups-preserved
unfolding operation_group request_responses one_ways request_response one_way throws fault type_named id
loop-groups-preserved c =
    turn_goes c.args.levels spec.operation_group refl _ _ _ _ _ _ _ c.loop-groups.invariant c.sees.ensures c.loop-groups-test.true c.in_ok-operation_group.ensures c.in_ok-push.ensures.ok

pub returns : goal.returns
unfolding operation_group request_responses one_ways request_response one_way throws fault type_named id
returns c = turns_end c.args.levels spec.operation_group refl _ _ _ _ c.loop-groups.invariant c.sees.ensures c.loop-groups-test.false
