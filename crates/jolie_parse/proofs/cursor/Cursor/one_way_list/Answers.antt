use Rattle.std.proofs.Common.{refl}
use Rattle.jolie_parse.specs.ClassNames as classes
use Rattle.jolie_parse.specs.Grammar as spec
use Rattle.jolie_parse.specs.Grammar.{one_way, type_named, id}
use Rattle.jolie_parse.specs.Syntax.{behind}
use Rattle.jolie_parse.proofs.Lists.{passes, first_stops, list_begun, next_fails, next_shorter, next_goes, nexts_end}
use Rattle.jolie_parse.proofs.cursor.Cursor.one_way_list.Goals as goal

pub returns-in_err-first : goal.returns-in_err-first
returns-in_err-first c =
    passes _ c.from_residual.result c.in_err-first.field-0.0 _ c.from_residual.ensures.1
    (first_stops c.args.levels spec.one_way (behind classes.sign_comma spec.one_way) _ _ _ c.in_err-first.ensures)

pub loop-operations-init : goal.loop-operations-init
loop-operations-init c = list_begun c.args.levels spec.one_way (behind classes.sign_comma spec.one_way) _ _ _ _ c.in_ok-first.ensures c.in_ok-operations.ensures

pub returns-in_err-one_way : goal.returns-in_err-one_way
unfolding one_way type_named id
returns-in_err-one_way c =
    passes _ c.from_residual-in_err-one_way.result c.in_err-one_way.field-0.0 _ c.from_residual-in_err-one_way.ensures.1
    (next_fails c.args.levels classes.sign_comma spec.one_way refl _ _ _ _ _ _ _ c.loop-operations.invariant c.eat.ensures.found c.eat.ensures.rest c.loop-operations-test.true c.in_err-one_way.ensures)

pub loop-operations-smaller : goal.loop-operations-smaller
unfolding one_way type_named id
loop-operations-smaller c = next_shorter c.args.levels classes.sign_comma spec.one_way refl _ _ _ _ _ c.eat.ensures.found c.eat.ensures.rest c.loop-operations-test.true c.in_ok-one_way.ensures

pub loop-operations-preserved : goal.loop-operations-preserved
unfolding one_way type_named id
loop-operations-preserved c =
    next_goes c.args.levels classes.sign_comma spec.one_way refl _ _ _ _ _ _ _ _ c.loop-operations.invariant c.eat.ensures.found c.eat.ensures.rest c.loop-operations-test.true c.in_ok-one_way.ensures c.in_ok-push.ensures.ok

pub returns : goal.returns
unfolding one_way type_named id
returns c = nexts_end c.args.levels classes.sign_comma spec.one_way refl _ _ _ _ _ c.loop-operations.invariant c.eat.ensures.found c.eat.ensures.rest c.loop-operations-test.false
