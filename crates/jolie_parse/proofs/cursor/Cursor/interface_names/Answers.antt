use Rattle.std.proofs.Common.{refl}
use Rattle.jolie_parse.specs.ClassNames as classes
use Rattle.jolie_parse.specs.Grammar as spec
use Rattle.jolie_parse.specs.Grammar.{name, id}
use Rattle.jolie_parse.specs.Syntax.{behind}
use Rattle.jolie_parse.proofs.Lists.{passes, first_stops, list_begun, next_fails, next_shorter, next_goes, nexts_end}
use Rattle.jolie_parse.proofs.cursor.Cursor.interface_names.Goals as goal

pub returns-in_err-first : goal.returns-in_err-first
returns-in_err-first c =
    passes _ c.from_residual.result c.in_err-first.field-0.0 _ c.from_residual.ensures.1
    (first_stops 0 spec.name (behind classes.sign_comma spec.name) _ _ _ c.in_err-first.ensures)

pub loop-names-init : goal.loop-names-init
loop-names-init c = list_begun 0 spec.name (behind classes.sign_comma spec.name) _ _ _ _ c.in_ok-first.ensures c.in_ok-names.ensures

pub returns-in_err-name : goal.returns-in_err-name
unfolding name id
returns-in_err-name c =
    passes _ c.from_residual-in_err-name.result c.in_err-name.field-0.0 _ c.from_residual-in_err-name.ensures.1
    (next_fails 0 classes.sign_comma spec.name refl _ _ _ _ _ _ _ c.loop-names.invariant c.eat.ensures.found c.eat.ensures.rest c.loop-names-test.true c.in_err-name.ensures)

pub loop-names-smaller : goal.loop-names-smaller
unfolding name id
loop-names-smaller c = next_shorter 0 classes.sign_comma spec.name refl _ _ _ _ _ c.eat.ensures.found c.eat.ensures.rest c.loop-names-test.true c.in_ok-name.ensures

pub loop-names-preserved : goal.loop-names-preserved
unfolding name id
loop-names-preserved c =
    next_goes 0 classes.sign_comma spec.name refl _ _ _ _ _ _ _ _ c.loop-names.invariant c.eat.ensures.found c.eat.ensures.rest c.loop-names-test.true c.in_ok-name.ensures c.in_ok-push.ensures.ok

pub returns : goal.returns
unfolding name id
returns c = nexts_end 0 classes.sign_comma spec.name refl _ _ _ _ _ c.loop-names.invariant c.eat.ensures.found c.eat.ensures.rest c.loop-names-test.false
