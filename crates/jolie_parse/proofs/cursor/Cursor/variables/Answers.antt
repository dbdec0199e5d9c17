use Rattle.std.proofs.Common.{refl}
use Rattle.jolie_parse.specs.ClassNames as classes
use Rattle.jolie_parse.specs.Grammar as spec
use Rattle.jolie_parse.specs.Grammar.{variable, alias, id, word}
use Rattle.jolie_parse.specs.Syntax.{behind}
use Rattle.jolie_parse.proofs.Lists.{passes, first_stops, list_begun, next_fails, next_shorter, next_goes, nexts_end}
use Rattle.jolie_parse.proofs.cursor.Cursor.variables.Goals as goal

pub returns-in_err-first : goal.returns-in_err-first
returns-in_err-first c =
    passes _ c.from_residual.result c.in_err-first.field-0.0 _ c.from_residual.ensures.1
    (first_stops 0 spec.variable (behind classes.sign_comma spec.variable) _ _ _ c.in_err-first.ensures)

pub loop-variables-init : goal.loop-variables-init
loop-variables-init c = list_begun 0 spec.variable (behind classes.sign_comma spec.variable) _ _ _ _ c.in_ok-first.ensures c.in_ok-variables.ensures

pub returns-in_err-variable : goal.returns-in_err-variable
unfolding variable alias id word
returns-in_err-variable c =
    passes _ c.from_residual-in_err-variable.result c.in_err-variable.field-0.0 _ c.from_residual-in_err-variable.ensures.1
    (next_fails 0 classes.sign_comma spec.variable refl _ _ _ _ _ _ _ c.loop-variables.invariant c.eat.ensures.found c.eat.ensures.rest c.loop-variables-test.true c.in_err-variable.ensures)

pub loop-variables-smaller : goal.loop-variables-smaller
unfolding variable alias id word
loop-variables-smaller c = next_shorter 0 classes.sign_comma spec.variable refl _ _ _ _ _ c.eat.ensures.found c.eat.ensures.rest c.loop-variables-test.true c.in_ok-variable.ensures

pub loop-variables-preserved : goal.loop-variables-preserved
unfolding variable alias id word
loop-variables-preserved c =
    next_goes 0 classes.sign_comma spec.variable refl _ _ _ _ _ _ _ _ c.loop-variables.invariant c.eat.ensures.found c.eat.ensures.rest c.loop-variables-test.true c.in_ok-variable.ensures c.in_ok-push.ensures.ok

pub returns : goal.returns
unfolding variable alias id word
returns c = nexts_end 0 classes.sign_comma spec.variable refl _ _ _ _ _ c.loop-variables.invariant c.eat.ensures.found c.eat.ensures.rest c.loop-variables-test.false
