use Rattle.std.proofs.Common.{refl}
use Rattle.jolie_parse.specs.ClassNames as classes
use Rattle.jolie_parse.specs.Grammar as spec
use Rattle.jolie_parse.specs.Grammar.{word}
use Rattle.jolie_parse.specs.Meanings as means_as
use Rattle.jolie_parse.specs.Syntax.{means, behind}
use Rattle.jolie_parse.proofs.Lists.{passes, turn_fails, turn_goes, turns_end, turn_shorter}
use Rattle.jolie_parse.proofs.cursor.Cursor.field_names.Goals as goal

pub returns-in_err-next_field_name : goal.returns-in_err-next_field_name
unfolding word
returns-in_err-next_field_name c =
    passes _ c.from_residual.result c.in_err-next_field_name.field-0.0 _ c.from_residual.ensures.1
    (turn_fails 0 (means means_as.name_of (behind classes.sign_dot spec.word)) refl _ _ _ _ _ _ c.loop-names.invariant c.sees_sign.ensures c.loop-names-test.true c.in_err-next_field_name.ensures)

pub loop-names-smaller : goal.loop-names-smaller
unfolding word
loop-names-smaller c = turn_shorter 0 (means means_as.name_of (behind classes.sign_dot spec.word)) refl _ _ _ c.in_ok-next_field_name.ensures

pub loop-names-preserved : goal.loop-names-preserved
unfolding word
loop-names-preserved c =
    turn_goes 0 (means means_as.name_of (behind classes.sign_dot spec.word)) refl _ _ _ _ _ _ _ c.loop-names.invariant c.sees_sign.ensures c.loop-names-test.true c.in_ok-next_field_name.ensures c.in_ok-push.ensures.ok

pub returns : goal.returns
unfolding word
returns c = turns_end 0 (means means_as.name_of (behind classes.sign_dot spec.word)) refl _ _ _ _ c.loop-names.invariant c.sees_sign.ensures c.loop-names-test.false
