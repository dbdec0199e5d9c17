use Rattle.std.proofs.Common.{refl}
use Rattle.jolie_parse.specs.Grammar as spec
use Rattle.jolie_parse.specs.Grammar.{alias, id, word}
use Rattle.jolie_parse.proofs.Lists.{passes, first_stops, list_begun, turn_fails, turn_goes, turns_end, turn_shorter}
use Rattle.jolie_parse.proofs.cursor.Cursor.aliases.Goals as goal

pub returns-in_err-first : goal.returns-in_err-first
returns-in_err-first c =
    passes _ c.from_residual.result c.in_err-first.field-0.0 _ c.from_residual.ensures.1
    (first_stops 0 spec.alias spec.alias _ _ _ c.in_err-first.ensures)

pub loop-aliases-init : goal.loop-aliases-init
loop-aliases-init c = list_begun 0 spec.alias spec.alias _ _ _ _ c.in_ok-first.ensures c.in_ok-aliases.ensures

pub returns-in_err-alias : goal.returns-in_err-alias
unfolding alias id word
returns-in_err-alias c =
    passes _ c.from_residual-in_err-alias.result c.in_err-alias.field-0.0 _ c.from_residual-in_err-alias.ensures.1
    (turn_fails 0 spec.alias refl _ _ _ _ _ _ c.loop-aliases.invariant c.sees.ensures c.loop-aliases-test.true c.in_err-alias.ensures)

pub loop-aliases-smaller : goal.loop-aliases-smaller
unfolding alias id word
loop-aliases-smaller c = turn_shorter 0 spec.alias refl _ _ _ c.in_ok-alias.ensures

pub loop-aliases-preserved : goal.loop-aliases-preserved
unfolding alias id word
loop-aliases-preserved c =
    turn_goes 0 spec.alias refl _ _ _ _ _ _ _ c.loop-aliases.invariant c.sees.ensures c.loop-aliases-test.true c.in_ok-alias.ensures c.in_ok-push.ensures.ok

pub returns : goal.returns
unfolding alias id word
returns c = turns_end 0 spec.alias refl _ _ _ _ c.loop-aliases.invariant c.sees.ensures c.loop-aliases-test.false
