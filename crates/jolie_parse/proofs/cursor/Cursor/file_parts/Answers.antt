use Rattle.std.proofs.Common.{◌-◌}
use Rattle.jolie_parse.specs.Grammar as spec
use Rattle.jolie_parse.specs.Grammar.{file, file_part, type_definition, interface, service}
use Rattle.jolie_parse.proofs.Lists.{passes, turn_fails, turn_goes, turns_end, turn_shorter}
use Rattle.jolie_parse.proofs.OneToken.{file_decided}
use Rattle.jolie_parse.proofs.cursor.Cursor.file_parts.Goals as goal

pub returns-in_err-file_part : goal.returns-in_err-file_part
unfolding file file_part type_definition interface service
returns-in_err-file_part c =
    passes _ c.from_residual.result c.in_err-file_part.field-0.0 _ c.from_residual.ensures.1
    (turn_fails c.args.levels spec.file_part file_decided _ _ _ _ _ _ c.loop-parts.invariant c.sees.ensures c.loop-parts-test.true c.in_err-file_part.ensures)

pub loop-parts-smaller : goal.loop-parts-smaller
unfolding file file_part type_definition interface service
loop-parts-smaller c = turn_shorter c.args.levels spec.file_part file_decided _ _ _ c.in_ok-file_part.ensures

pub loop-parts-preserved : goal.loop-parts-preserved
unfolding file file_part type_definition interface service
loop-parts-preserved c =
    turn_goes c.args.levels spec.file_part file_decided _ _ _ _ _ _ _ c.loop-parts.invariant c.sees.ensures c.loop-parts-test.true c.in_ok-file_part.ensures c.in_ok-push.ensures.ok

pub returns : goal.returns
unfolding file file_part type_definition interface service
returns c = turns_end c.args.levels spec.file_part file_decided _ _ _ _ c.loop-parts.invariant c.sees.ensures c.loop-parts-test.false
