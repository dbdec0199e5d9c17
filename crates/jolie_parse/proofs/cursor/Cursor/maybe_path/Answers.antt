use Rattle.jolie_parse.specs.Grammar.{path, id}
use Rattle.jolie_parse.proofs.Lists.{passes, optional_none, optional_stops, optional_read}
use Rattle.jolie_parse.proofs.cursor.Cursor.maybe_path.Goals as goal

pub returns-then-not-sees : goal.returns-then-not-sees
unfolding path id
returns-then-not-sees c = optional_none c.args.levels path c.args.self.now _ c.sees.ensures c.if-not-sees.true

pub returns-in_err-path : goal.returns-in_err-path
unfolding path id
returns-in_err-path c =
    passes _ c.from_residual.result c.in_err-path.field-0.0 _ c.from_residual.ensures.1
    (optional_stops c.args.levels path c.args.self.now _ _ _ c.sees.ensures c.if-not-sees.false c.in_err-path.ensures)

pub returns : goal.returns
unfolding path id
returns c = optional_read c.args.levels path c.args.self.now _ _ _ c.sees.ensures c.if-not-sees.false c.in_ok-path.ensures
