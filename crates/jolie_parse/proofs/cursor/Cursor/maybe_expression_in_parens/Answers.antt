use Rattle.std.proofs.Common.{◌-◌, refl}
use Rattle.jolie_parse.specs.ClassNames as classes
use Rattle.jolie_parse.specs.Syntax as syntax
use Rattle.jolie_parse.proofs.Inside.{between_reads}
use Rattle.jolie_parse.proofs.cursor.Cursor.maybe_expression_in_parens.Goals as goal

pub returns : goal.returns
returns c =
    between_reads classes.sign_open_paren syntax.maybe_expression classes.sign_close_paren c.args.levels (c.args.levels - 1) c.args.self.now _ _ _ _ c.maybe_expression-part.result c.closed.result c.in_ok-open.ensures.opened refl c.in_ok-open.ensures.reads c.maybe_expression-part.ensures c.closed.ensures
