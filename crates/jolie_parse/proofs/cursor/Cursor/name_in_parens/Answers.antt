use Rattle.std.proofs.Common.{◌-◌, refl}
use Rattle.jolie_parse.specs.ClassNames as classes
use Rattle.jolie_parse.specs.Syntax as syntax
use Rattle.jolie_parse.specs.Grammar.{name, id}
use Rattle.jolie_parse.proofs.Inside.{between_reads}
use Rattle.jolie_parse.proofs.cursor.Cursor.name_in_parens.Goals as goal

pub returns : goal.returns
unfolding name id
returns c =
    between_reads classes.sign_open_paren syntax.a_name classes.sign_close_paren c.args.levels (c.args.levels - 1) c.args.self.now _ _ _ _ c.name-part.result c.closed.result c.in_ok-open.ensures.opened refl c.in_ok-open.ensures.reads c.name-part.ensures c.closed.ensures
