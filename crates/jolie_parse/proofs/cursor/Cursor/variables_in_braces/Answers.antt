use Rattle.std.proofs.Common.{◌-◌, refl}
use Rattle.jolie_parse.specs.ClassNames as classes
use Rattle.jolie_parse.specs.Grammar.{variable, alias, id, word}
use Rattle.jolie_parse.specs.Syntax as syntax
use Rattle.jolie_parse.proofs.Inside.{between_reads}
use Rattle.jolie_parse.proofs.cursor.Cursor.variables_in_braces.Goals as goal

pub returns : goal.returns
unfolding variable alias id word
returns c =
    between_reads classes.sign_open_brace syntax.some_variables classes.sign_close_brace c.args.levels (c.args.levels - 1) c.args.self.now _ _ _ _ _ _ c.in_ok-open.ensures.opened refl c.in_ok-open.ensures.reads c.variables-part.ensures c.closed.ensures
