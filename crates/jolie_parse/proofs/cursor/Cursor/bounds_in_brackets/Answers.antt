use Rattle.std.proofs.Common.{◌-◌, refl}
use Rattle.jolie_parse.specs.ClassNames as classes
use Rattle.jolie_parse.specs.Grammar.{bounds}
use Rattle.jolie_parse.specs.Syntax as syntax
use Rattle.jolie_parse.proofs.Inside.{between_reads}
use Rattle.jolie_parse.proofs.cursor.Cursor.bounds_in_brackets.Goals as goal

pub returns : goal.returns
unfolding bounds
returns c =
    between_reads classes.sign_open_bracket syntax.some_bounds classes.sign_close_bracket c.args.levels (c.args.levels - 1) c.args.self.now _ _ _ _ _ _ c.in_ok-open.ensures.opened refl c.in_ok-open.ensures.reads c.bounds-part.ensures c.closed.ensures
