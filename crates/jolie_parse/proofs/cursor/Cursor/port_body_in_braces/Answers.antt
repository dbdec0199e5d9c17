use Rattle.std.proofs.Common.{◌-◌, refl}
use Rattle.jolie_parse.specs.ClassNames as classes
use Rattle.jolie_parse.specs.Grammar.{port_body, name, id}
use Rattle.jolie_parse.specs.Syntax as syntax
use Rattle.jolie_parse.proofs.Inside.{between_reads}
use Rattle.jolie_parse.proofs.cursor.Cursor.port_body_in_braces.Goals as goal

pub returns : goal.returns
unfolding port_body name id
returns c =
    between_reads classes.sign_open_brace syntax.port_parts classes.sign_close_brace c.args.levels (c.args.levels - 1) c.args.self.now _ _ _ _ _ _ c.in_ok-open.ensures.opened refl c.in_ok-open.ensures.reads c.port_body-part.ensures c.closed.ensures
