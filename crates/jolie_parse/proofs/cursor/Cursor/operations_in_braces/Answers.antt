use Rattle.std.proofs.Common.{◌-◌, refl}
use Rattle.jolie_parse.specs.ClassNames as classes
use Rattle.jolie_parse.specs.Syntax as syntax
use Rattle.jolie_parse.proofs.Inside.{between_reads}
use Rattle.jolie_parse.proofs.Steps.{none_read}
use Rattle.jolie_parse.proofs.cursor.Cursor.operations_in_braces.Goals as goal

pub returns : goal.returns
returns c =
    between_reads classes.sign_open_brace syntax.some_operations classes.sign_close_brace c.args.levels (c.args.levels - 1) c.args.self.now _ _ _ _ _ _ c.in_ok-open.ensures.opened refl c.in_ok-open.ensures.reads (rw none_read at c.operation_groups-part.ensures) c.closed.ensures
