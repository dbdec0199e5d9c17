-- How much the sink took.
use Rattle.std.proofs.Common.{refl}
use Rattle.outside_writing.proofs.writing.write_cut.Goals as goal

pub returns : goal.returns
returns g c = (c.write_all-count.result, c.write_all-count.ensures, refl)
