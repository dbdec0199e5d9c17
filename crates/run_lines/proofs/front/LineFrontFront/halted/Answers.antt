-- It halted as it says.
use Rattle.std.proofs.Common.{sym}
use Rattle.run_lines.proofs.front.LineFrontFront.halted.Goals as goal

pub returns : goal.returns
returns g c = λ parts first now h. sym h.5.sent.halted
