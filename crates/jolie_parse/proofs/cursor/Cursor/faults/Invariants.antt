use Rattle.std.proofs.Common.{◌≡◌, length}
use Rattle.jolie_parse.specs.Grammar as spec
use Rattle.jolie_parse.specs.Syntax.{some_of}
use Rattle.jolie_parse.specs.Reading.{read}
use Rattle.jolie_parse.specs.Reads.{more}
use Rattle.jolie_parse.proofs.cursor.Cursor.faults.Given as goal

abbrev pub invariant-loop-faults : goal.invariant-loop-faults
invariant-loop-faults l = read l.levels (some_of spec.fault) l.fn.self ≡ more l.levels spec.fault l.faults l.self

abbrev pub decreases-loop-faults : goal.decreases-loop-faults
decreases-loop-faults l = length l.self
