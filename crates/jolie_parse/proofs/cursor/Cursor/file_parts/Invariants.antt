use Rattle.std.proofs.Common.{◌≡◌, length, []}
use Rattle.jolie_parse.specs.Grammar as spec
use Rattle.jolie_parse.specs.Reads.{more}
use Rattle.jolie_parse.proofs.cursor.Cursor.file_parts.Given as goal

abbrev pub invariant-loop-parts : goal.invariant-loop-parts
invariant-loop-parts l = more l.levels spec.file_part [] l.fn.self ≡ more l.levels spec.file_part l.parts l.self

abbrev pub decreases-loop-parts : goal.decreases-loop-parts
decreases-loop-parts l = length l.self
