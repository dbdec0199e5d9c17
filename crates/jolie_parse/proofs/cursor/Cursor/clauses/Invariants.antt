use Rattle.std.proofs.Common.{◌≡◌, length, []}
use Rattle.jolie_parse.specs.Grammar as spec
use Rattle.jolie_parse.specs.Reads.{more}
use Rattle.jolie_parse.proofs.cursor.Cursor.clauses.Given as goal

abbrev pub invariant-loop-clauses : goal.invariant-loop-clauses
invariant-loop-clauses l = more l.levels spec.clauses [] l.fn.self ≡ more l.levels spec.clauses l.clauses l.self

abbrev pub decreases-loop-clauses : goal.decreases-loop-clauses
decreases-loop-clauses l = length l.self
