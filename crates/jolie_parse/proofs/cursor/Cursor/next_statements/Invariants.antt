use Rattle.std.proofs.Common.{◌≡◌, length, []}
use Rattle.jolie_parse.specs.ClassNames as c
use Rattle.jolie_parse.specs.Factored.{one_statement}
use Rattle.jolie_parse.specs.Syntax.{behind}
use Rattle.jolie_parse.specs.Reads.{more}
use Rattle.jolie_parse.proofs.cursor.Cursor.next_statements.Given as goal

abbrev pub invariant-loop-statements : goal.invariant-loop-statements
invariant-loop-statements l =
    more l.levels (behind c.sign_semicolon one_statement) [] l.fn.self ≡ more l.levels (behind c.sign_semicolon one_statement) l.statements l.self

abbrev pub decreases-loop-statements : goal.decreases-loop-statements
decreases-loop-statements l = length l.self
