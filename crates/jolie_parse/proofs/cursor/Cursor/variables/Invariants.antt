use Rattle.std.proofs.Common.{◌≡◌, length}
use Rattle.jolie_parse.specs.ClassNames as c
use Rattle.jolie_parse.specs.Grammar as spec
use Rattle.jolie_parse.specs.Syntax.{behind, separated}
use Rattle.jolie_parse.specs.Reading.{read}
use Rattle.jolie_parse.specs.Reads.{more}
use Rattle.jolie_parse.proofs.cursor.Cursor.variables.Given as goal

abbrev pub invariant-loop-variables : goal.invariant-loop-variables
invariant-loop-variables l = read 0 (separated c.sign_comma spec.variable) l.fn.self ≡ more 0 (behind c.sign_comma spec.variable) l.variables l.self

abbrev pub decreases-loop-variables : goal.decreases-loop-variables
decreases-loop-variables l = length l.self
