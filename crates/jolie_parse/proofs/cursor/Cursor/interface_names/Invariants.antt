use Rattle.std.proofs.Common.{◌≡◌, length}
use Rattle.jolie_parse.specs.ClassNames as c
use Rattle.jolie_parse.specs.Grammar as spec
use Rattle.jolie_parse.specs.Syntax.{behind, separated}
use Rattle.jolie_parse.specs.Reading.{read}
use Rattle.jolie_parse.specs.Reads.{more}
use Rattle.jolie_parse.proofs.cursor.Cursor.interface_names.Given as goal

abbrev pub invariant-loop-names : goal.invariant-loop-names
invariant-loop-names l = read 0 (separated c.sign_comma spec.name) l.fn.self ≡ more 0 (behind c.sign_comma spec.name) l.names l.self

abbrev pub decreases-loop-names : goal.decreases-loop-names
decreases-loop-names l = length l.self
