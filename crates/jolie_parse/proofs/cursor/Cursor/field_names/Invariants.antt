use Rattle.std.proofs.Common.{◌≡◌, length, []}
use Rattle.jolie_parse.specs.ClassNames as c
use Rattle.jolie_parse.specs.Grammar as spec
use Rattle.jolie_parse.specs.Meanings as means_as
use Rattle.jolie_parse.specs.Syntax.{behind, means}
use Rattle.jolie_parse.specs.Reads.{more}
use Rattle.jolie_parse.proofs.cursor.Cursor.field_names.Given as goal

abbrev pub invariant-loop-names : goal.invariant-loop-names
invariant-loop-names l = more 0 (means means_as.name_of (behind c.sign_dot spec.word)) [] l.fn.self ≡ more 0 (means means_as.name_of (behind c.sign_dot spec.word)) l.names l.self

abbrev pub decreases-loop-names : goal.decreases-loop-names
decreases-loop-names l = length l.self
