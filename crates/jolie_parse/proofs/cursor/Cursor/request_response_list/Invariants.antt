use Rattle.std.proofs.Common.{◌≡◌, length}
use Rattle.jolie_parse.specs.ClassNames as c
use Rattle.jolie_parse.specs.Grammar as spec
use Rattle.jolie_parse.specs.Syntax.{behind, separated}
use Rattle.jolie_parse.specs.Reading.{read}
use Rattle.jolie_parse.specs.Reads.{more}
use Rattle.jolie_parse.proofs.cursor.Cursor.request_response_list.Given as goal

abbrev pub invariant-loop-operations : goal.invariant-loop-operations
invariant-loop-operations l = read l.levels (separated c.sign_comma spec.request_response) l.fn.self ≡ more l.levels (behind c.sign_comma spec.request_response) l.operations l.self

abbrev pub decreases-loop-operations : goal.decreases-loop-operations
decreases-loop-operations l = length l.self
