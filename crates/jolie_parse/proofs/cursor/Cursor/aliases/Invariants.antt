use Rattle.std.proofs.Common.{◌≡◌, length}
use Rattle.jolie_parse.specs.Grammar as spec
use Rattle.jolie_parse.specs.Syntax.{some_of}
use Rattle.jolie_parse.specs.Reading.{read}
use Rattle.jolie_parse.specs.Reads.{more}
use Rattle.jolie_parse.proofs.cursor.Cursor.aliases.Given as goal

abbrev pub invariant-loop-aliases : goal.invariant-loop-aliases
invariant-loop-aliases l = read 0 (some_of spec.alias) l.fn.self ≡ more 0 spec.alias l.aliases l.self

abbrev pub decreases-loop-aliases : goal.decreases-loop-aliases
decreases-loop-aliases l = length l.self
