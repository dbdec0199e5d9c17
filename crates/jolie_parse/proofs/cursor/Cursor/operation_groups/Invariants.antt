use Rattle.std.proofs.Common.{◌≡◌, length, []}
use Rattle.jolie_parse.specs.Grammar as spec
use Rattle.jolie_parse.specs.Reads.{more}
use Rattle.jolie_parse.proofs.cursor.Cursor.operation_groups.Given as goal

abbrev pub invariant-loop-groups : goal.invariant-loop-groups
invariant-loop-groups l = more l.levels spec.operation_group [] l.fn.self ≡ more l.levels spec.operation_group l.groups l.self

abbrev pub decreases-loop-groups : goal.decreases-loop-groups
decreases-loop-groups l = length l.self
