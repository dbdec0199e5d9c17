use Rattle.std.proofs.Common.{◌≡◌, [], ◌+◌, ◌*◌, length}
use Rattle.jolie_parse.specs.Grammar as spec
use Rattle.jolie_parse.specs.Reads.{more}
use Rattle.jolie_parse.proofs.cursor.Cursor.+types.Given as goal

abbrev pub decreases-field : goal.decreases-field
decreases-field l = l.levels * 10 + 5

abbrev pub decreases-fields : goal.decreases-fields
decreases-fields l = l.levels * 10 + 6

abbrev pub invariant-fields-loop-fields : goal.invariant-fields-loop-fields
invariant-fields-loop-fields l = more l.levels spec.field [] l.fn.self ≡ more l.levels spec.field l.fields l.self

abbrev pub decreases-fields-loop-fields : goal.decreases-fields-loop-fields
decreases-fields-loop-fields l = length l.self

abbrev pub decreases-fields_in_braces : goal.decreases-fields_in_braces
decreases-fields_in_braces l = l.levels * 10 + 1

abbrev pub decreases-optional_fields : goal.decreases-optional_fields
decreases-optional_fields l = l.levels * 10 + 2

abbrev pub decreases-root_type : goal.decreases-root_type
decreases-root_type l = l.levels * 10 + 3

abbrev pub decreases-type_body : goal.decreases-type_body
decreases-type_body l = l.levels * 10 + 4
