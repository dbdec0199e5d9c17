use Rattle.std.proofs.Common.{◌≡◌, [], drop, map}
use Rattle.std.specs.Prelude.{unwrap_or}
use Rattle.behaviour_tree.specs.FormedServices.{first_of_members}
use Rattle.behaviour_tree.specs.Operations.{is_among}
use Rattle.behaviour_tree.specs.View.{behaviour_view, procs_of}
use Rattle.office_plain.proofs.beginnings.+begins_with.Given as goal

abbrev pub invariant-sequence_begins_with-loop-member : goal.invariant-sequence_begins_with-loop-member
invariant-sequence_begins_with-loop-member l =
    is_among (unwrap_or (first_of_members (procs_of (map behaviour_view (drop l.member-index l.list)))) []) l.op
    ≡ is_among (unwrap_or (first_of_members (procs_of (map behaviour_view l.list))) []) l.op
