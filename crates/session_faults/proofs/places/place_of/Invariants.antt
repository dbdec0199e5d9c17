use Rattle.std.proofs.Common.{◌≡◌, false, take}
use Rattle.session_calculus.specs.Terms.{is_among}
use Rattle.session_forms.specs.View.{members_view}
use Rattle.session_faults.proofs.places.place_of.Given as goal

abbrev pub invariant-loop-place : goal.invariant-loop-place
invariant-loop-place l = is_among l.strand (members_view (take l.place l.strands)) ≡ false
