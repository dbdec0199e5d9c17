use Rattle.std.proofs.Common.{◌≡◌, ◌++◌, drop}
use Rattle.session_forms.specs.Standing.{strands_among}
use Rattle.session_forms.specs.View.{members_view}
use Rattle.session_forms.proofs.standing.+standing.Given as goal

abbrev pub invariant-add_among-loop-member : goal.invariant-add_among-loop-member
invariant-add_among-loop-member l = l.into.items ++ strands_among (members_view (drop l.member-index l.strands)) ≡ l.fn.into.items ++ strands_among (members_view l.strands)
