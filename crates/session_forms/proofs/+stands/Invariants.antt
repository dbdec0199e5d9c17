use Rattle.std.proofs.Common.{◌≡◌, drop}
use Rattle.session_calculus.specs.Terms.{is_among}
use Rattle.session_forms.specs.View.{members_view}
use Rattle.session_forms.proofs.+stands.Given as goal

abbrev pub invariant-stands::is_among-loop-member : goal.invariant-stands::is_among-loop-member
invariant-stands::is_among-loop-member l = is_among l.strand (members_view (drop l.member-index l.strands)) ≡ is_among l.strand (members_view l.strands)
