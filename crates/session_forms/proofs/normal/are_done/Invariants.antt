use Rattle.std.proofs.Common.{◌≡◌, drop}
use Rattle.session_calculus.specs.Terms.{all_done}
use Rattle.session_forms.specs.View.{members_view}
use Rattle.session_forms.proofs.normal.are_done.Given as goal

abbrev pub invariant-loop-strand : goal.invariant-loop-strand
invariant-loop-strand l = all_done (members_view (drop l.strand-index l.strands)) ≡ all_done (members_view l.strands)
