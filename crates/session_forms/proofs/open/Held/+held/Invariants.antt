use Rattle.std.proofs.Common.{◌≡◌, ◌++◌, drop}
use Rattle.session_calculus.specs.Open.{held_among, only, none}
use Rattle.session_forms.specs.View.{members_view}
use Rattle.session_forms.proofs.open.Held.+held.Given as goal

abbrev pub invariant-add_among-loop-member : goal.invariant-add_among-loop-member
invariant-add_among-loop-member l = record {
  requests : l.self.requests.items ++ held_among only none (members_view (drop l.member-index l.strands)) ≡ l.fn.self.requests.items ++ held_among only none (members_view l.strands);
  calls : l.self.calls.items ++ held_among none only (members_view (drop l.member-index l.strands)) ≡ l.fn.self.calls.items ++ held_among none only (members_view l.strands);
}
