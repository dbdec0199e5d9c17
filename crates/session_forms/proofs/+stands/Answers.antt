use Rattle.std.proofs.Common.{◌∙◌, ap, sym}
use Rattle.session_calculus.specs.Terms.{stands_in}
use Rattle.session_forms.specs.View.{term_view}
use Rattle.session_forms.proofs.Held.{stops_at_member}
use Rattle.session_forms.proofs.+stands.Goals as goal

pub stands::is_among-returns-then-stands_in : goal.stands::is_among-returns-then-stands_in
stands::is_among-returns-then-stands_in t c =
    let x = c.member-item.result in
    let here = ap (λ u. stands_in c.args.strand x.number (term_view u)) (sym c.deref.ensures) ∙ sym c.if-stands_in.ensures in
    stops_at_member c.args.strand c.args.strands.now c.loop-member.member-index x c.loop-member-test.true c.member-item.is here ∙ c.loop-member.invariant
