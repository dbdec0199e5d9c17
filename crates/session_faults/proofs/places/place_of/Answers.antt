use Rattle.std.proofs.Common.{◌∙◌, ap, sym}
use Rattle.session_calculus.specs.Terms.{stands_in}
use Rattle.session_forms.specs.View.{term_view}
use Rattle.session_faults.proofs.Positions.{passes_place}
use Rattle.session_faults.proofs.places.place_of.Goals as goal

pub loop-place-preserved : goal.loop-place-preserved
loop-place-preserved c =
    let x = c.index-strands-place.result in
    let other = ap (λ u. stands_in c.args.strand x.number (term_view u)) (sym c.deref.ensures) ∙ sym c.if-stands_in.ensures in
    passes_place c.args.strand c.args.strands.now c.loop-place.place x c.loop-place-test.true c.index-strands-place.is c.loop-place.invariant other
