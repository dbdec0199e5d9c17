use Rattle.std.proofs.Common.{◌≡◌, ◌+◌, false, suc, nat_eq, sym, ap, subst, ◌∙◌, take, arith}
use Rattle.std.proofs.lemmas.Bool.Decides.{nat_tests}
use Rattle.correlation.specs.Index.{has_set}
use Rattle.correlation.specs.declared.set_keys.SetKeys.{SetKeys}
use Rattle.correlation.proofs.KeySets.{passes_more}
use Rattle.correlation.proofs.index.Index.place_of.Goals as goal

pub loop-place-preserved : goal.loop-place-preserved
loop-place-preserved c =
    let sets = c.args.self.now.sets.items in
    let i = c.loop-place.place in
    let s = c.index.result.now in
    let differs : nat_eq s.set c.args.set ≡ false = grind (arith, nat_tests, c.if-index-set.false) in
    let there = ap (λ (t : SetKeys). nat_eq t.set c.args.set) (sym c.index.ensures) ∙ differs in
    let more = passes_more c.args.set i sets s (omega arith) c.loop-place.invariant.first there in
    let one : suc i ≡ i + 1 = omega arith in
    record {
      within = omega arith;
      first = subst (λ k. has_set c.args.set (take k sets) ≡ false) one more;
    }
