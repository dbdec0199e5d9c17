use Rattle.std.proofs.Common.{rules, ◌≡◌, ◌+◌, ◌*◌, ◌^◌, ◌-◌, ◌≤◌, ◌<◌, ◌/◌, ℕ, true, List, length, take, drop, refl, sym, ap, subst, ◌∙◌, arith}
use Rattle.correlation.specs.Order.{key_order}
use Rattle.correlation.specs.Places.{is_rising, searched}
use Rattle.correlation.specs.Sought.{Sought}
use Rattle.correlation.proofs.Halving.{rising_rest, rising_first, went_after, went_before, stands_here, dropped, taken, none, some, halved, spent, doubled, weight}
use Rattle.correlation.proofs.keys.search.Goals as goal

pub loop-window-preserved-in-Less : goal.loop-window-preserved-in-Less
loop-window-preserved-in-Less g c =
    let i = c.loop-window.invariant in
    let w = c.loop-window.window.now in
    let v = c.rows_after-window.result.now in
    let j = length w / 2 in
    let e = c.rows_after-window.ensures in
    let l = some (length w) c.loop-window-test.ensures in
    let n = ap length e ∙ dropped (j + 1) w in
    let old = c.args.sought.now.steps in
    let step = ap (λ (s : Sought). s.steps) c.in-Less.ensures.step in
    record {
      rising = subst (λ u. is_rising u ≡ true) (sym e) (rising_rest (j + 1) w i.rising);
      place = went_after c.args.sought.now.values c.loop-window.before j c.args.rows.now w v _ e i.rising (omega arith) (c.in-Less.ensures.order ∙ ap (key_order _) i.same) i.place;
      within = omega arith;
      same = ap (λ (s : Sought). s.values) c.in-Less.ensures.step ∙ i.same;
      counted = omega arith;
      cost = halved (c.loop-window.sought.steps - old) (c.compare.new.self.steps - old) (weight (length c.args.rows.now)) (length v) (length w) (omega arith) i.cost (omega arith) l;
    }

pub loop-window-preserved : goal.loop-window-preserved
loop-window-preserved g c =
    let i = c.loop-window.invariant in
    let w = c.loop-window.window.now in
    let v = c.rows_before-window.result.now in
    let j = length w / 2 in
    let e = c.rows_before-window.ensures in
    let l = some (length w) c.loop-window-test.ensures in
    let n = ap length e ∙ taken j w (omega arith) in
    let old = c.args.sought.now.steps in
    let step = ap (λ (s : Sought). s.steps) c.in-Greater.ensures.step in
    record {
      rising = subst (λ u. is_rising u ≡ true) (sym e) (rising_first j w i.rising);
      place = went_before c.args.sought.now.values c.loop-window.before j c.args.rows.now w v _ e (omega arith) (c.in-Greater.ensures.order ∙ ap (key_order _) i.same) i.place;
      within = omega arith;
      same = ap (λ (s : Sought). s.values) c.in-Greater.ensures.step ∙ i.same;
      counted = omega arith;
      cost = halved (c.loop-window.sought.steps - old) (c.compare.new.self.steps - old) (weight (length c.args.rows.now)) (length v) (length w) (omega arith) i.cost (omega arith) l;
    }

pub returns-in-Equal-clause-place : goal.returns-in-Equal-clause-place
returns-in-Equal-clause-place g c =
    let i = c.loop-window.invariant in
    let w = c.loop-window.window.now in
    let l = some (length w) c.loop-window-test.ensures in
    stands_here c.args.sought.now.values c.loop-window.before (length w / 2) c.args.rows.now w _ i.rising (omega arith) (c.in-Equal.ensures.order ∙ ap (key_order _) i.same) i.place

pub returns-in-Equal-clause-cost : goal.returns-in-Equal-clause-cost
returns-in-Equal-clause-cost g c =
    let i = c.loop-window.invariant in
    let w = c.loop-window.window.now in
    let l = some (length w) c.loop-window-test.ensures in
    let old = c.args.sought.now.steps in
    let step = ap (λ (s : Sought). s.steps) c.in-Equal.ensures.step in
    spent (c.compare.new.self.steps - old) (length c.args.rows.now)
    (halved (c.loop-window.sought.steps - old) (c.compare.new.self.steps - old) (weight (length c.args.rows.now)) 0 (length w) (omega arith) i.cost (omega arith) l)

pub returns-clause-cost : goal.returns-clause-cost
returns-clause-cost g c =
    let t = c.loop-window.sought.steps - c.args.sought.now.steps in
    let e = none (length c.loop-window.window.now) c.loop-window-test.ensures in
    spent t (length c.args.rows.now) (subst (λ n. doubled t (weight n) ≤ weight (length c.args.rows.now)) e c.loop-window.invariant.cost)

pub returns-in-Equal-clause-same : goal.returns-in-Equal-clause-same
returns-in-Equal-clause-same g c = ap (λ (s : Sought). s.values) c.in-Equal.ensures.step ∙ c.loop-window.invariant.same
