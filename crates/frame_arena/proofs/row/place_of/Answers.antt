use Rattle.std.proofs.Common.{◌+◌, ◌-◌, ◌/◌, ◌<◌, length, ap, arith}
use Rattle.frame_arena.specs.declared.row.Row.{Row}
use Rattle.frame_arena.proofs.Seeking.{sought_up, sought_down}
use Rattle.frame_arena.proofs.row.place_of.Goals as goal

pub loop-low-preserved-then-rows-middle : goal.loop-low-preserved-then-rows-middle
loop-low-preserved-then-rows-middle g c =
    let l = c.loop-low in
    let m = l.low + (l.high - l.low) / 2 in
    let x = c.index-rows-middle.result in
    let number = ap (λ (r : Row g.row.F.Denot g.row.K.Denot). r.number) c.index-rows-middle.is in
    let lt : m < length c.args.rows.now = omega (arith, l.invariant.within, c.loop-low-test.true) in
    record {
      order = omega (arith, c.loop-low-test.true);
      within = l.invariant.within;
      before = sought_up c.args.rows.now c.args.number m x c.requires lt c.index-rows-middle.is (omega (arith, number, c.if-rows-middle.true));
      after = l.invariant.after;
    }

pub loop-low-preserved : goal.loop-low-preserved
loop-low-preserved g c =
    let l = c.loop-low in
    let m = l.low + (l.high - l.low) / 2 in
    let x = c.index-rows-middle.result in
    let number = ap (λ (r : Row g.row.F.Denot g.row.K.Denot). r.number) c.index-rows-middle.is in
    let lt : m < length c.args.rows.now = omega (arith, l.invariant.within, c.loop-low-test.true) in
    record {
      order = omega (arith, c.loop-low-test.true);
      within = omega (arith, l.invariant.within, c.loop-low-test.true);
      before = l.invariant.before;
      after = sought_down c.args.rows.now c.args.number m x c.requires lt c.index-rows-middle.is (omega (arith, number, c.if-rows-middle.false));
    }
