use Rattle.std.proofs.Common.{ap, ◌∙◌, arith}
use Rattle.frame_arena.specs.declared.row.Row.{Row}
use Rattle.frame_arena.proofs.Seeking.{dead_more, next_found, none_found}
use Rattle.frame_arena.proofs.row.next_row.Goals as goal

pub returns-then-rows-place-clause-row : goal.returns-then-rows-place-clause-row
returns-then-rows-place-clause-row g c =
    let l = c.loop-place in
    next_found c.args.rows.now c.args.from c.place_of-place.result l.place c.index-rows-place.result c.requires c.place_of-place.ensures
    l.invariant.start c.loop-place-test.true c.index-rows-place.is
    (ap (λ (r : Row g.row.F.Denot g.row.K.Denot). r.is_live) c.index-rows-place.is ∙ c.if-rows-place.true) l.invariant.dead

pub loop-place-preserved : goal.loop-place-preserved
loop-place-preserved g c =
    let l = c.loop-place in
    record {
      start = omega (arith, l.invariant.start);
      dead = dead_more c.args.rows.now c.place_of-place.result l.place c.index-rows-place.result c.loop-place-test.true c.index-rows-place.is
          (ap (λ (r : Row g.row.F.Denot g.row.K.Denot). r.is_live) c.index-rows-place.is ∙ c.if-rows-place.false) l.invariant.dead;
    }

pub returns-clause-row : goal.returns-clause-row
returns-clause-row g c =
    let l = c.loop-place in
    none_found c.args.rows.now c.args.from c.place_of-place.result l.place c.requires c.place_of-place.ensures c.loop-place-test.false l.invariant.dead
