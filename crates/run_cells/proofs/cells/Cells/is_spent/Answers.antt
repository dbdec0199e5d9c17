-- Session after session is looked at, until one could act.
use Rattle.std.proofs.Common.{ap, length, ◌∙◌}
use Rattle.run_cells.specs.RunStates.{State}
use Rattle.run_cells.proofs.Looping.{cells_same, count_above, exact_at, has_spent, none_more, none_spent}
use Rattle.run_cells.proofs.cells.Cells.is_spent.Goals as goal

pub loop-number-preserved : goal.loop-number-preserved
loop-number-preserved g c =
    let i = c.loop-number.invariant in
    let e = c.in_ok-could.ensures in
    record {
      work = e.work;
      program = e.program ∙ i.program;
      same = e.same ∙ i.same;
      length = cells_same _ _ _ (ap (λ (s : State). length s.stands) e.same) ∙ i.length;
      none = none_more i.none (exact_at i.same e.exact) c.if-could.false;
    }

pub returns-then-could-clause-exact : goal.returns-then-could-clause-exact
returns-then-could-clause-exact g c =
    has_spent (exact_at c.loop-number.invariant.same c.in_ok-could.ensures.exact) c.if-could.true

pub returns-clause-exact : goal.returns-clause-exact
returns-clause-exact g c =
    none_spent c.loop-number.invariant.none
    (count_above _ c.args.self.now.cells.items c.len-count.result c.loop-number.number (c.len-count.ensures ∙ c.args.self.now.cells.ok.0)
    c.loop-number-test.false)
