-- A session is at hand, or the next one is adopted.
use Rattle.std.proofs.Common.{subst, ◌∙◌}
use Rattle.std.proofs.lemmas.Result.{IfOk-weaker}
use Rattle.run_cells.specs.Awake.{IsOn}
use Rattle.run_cells.proofs.Skipping.{at_count, next_here}
use Rattle.run_cells.proofs.Looping.{came_among, came_behind, came_ok, came_there}
use Rattle.run_cells.proofs.cells.Cells.comes.Goals as goal

pub returns-then-number-count-clause-came : goal.returns-then-number-count-clause-came
returns-then-number-count-clause-came g c =
    came_there _ _ (came_among _ c.args.self.now.cells.items c.args.number c.len-count.result (c.len-count.ensures ∙ c.args.self.now.cells.ok.0) c.if-number-count.true)

pub returns-clause-came : goal.returns-clause-came
returns-clause-came g c =
    came_ok c.args.number _ _ c.adopt_next.result
    (came_behind _ c.args.self.now.cells.items c.args.number c.len-count.result (c.len-count.ensures ∙ c.args.self.now.cells.ok.0) c.requires.within c.if-number-count.false)
    c.adopt_next.ensures.adopts c.adopt_next.ensures.work

pub returns-then-number-count-clause-awake : goal.returns-then-number-count-clause-awake
returns-then-number-count-clause-awake g c =
    let old = c.args.self.now in
    λ e. next_here _ c.args.number
    (came_among _ old.cells.items c.args.number c.len-count.result (c.len-count.ensures ∙ old.cells.ok.0)
    c.if-number-count.true)
    c.requires.next

pub returns-clause-awake : goal.returns-clause-awake
returns-clause-awake g c =
    let old = c.args.self.now in
    IfOk-weaker c.adopt_next.result _ _
    (λ b x e. subst (IsOn c.adopt_next.new.self.news.awake)
    (at_count old.cells.items c.args.number c.len-count.result (c.len-count.ensures ∙ old.cells.ok.0) c.requires.within
    c.if-number-count.false) (x e))
    c.adopt_next.ensures.awake
