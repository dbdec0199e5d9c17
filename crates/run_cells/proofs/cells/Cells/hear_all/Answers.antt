-- Entry after entry is looked at.
use Rattle.std.proofs.Common.{length, refl, subst, ap, ◌<◌, ◌∙◌, ℕ}
use Rattle.run_cells.specs.View.{told_in}
use Rattle.run_cells.proofs.Looping.{count_is}
use Rattle.run_cells.proofs.Offices.{count_fits}
use Rattle.run_cells.proofs.Skipping.{all_heard, heard_less, heard_work}
use Rattle.run_cells.proofs.Teams.{few_stands}
use Rattle.run_cells.proofs.cells.Cells.hear_all.Goals as goal

pub overflow_cast-count : goal.overflow_cast-count
overflow_cast-count g c = count_fits _ c.args.self.now.cells.items c.len-cells.result (c.len-cells.ensures ∙ c.args.self.now.cells.ok.0) (few_stands _ c.requires.work.team)

pub entries-init : goal.entries-init
entries-init g c = record {
  work = c.requires.work;
  program = refl;
  same = refl;
  count = c.len-cells.ensures ∙ c.args.self.now.cells.ok.0;
}

pub hear_next-requires : goal.hear_next-requires
hear_next-requires g c = record {
  there = subst (λ (k : ℕ). c.entries.self.news.heard < k)
      (c.len-entries.ensures ∙ c.history.result.now.entries.ok.0 ∙ ap length c.history.ensures) c.if-entries-heard.false;
}

pub entries-preserved : goal.entries-preserved
entries-preserved g c =
    let i = c.entries.invariant in
    record {
      work = heard_work _ (told_in c.hear_next.new.self) c.hear_next.new.self.heard c.len-cells.result i.work
          (subst (λ (k : ℕ). c.entries.self.news.heard < k)
          (c.len-entries.ensures ∙ c.history.result.now.entries.ok.0 ∙ ap length c.history.ensures) c.if-entries-heard.false)
          (count_is _ c.entries.self.cells.items c.len-cells.result i.count) c.in_ok-hear_next.ensures.heard
          c.in_ok-hear_next.ensures.looked;
      program = i.program;
      same = i.same;
      count = i.count;
    }

pub entries-smaller : goal.entries-smaller
entries-smaller g c =
    heard_less _ _ _ c.in_ok-hear_next.ensures.heard
    (subst (λ (k : ℕ). c.entries.self.news.heard < k)
    (c.len-entries.ensures ∙ c.history.result.now.entries.ok.0 ∙ ap length c.history.ensures) c.if-entries-heard.false)

pub returns-then-entries-heard-clause-heard : goal.returns-then-entries-heard-clause-heard
returns-then-entries-heard-clause-heard g c =
    all_heard _ c.entries.invariant.work
    (c.len-entries.ensures ∙ c.history.result.now.entries.ok.0 ∙ ap length c.history.ensures) c.if-entries-heard.true
