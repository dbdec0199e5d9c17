-- The outcome of a call adds the worker's entry.
use Rattle.std.proofs.Common.{◌≡◌, Some, refl, sym, true}
use Rattle.office_core.specs.declared.history.Act.TheVariants as act
use Rattle.office_core.specs.Legal.{is_fetched}
use Rattle.office_core.specs.Limits.{first_worker}
use Rattle.office_plain.specs.Entries.{entry}
use Rattle.office_plain.specs.View.{entries_of, past_in}
use Rattle.run_cells.proofs.Offices.{along, at_work, stays_failed, stays_work, works_ok}
use Rattle.run_cells.proofs.cells.Cells.answered.Goals as goal

pub answered-requires-clause-works : goal.answered-requires-clause-works
answered-requires-clause-works g c = at_work (past_in c.args.self.now.office) c.requires.work.desk.running

pub answered-requires-clause-fetched : goal.answered-requires-clause-fetched
answered-requires-clause-fetched g c =
    along (λ w p. is_fetched p first_worker c.args.session c.args.call ≡ true) (entries_of c.args.self.now.office)
    (sym c.requires.work.desk.program) c.requires.fetched

pub returns-clause-added : goal.returns-clause-added
returns-clause-added g c =
    stays_work _ c.answered.result (λ _. Some (entry first_worker (act.Answered c.args.session c.args.call c.args.outcome)))
    c.requires.work c.answered.ensures.added

pub returns-clause-unchanged : goal.returns-clause-unchanged
returns-clause-unchanged g c = stays_failed _ c.answered.result c.requires.work c.answered.ensures.unchanged

pub returns-clause-work : goal.returns-clause-work
returns-clause-work g c =
    works_ok _ _ c.answered.result (λ _. Some (entry first_worker (act.Answered c.args.session c.args.call c.args.outcome)))
    c.requires.work c.answered.ensures.added c.answered.ensures.ready (λ _. refl) (λ _. refl)
