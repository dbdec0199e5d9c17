-- A collect adds the worker's entry, where an answer is there.
use Rattle.std.specs.Prelude.{◌≡◌, IfOk}
use Rattle.std.proofs.Common.{sym, true}
use Rattle.office_core.specs.Answers.{answers}
use Rattle.office_core.specs.Keys.{first}
use Rattle.office_core.specs.Legal.{is_collectable}
use Rattle.office_core.specs.Limits.{first_worker}
use Rattle.office_plain.specs.Entries.{collect_entry}
use Rattle.office_plain.specs.View.{entries_of}
use Rattle.run_cells.specs.View.{run_state}
use Rattle.run_cells.proofs.Offices.{along, collect_goes, collect_own, ours_ok, stays_not, stays_ok, works_ok}
use Rattle.run_cells.proofs.cells.Cells.collect.Goals as goal

pub collect-requires-clause-collectable : goal.collect-requires-clause-collectable
collect-requires-clause-collectable g c =
    along (λ w p. is_collectable p first_worker c.args.message ≡ true) (entries_of c.args.self.now.office)
    (sym c.requires.ours) c.requires.collectable

pub returns-clause-answer : goal.returns-clause-answer
returns-clause-answer g c =
    along (λ w p. IfOk c.collect.result (λ o. o ≡ first (answers w p c.args.message))) (entries_of c.args.self.now.office)
    c.requires.ours c.collect.ensures.answer

pub returns-clause-added : goal.returns-clause-added
returns-clause-added g c = stays_ok
    (run_state g.S.Session c.args.self.now)
    _ c.collect.result (collect_entry first_worker c.args.message) c.collect.ensures.added

pub returns-clause-unchanged : goal.returns-clause-unchanged
returns-clause-unchanged g c = stays_not
    (run_state g.S.Session c.args.self.now)
    _ c.collect.result c.collect.ensures.unchanged

pub returns-clause-ours : goal.returns-clause-ours
returns-clause-ours g c =
    ours_ok
    (run_state g.S.Session c.args.self.now)
    _ c.collect.result (collect_entry first_worker c.args.message) c.requires.ours c.collect.ensures.added
    c.collect.ensures.unchanged

pub returns-clause-work : goal.returns-clause-work
returns-clause-work g c work =
    works_ok _ _ c.collect.result (collect_entry first_worker c.args.message) work c.collect.ensures.added
    c.collect.ensures.ready (collect_own c.args.message) (collect_goes c.args.message)
