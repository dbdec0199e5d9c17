-- The run is stopped behind the end of input.
use Rattle.office_plain.specs.View.{past_in}
use Rattle.run_cells.proofs.Offices.{at_work, legal_of, stop_works, stopped, stopped_ours}
use Rattle.run_cells.proofs.cells.Cells.stop.Goals as goal

pub close-requires : goal.close-requires
close-requires g c = at_work (past_in c.args.self.now.office) c.requires.work.desk.running

pub stop-requires : goal.stop-requires
stop-requires g c = stop_works _ _ c.requires.work c.close.ensures.added

pub returns-clause-added : goal.returns-clause-added
returns-clause-added g c = stopped _ _ _ c.requires.work c.close.ensures.added c.stop.ensures.added

pub returns-clause-ours : goal.returns-clause-ours
returns-clause-ours g c = stopped_ours _ _ _ c.requires.work c.close.ensures.added c.stop.ensures.added

pub returns-clause-legal : goal.returns-clause-legal
returns-clause-legal g c =
    legal_of c.stop.new.self (stopped_ours _ _ _ c.requires.work c.close.ensures.added c.stop.ensures.added)
