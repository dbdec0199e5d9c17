-- The history of an office is legal.
use Rattle.run_cells.proofs.Offices.{legal_of}
use Rattle.run_alone.proofs.ending.record_of.Goals as goal

pub returns-clause-legal : goal.returns-clause-legal
returns-clause-legal g c = legal_of c.args.cells.office c.requires.ours
