use Rattle.behaviour_tree.specs.PartsView.{parts_of}
use Rattle.behaviour_tree.proofs.FewEnough.{well_numbered}
use Rattle.behaviour_tree.proofs.program.Program.services.Goals as goal

pub returns-clause-numbered : goal.returns-clause-numbered
returns-clause-numbered c = well_numbered (parts_of c.args.self.now) c.parts.ensures.well_formed
