use Rattle.behaviour_tree.specs.PartsView.{parts_of}
use Rattle.office_plain.proofs.Singles.{ties_first}
use Rattle.office_plain.proofs.kept.Kept.new.Goals as goal

pub returns : goal.returns
returns c =
    ties_first
    (parts_of c.args.program.now) _ _ _ c.services_of.ensures.services c.empty-kept.ensures c.in_ok-open_singles.ensures
