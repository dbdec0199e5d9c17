use Rattle.std.proofs.Common.{rules, tests}
use Rattle.std.proofs.lemmas.Iterator.{YieldsList-from_slice}
use Rattle.std.proofs.lemmas.Iterator.Search.{all_from_yields_List}
use Rattle.behaviour_tree.specs.Locations.{is_visible}
use Rattle.program_locations.proofs.locations.is_all_visible.Goals as goal

pub returns : goal.returns
returns c =
    all_from_yields_List is_visible _ _ _ c.all.ensures.ran (YieldsList-from_slice c.args.text.now cc) (λ x b q k. search (rules, tests))
