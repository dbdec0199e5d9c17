use Rattle.outside_dials.specs.Dials.{IsFreshUnfailing}
use Rattle.outside_dials.proofs.Comings.{all_left}
use Rattle.outside_dials.proofs.unfailing_dial.UnfailingDialDial.dial.Goals as goal

pub invariant_of-self : goal.invariant_of-self
invariant_of-self c = (all_left IsFreshUnfailing _ _ _ c.in-Some.ensures c.self.invariant.0, c.self.invariant.1)
