use Rattle.std.proofs.Common.{◌≡◌, subst}
use Rattle.std.specs.Prelude.{IfSome, true}
use Rattle.outside_dials.specs.Dials.{UnfailingSwitch}
use Rattle.outside_dials.proofs.unfailing_dial.UnfailingDial.last.Goals as goal

pub returns-clause-closed : goal.returns-clause-closed
returns-clause-closed c = subst (λ (d : UnfailingSwitch). IfSome d.last (λ w. w.closed ≡ true)) c.self.view_is c.self.invariant.1
