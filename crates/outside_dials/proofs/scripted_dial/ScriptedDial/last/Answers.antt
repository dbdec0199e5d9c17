use Rattle.std.proofs.Common.{◌≡◌, subst}
use Rattle.std.specs.Prelude.{IfSome, true}
use Rattle.outside_dials.specs.Dials.{ScriptedSwitch}
use Rattle.outside_dials.proofs.scripted_dial.ScriptedDial.last.Goals as goal

pub returns-clause-closed : goal.returns-clause-closed
returns-clause-closed c = subst (λ (d : ScriptedSwitch). IfSome d.last (λ w. w.closed ≡ true)) c.self.view_is c.self.invariant.1
