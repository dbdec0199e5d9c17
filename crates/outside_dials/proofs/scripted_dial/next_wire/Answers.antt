use Rattle.std.specs.Prelude.{IfSome}
use Rattle.outside_dials.specs.Dials.{IsFreshScripted}
use Rattle.outside_dials.proofs.Comings.{all_left, first_of_all}
use Rattle.outside_dials.proofs.scripted_dial.next_wire.Goals as goal

pub returns-in-Some-clause-left : goal.returns-in-Some-clause-left
returns-in-Some-clause-left c = all_left (λ o. IfSome o IsFreshScripted) _ _ _ c.in-Some.ensures c.requires

pub returns-in-Some-clause-fresh : goal.returns-in-Some-clause-fresh
returns-in-Some-clause-fresh c = first_of_all (λ o. IfSome o IsFreshScripted) _ _ _ c.in-Some.ensures c.requires
