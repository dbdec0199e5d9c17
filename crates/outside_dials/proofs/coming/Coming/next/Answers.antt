use Rattle.outside_dials.proofs.Comings.{left_behind, next_of_left}
use Rattle.outside_dials.proofs.coming.Coming.next.Goals as goal

pub invariant_of-self : goal.invariant_of-self
invariant_of-self g c = left_behind c.next.result _ _ _ _ c.self.invariant c.next.ensures.items c.next.ensures.cases

pub returns : goal.returns
returns g c =
    let left = left_behind c.next.result _ _ _ _ c.self.invariant c.next.ensures.items c.next.ensures.cases in
    rw (← c.self.view_is) (next_of_left c.next.result _ _ _ _ c.self.invariant left c.next.ensures.cases)
