-- A door at which nobody came yet had not ended, and waited once more.
use Rattle.std.proofs.Common.{refl, ◌∙◌}
use Rattle.run_door_front.proofs.Doors.{goes-tried, not_fallen-same, not_fallen-added}
use Rattle.run_door_front.proofs.port.Listener.accept.Goals as goal

pub returns-in-Ok-NotYet-clause-goes : goal.returns-in-Ok-NotYet-clause-goes
returns-in-Ok-NotYet-clause-goes g c =
    goes-tried _ _ _ c.self.view_is refl c.try_accept.ensures.place (c.self.invariant.0 ∙ c.if-self.false)
    (not_fallen-same _ _ (rw c.in-Ok-NotYet.field-0-is at c.in-Ok-NotYet.ensures.wires))
    (not_fallen-added _ _ (rw c.in-Ok-NotYet.field-0-is at c.in-Ok-NotYet.ensures.waits)) (not_fallen-same _ _ c.try_accept.ensures.rests)
    (λ _. not_fallen-added _ _ (rw c.in-Ok-NotYet.field-0-is at c.in-Ok-NotYet.ensures.waits_row))
    (λ _. not_fallen-same _ _ (rw c.in-Ok-NotYet.field-0-is at c.in-Ok-NotYet.ensures.rests_row))
