use Rattle.std.proofs.Common.{ap, sym, subst, ◌∙◌, ◌≡◌, length}
use Rattle.atomic_table.specs.Table.{Me}
use Rattle.office_plain.specs.declared.office.Office.{Office}
use Rattle.office_sharing.specs.declared.view.View.{View}
use Rattle.office_sharing.specs.Named.{parts_by}
use Rattle.office_sharing.specs.Plays.{HasTaken, in_hand}
use Rattle.office_turn.proofs.Telling.{taken_hand}
use Rattle.office_turn.proofs.office.SharedOffice.take_turn.Goals as goal

pub count_in_hand-requires-clause-hand : goal.count_in_hand-requires-clause-hand
count_in_hand-requires-clause-hand g c = taken_hand c.loop.seat.me c.try_turn.new.seat.me c.if-try_turn.ensures.turn

pub returns-then-try_turn-clause-turn : goal.returns-then-try_turn-clause-turn
returns-then-try_turn-clause-turn g c =
    subst (λ (m : Me Office View). HasTaken (parts_by g.N.Naming.program) m c.count_in_hand.new.seat.me) c.loop.invariant.2
    (subst (λ (m : Me Office View). HasTaken (parts_by g.N.Naming.program) c.loop.seat.me m)
    (sym c.count_in_hand.ensures.same) c.if-try_turn.ensures.turn)

pub returns-then-try_turn-clause-count : goal.returns-then-try_turn-clause-count
returns-then-try_turn-clause-count g c =
    c.count_in_hand.ensures.count
    ∙ ap (λ (m : Me Office View). length (in_hand m.1)) (sym c.count_in_hand.ensures.same)
