use Rattle.std.proofs.Common.{◌≡◌, ◌∙◌, sym, true}
use Rattle.office_core.specs.Legal.{is_at_work}
use Rattle.office_plain.specs.View.{Adds}
use Rattle.office_turn.specs.Calls.{closing_entry}
use Rattle.office_turn.specs.Hands.{past_in_hand}
use Rattle.office_turn.proofs.Hands.{did, lent_hand, lent_has, of_office, of_run}
use Rattle.office_sharing.specs.Named.{parts_by}
use Rattle.office_turn.proofs.office.SharedOffice.close_in_hand.Goals as goal

pub slot_mut-office-requires : goal.slot_mut-office-requires
slot_mut-office-requires g c =
    (c.requires.table ∙ sym c.args.self.now.table_is, lent_hand c.args.seat.now.me c.requires.hand)

pub close-requires : goal.close-requires
close-requires g c =
    of_office (λ w past. is_at_work past c.args.number ≡ true) c.slot_mut-office.result.now
    (lent_has c.args.seat.now.me c.requires.hand c.slot_mut-office.result.now c.slot_mut-office.ensures.value)
    c.requires.works

pub returns-clause-did : goal.returns-clause-did
returns-clause-did g c =
    did c.args.seat.now.me c.requires.hand c.slot_mut-office.result.now c.slot_mut-office.ensures.value
    c.close.new.self (closing_entry (past_in_hand (parts_by g.N.Naming.program) c.args.seat.now.me) c.args.number)
    (of_run (λ w past. Adds (closing_entry past c.args.number) c.slot_mut-office.result.now c.close.new.self)
    c.slot_mut-office.result.now (lent_has c.args.seat.now.me c.requires.hand c.slot_mut-office.result.now
    c.slot_mut-office.ensures.value) c.close.ensures.added)
