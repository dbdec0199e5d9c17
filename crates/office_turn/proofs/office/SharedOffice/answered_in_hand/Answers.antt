use Rattle.std.proofs.Common.{◌≡◌, ◌∙◌, sym, true}
use Rattle.office_core.specs.Legal.{is_at_work, is_fetched}
use Rattle.office_plain.specs.Entries.{entry}
use Rattle.std.specs.Prelude.{Some}
use Rattle.office_core.specs.declared.history.Act.TheVariants as act
use Rattle.office_turn.proofs.Hands.{did_err, did_ok, lent_hand, lent_has, of_office}
use Rattle.office_turn.proofs.office.SharedOffice.answered_in_hand.Goals as goal

pub slot_mut-office-requires : goal.slot_mut-office-requires
slot_mut-office-requires g c =
    (c.requires.table ∙ sym c.args.self.now.table_is, lent_hand c.args.seat.now.me c.requires.hand)

pub answered-requires-clause-works : goal.answered-requires-clause-works
answered-requires-clause-works g c =
    of_office (λ w past. is_at_work past c.args.number ≡ true) c.slot_mut-office.result.now
    (lent_has c.args.seat.now.me c.requires.hand c.slot_mut-office.result.now c.slot_mut-office.ensures.value)
    c.requires.works

pub answered-requires-clause-fetched : goal.answered-requires-clause-fetched
answered-requires-clause-fetched g c =
    of_office (λ w past. is_fetched past c.args.number c.args.session c.args.call ≡ true)
    c.slot_mut-office.result.now (lent_has c.args.seat.now.me c.requires.hand c.slot_mut-office.result.now
    c.slot_mut-office.ensures.value) c.requires.fetched

pub returns-clause-did : goal.returns-clause-did
returns-clause-did g c =
    did_ok c.args.seat.now.me c.requires.hand c.slot_mut-office.result.now c.slot_mut-office.ensures.value
    c.answered.new.self (λ x. Some (entry c.args.number (act.Answered c.args.session c.args.call c.args.outcome)))
    c.answered.result c.answered.ensures.added

pub returns-clause-err : goal.returns-clause-err
returns-clause-err g c =
    did_err c.args.seat.now.me c.requires.hand c.slot_mut-office.result.now c.slot_mut-office.ensures.value
    c.answered.new.self c.answered.result c.answered.ensures.unchanged
