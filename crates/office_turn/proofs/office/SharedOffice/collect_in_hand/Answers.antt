use Rattle.std.proofs.Common.{◌≡◌, ◌∙◌, sym, true}
use Rattle.office_core.specs.Answers.{answers}
use Rattle.office_core.specs.Keys.{first}
use Rattle.office_core.specs.Legal.{is_collectable}
use Rattle.office_plain.specs.Entries.{collect_entry}
use Rattle.std.specs.Prelude.{IfOk}
use Rattle.office_turn.proofs.Hands.{did_err, did_ok, lent_hand, lent_has, of_office, of_run}
use Rattle.office_turn.proofs.office.SharedOffice.collect_in_hand.Goals as goal

pub slot_mut-office-requires : goal.slot_mut-office-requires
slot_mut-office-requires g c =
    (c.requires.table ∙ sym c.args.self.now.table_is, lent_hand c.args.seat.now.me c.requires.hand)

pub collect-requires-clause-collectable : goal.collect-requires-clause-collectable
collect-requires-clause-collectable g c =
    of_office (λ w past. is_collectable past c.args.number c.args.message ≡ true) c.slot_mut-office.result.now
    (lent_has c.args.seat.now.me c.requires.hand c.slot_mut-office.result.now c.slot_mut-office.ensures.value)
    c.requires.collectable

pub returns-clause-reply : goal.returns-clause-reply
returns-clause-reply g c =
    of_run (λ w past. IfOk c.collect.result (λ x. x ≡ first (answers w past c.args.message)))
    c.slot_mut-office.result.now (lent_has c.args.seat.now.me c.requires.hand c.slot_mut-office.result.now
    c.slot_mut-office.ensures.value) c.collect.ensures.answer

pub returns-clause-did : goal.returns-clause-did
returns-clause-did g c =
    did_ok c.args.seat.now.me c.requires.hand c.slot_mut-office.result.now c.slot_mut-office.ensures.value
    c.collect.new.self (λ x. collect_entry c.args.number c.args.message x) c.collect.result c.collect.ensures.added

pub returns-clause-err : goal.returns-clause-err
returns-clause-err g c =
    did_err c.args.seat.now.me c.requires.hand c.slot_mut-office.result.now c.slot_mut-office.ensures.value
    c.collect.new.self c.collect.result c.collect.ensures.unchanged
