use Rattle.std.proofs.Common.{◌≡◌, ◌∙◌, sym, true}
use Rattle.office_core.specs.Legal.{is_acting, is_wanted}
use Rattle.office_plain.specs.Entries.{answer_entry}
use Rattle.std.specs.Prelude.{IfOk}
use Rattle.office_core.specs.Calls as calls
use Rattle.office_turn.proofs.Hands.{did_err, did_ok, lent_hand, lent_has, of_office, of_run}
use Rattle.office_turn.proofs.office.SharedOffice.take_answer_in_hand.Goals as goal

pub slot_mut-office-requires : goal.slot_mut-office-requires
slot_mut-office-requires g c =
    (c.requires.table ∙ sym c.args.self.now.table_is, lent_hand c.args.seat.now.me c.requires.hand)

pub take_answer-requires-clause-acts : goal.take_answer-requires-clause-acts
take_answer-requires-clause-acts g c =
    of_office (λ w past. is_acting w past c.args.number ≡ true) c.slot_mut-office.result.now
    (lent_has c.args.seat.now.me c.requires.hand c.slot_mut-office.result.now c.slot_mut-office.ensures.value)
    c.requires.acts

pub take_answer-requires-clause-wanted : goal.take_answer-requires-clause-wanted
take_answer-requires-clause-wanted g c =
    of_office (λ w past. is_wanted past c.args.number c.args.call ≡ true) c.slot_mut-office.result.now
    (lent_has c.args.seat.now.me c.requires.hand c.slot_mut-office.result.now c.slot_mut-office.ensures.value)
    c.requires.wanted

pub returns-clause-reply : goal.returns-clause-reply
returns-clause-reply g c =
    of_run (λ w past. IfOk c.take_answer.result (λ x. x ≡ calls.result w past c.args.number c.args.call))
    c.slot_mut-office.result.now (lent_has c.args.seat.now.me c.requires.hand c.slot_mut-office.result.now
    c.slot_mut-office.ensures.value) c.take_answer.ensures.answer

pub returns-clause-did : goal.returns-clause-did
returns-clause-did g c =
    did_ok c.args.seat.now.me c.requires.hand c.slot_mut-office.result.now c.slot_mut-office.ensures.value
    c.take_answer.new.self (λ x. answer_entry c.args.number c.args.call x) c.take_answer.result
    c.take_answer.ensures.added

pub returns-clause-err : goal.returns-clause-err
returns-clause-err g c =
    did_err c.args.seat.now.me c.requires.hand c.slot_mut-office.result.now c.slot_mut-office.ensures.value
    c.take_answer.new.self c.take_answer.result c.take_answer.ensures.unchanged
