use Rattle.std.proofs.Common.{◌≡◌, ◌∙◌, sym, true}
use Rattle.office_core.specs.Past.{is_running}
use Rattle.office_plain.specs.Entries.{adopt_entry}
use Rattle.office_plain.specs.Replies.{birth_of}
use Rattle.std.specs.Prelude.{IfOk}
use Rattle.office_turn.proofs.Hands.{did_err, did_ok, lent_hand, lent_has, of_office, of_run}
use Rattle.office_turn.proofs.office.SharedOffice.adopt_in_hand.Goals as goal

pub slot_mut-office-requires : goal.slot_mut-office-requires
slot_mut-office-requires g c =
    (c.requires.table ∙ sym c.args.self.now.table_is, lent_hand c.args.seat.now.me c.requires.hand)

pub adopt-requires : goal.adopt-requires
adopt-requires g c =
    of_office (λ w past. is_running past ≡ true) c.slot_mut-office.result.now
    (lent_has c.args.seat.now.me c.requires.hand c.slot_mut-office.result.now c.slot_mut-office.ensures.value)
    c.requires.running

pub returns-clause-reply : goal.returns-clause-reply
returns-clause-reply g c =
    of_run (λ w past. IfOk c.adopt.result (λ x. x ≡ birth_of w past c.args.number)) c.slot_mut-office.result.now
    (lent_has c.args.seat.now.me c.requires.hand c.slot_mut-office.result.now c.slot_mut-office.ensures.value)
    c.adopt.ensures.birth

pub returns-clause-did : goal.returns-clause-did
returns-clause-did g c =
    did_ok c.args.seat.now.me c.requires.hand c.slot_mut-office.result.now c.slot_mut-office.ensures.value
    c.adopt.new.self (λ x. adopt_entry c.args.number x) c.adopt.result c.adopt.ensures.added

pub returns-clause-err : goal.returns-clause-err
returns-clause-err g c =
    did_err c.args.seat.now.me c.requires.hand c.slot_mut-office.result.now c.slot_mut-office.ensures.value
    c.adopt.new.self c.adopt.result c.adopt.ensures.unchanged
