use Rattle.std.proofs.Common.{◌≡◌, ◌∙◌, sym, true}
use Rattle.office_core.specs.Legal.{is_at_work}
use Rattle.office_plain.specs.Entries.{fetch_entry}
use Rattle.office_plain.specs.Replies.{next_outgoing}
use Rattle.std.specs.Prelude.{IfOk}
use Rattle.office_turn.proofs.Hands.{did_err, did_ok, lent_hand, lent_has, of_office, of_run}
use Rattle.office_turn.proofs.office.SharedOffice.fetch_in_hand.Goals as goal

pub slot_mut-office-requires : goal.slot_mut-office-requires
slot_mut-office-requires g c =
    (c.requires.table ∙ sym c.args.self.now.table_is, lent_hand c.args.seat.now.me c.requires.hand)

pub fetch-requires : goal.fetch-requires
fetch-requires g c =
    of_office (λ w past. is_at_work past c.args.number ≡ true) c.slot_mut-office.result.now
    (lent_has c.args.seat.now.me c.requires.hand c.slot_mut-office.result.now c.slot_mut-office.ensures.value)
    c.requires.works

pub returns-clause-reply : goal.returns-clause-reply
returns-clause-reply g c =
    of_run (λ w past. IfOk c.fetch.result (λ x. x ≡ next_outgoing w past c.args.kind)) c.slot_mut-office.result.now
    (lent_has c.args.seat.now.me c.requires.hand c.slot_mut-office.result.now c.slot_mut-office.ensures.value)
    c.fetch.ensures.call

pub returns-clause-did : goal.returns-clause-did
returns-clause-did g c =
    did_ok c.args.seat.now.me c.requires.hand c.slot_mut-office.result.now c.slot_mut-office.ensures.value
    c.fetch.new.self (λ x. fetch_entry c.args.number x) c.fetch.result c.fetch.ensures.added

pub returns-clause-err : goal.returns-clause-err
returns-clause-err g c =
    did_err c.args.seat.now.me c.requires.hand c.slot_mut-office.result.now c.slot_mut-office.ensures.value
    c.fetch.new.self c.fetch.result c.fetch.ensures.unchanged
