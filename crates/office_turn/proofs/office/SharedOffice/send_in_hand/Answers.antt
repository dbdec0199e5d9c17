use Rattle.std.proofs.Common.{◌≡◌, ◌∙◌, sym, true}
use Rattle.office_core.specs.Calls.{next_call}
use Rattle.office_core.specs.Legal.{is_acting}
use Rattle.office_core.specs.Limits.{run_of}
use Rattle.office_plain.specs.Entries.{replied_entry}
use Rattle.std.specs.Prelude.{OnOk, nat_eq}
use Rattle.office_core.specs.declared.history.Act.TheVariants as act
use Rattle.office_core.specs.declared.history.Placed.TheVariants as at
use Rattle.office_plain.proofs.Lists.{eq_true}
use Rattle.office_plain.specs.View.{Adds}
use Rattle.office_sharing.specs.Named.{parts_by}
use Rattle.office_turn.specs.Hands.{past_in_hand}
use Rattle.office_turn.proofs.Hands.{did_err, did_ok, lent_hand, lent_has, of_office, of_run}
use Rattle.office_turn.proofs.office.SharedOffice.send_in_hand.Goals as goal

pub slot_mut-office-requires : goal.slot_mut-office-requires
slot_mut-office-requires g c =
    (c.requires.table ∙ sym c.args.self.now.table_is, lent_hand c.args.seat.now.me c.requires.hand)

pub send-requires-clause-acts : goal.send-requires-clause-acts
send-requires-clause-acts g c =
    of_office (λ w past. is_acting w past c.args.number ≡ true) c.slot_mut-office.result.now
    (lent_has c.args.seat.now.me c.requires.hand c.slot_mut-office.result.now c.slot_mut-office.ensures.value)
    c.requires.acts

pub send-requires-clause-next : goal.send-requires-clause-next
send-requires-clause-next g c =
    eq_true c.args.call _ (of_office (λ w past. nat_eq c.args.call (next_call past c.args.number) ≡ true)
    c.slot_mut-office.result.now (lent_has c.args.seat.now.me c.requires.hand c.slot_mut-office.result.now
    c.slot_mut-office.ensures.value) c.requires.next)

pub returns-clause-did : goal.returns-clause-did
returns-clause-did g c =
    did_ok c.args.seat.now.me c.requires.hand c.slot_mut-office.result.now c.slot_mut-office.ensures.value
    c.send.new.self (λ x. replied_entry (run_of (parts_by g.N.Naming.program))
    (past_in_hand (parts_by g.N.Naming.program) c.args.seat.now.me) c.args.number
    (act.Send c.args.call c.args.port c.args.op c.args.value c.args.wants at.Out)) c.send.result
    (of_run (λ w past. OnOk c.send.result
    (Adds (replied_entry w past c.args.number
    (act.Send c.args.call c.args.port c.args.op c.args.value c.args.wants at.Out)) c.slot_mut-office.result.now
    c.send.new.self)) c.slot_mut-office.result.now
    (lent_has c.args.seat.now.me c.requires.hand c.slot_mut-office.result.now c.slot_mut-office.ensures.value)
    c.send.ensures.added)

pub returns-clause-err : goal.returns-clause-err
returns-clause-err g c =
    did_err c.args.seat.now.me c.requires.hand c.slot_mut-office.result.now c.slot_mut-office.ensures.value
    c.send.new.self c.send.result c.send.ensures.unchanged
