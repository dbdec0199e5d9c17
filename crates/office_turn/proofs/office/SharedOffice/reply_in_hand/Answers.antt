use Rattle.std.proofs.Common.{◌≡◌, ◌∙◌, sym, true}
use Rattle.office_core.specs.Answers.{is_open}
use Rattle.office_core.specs.Boxes.{took}
use Rattle.office_core.specs.Legal.{is_acting}
use Rattle.office_plain.specs.Entries.{entry}
use Rattle.std.specs.Prelude.{Some}
use Rattle.office_core.specs.declared.history.Act.TheVariants as act
use Rattle.office_turn.proofs.Hands.{did_err, did_ok, lent_hand, lent_has, of_office}
use Rattle.office_turn.proofs.office.SharedOffice.reply_in_hand.Goals as goal

pub slot_mut-office-requires : goal.slot_mut-office-requires
slot_mut-office-requires g c =
    (c.requires.table ∙ sym c.args.self.now.table_is, lent_hand c.args.seat.now.me c.requires.hand)

pub reply-requires-clause-acts : goal.reply-requires-clause-acts
reply-requires-clause-acts g c =
    of_office (λ w past. is_acting w past c.args.number ≡ true) c.slot_mut-office.result.now
    (lent_has c.args.seat.now.me c.requires.hand c.slot_mut-office.result.now c.slot_mut-office.ensures.value)
    c.requires.acts

pub reply-requires-clause-took : goal.reply-requires-clause-took
reply-requires-clause-took g c =
    of_office (λ w past. took past c.args.number c.args.message ≡ true) c.slot_mut-office.result.now
    (lent_has c.args.seat.now.me c.requires.hand c.slot_mut-office.result.now c.slot_mut-office.ensures.value)
    c.requires.took

pub reply-requires-clause-open : goal.reply-requires-clause-open
reply-requires-clause-open g c =
    of_office (λ w past. is_open w past c.args.message ≡ true) c.slot_mut-office.result.now
    (lent_has c.args.seat.now.me c.requires.hand c.slot_mut-office.result.now c.slot_mut-office.ensures.value)
    c.requires.open

pub returns-clause-did : goal.returns-clause-did
returns-clause-did g c =
    did_ok c.args.seat.now.me c.requires.hand c.slot_mut-office.result.now c.slot_mut-office.ensures.value
    c.reply.new.self (λ x. Some (entry c.args.number (act.Reply c.args.message c.args.outcome))) c.reply.result
    c.reply.ensures.added

pub returns-clause-err : goal.returns-clause-err
returns-clause-err g c =
    did_err c.args.seat.now.me c.requires.hand c.slot_mut-office.result.now c.slot_mut-office.ensures.value
    c.reply.new.self c.reply.result c.reply.ensures.unchanged
