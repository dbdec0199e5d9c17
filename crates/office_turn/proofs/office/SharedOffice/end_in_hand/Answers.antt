use Rattle.std.proofs.Common.{◌≡◌, ◌∙◌, sym, true}
use Rattle.office_core.specs.Legal.{is_acting}
use Rattle.office_plain.specs.Entries.{entry}
use Rattle.std.specs.Prelude.{Some}
use Rattle.office_core.specs.declared.history.Act.TheVariants as act
use Rattle.office_turn.proofs.Hands.{did_err, did_ok, lent_hand, lent_has, of_office}
use Rattle.office_turn.proofs.office.SharedOffice.end_in_hand.Goals as goal

pub slot_mut-office-requires : goal.slot_mut-office-requires
slot_mut-office-requires g c =
    (c.requires.table ∙ sym c.args.self.now.table_is, lent_hand c.args.seat.now.me c.requires.hand)

pub end-requires : goal.end-requires
end-requires g c =
    of_office (λ w past. is_acting w past c.args.number ≡ true) c.slot_mut-office.result.now
    (lent_has c.args.seat.now.me c.requires.hand c.slot_mut-office.result.now c.slot_mut-office.ensures.value)
    c.requires.acts

pub returns-clause-did : goal.returns-clause-did
returns-clause-did g c =
    did_ok c.args.seat.now.me c.requires.hand c.slot_mut-office.result.now c.slot_mut-office.ensures.value
    c.end.new.self (λ x. Some (entry c.args.number act.End)) c.end.result c.end.ensures.added

pub returns-clause-err : goal.returns-clause-err
returns-clause-err g c =
    did_err c.args.seat.now.me c.requires.hand c.slot_mut-office.result.now c.slot_mut-office.ensures.value
    c.end.new.self c.end.result c.end.ensures.unchanged
