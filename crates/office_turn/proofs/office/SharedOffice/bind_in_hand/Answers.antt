use Rattle.std.proofs.Common.{◌≡◌, ◌∙◌, sym, true}
use Rattle.office_core.specs.Legal.{bound, has_variable, is_acting}
use Rattle.office_plain.specs.Entries.{entry}
use Rattle.std.specs.Prelude.{IfOk, Some}
use Rattle.office_core.specs.declared.history.Act.TheVariants as act
use Rattle.office_turn.proofs.Hands.{did_err, did_ok, lent_hand, lent_has, of_office, of_run}
use Rattle.office_turn.proofs.office.SharedOffice.bind_in_hand.Goals as goal

pub slot_mut-office-requires : goal.slot_mut-office-requires
slot_mut-office-requires g c =
    (c.requires.table ∙ sym c.args.self.now.table_is, lent_hand c.args.seat.now.me c.requires.hand)

pub bind-requires-clause-acts : goal.bind-requires-clause-acts
bind-requires-clause-acts g c =
    of_office (λ w past. is_acting w past c.args.number ≡ true) c.slot_mut-office.result.now
    (lent_has c.args.seat.now.me c.requires.hand c.slot_mut-office.result.now c.slot_mut-office.ensures.value)
    c.requires.acts

pub bind-requires-clause-has : goal.bind-requires-clause-has
bind-requires-clause-has g c =
    of_office (λ w past. has_variable w past c.args.number c.args.variable ≡ true) c.slot_mut-office.result.now
    (lent_has c.args.seat.now.me c.requires.hand c.slot_mut-office.result.now c.slot_mut-office.ensures.value)
    c.requires.has

pub returns-clause-reply : goal.returns-clause-reply
returns-clause-reply g c =
    of_run (λ w past. IfOk c.bind.result (λ x. Some x ≡ bound w past c.args.number c.args.variable c.args.value))
    c.slot_mut-office.result.now (lent_has c.args.seat.now.me c.requires.hand c.slot_mut-office.result.now
    c.slot_mut-office.ensures.value) c.bind.ensures.reply

pub returns-clause-did : goal.returns-clause-did
returns-clause-did g c =
    did_ok c.args.seat.now.me c.requires.hand c.slot_mut-office.result.now c.slot_mut-office.ensures.value
    c.bind.new.self (λ x. Some (entry c.args.number (act.Bind c.args.variable c.args.value x))) c.bind.result
    c.bind.ensures.added

pub returns-clause-err : goal.returns-clause-err
returns-clause-err g c =
    did_err c.args.seat.now.me c.requires.hand c.slot_mut-office.result.now c.slot_mut-office.ensures.value
    c.bind.new.self c.bind.result c.bind.ensures.unchanged
