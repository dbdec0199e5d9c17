use Rattle.std.proofs.Common.{◌≡◌, ◌∙◌, sym, true}
use Rattle.office_core.specs.Legal.{is_at_work}
use Rattle.office_core.specs.Route.{post_reply, route}
use Rattle.office_plain.specs.Entries.{post_entry}
use Rattle.std.specs.Prelude.{IfOk}
use Rattle.office_turn.proofs.Hands.{did_err, did_ok, lent_hand, lent_has, of_office, of_run}
use Rattle.office_turn.proofs.office.SharedOffice.post_in_hand.Goals as goal

pub slot_mut-office-requires : goal.slot_mut-office-requires
slot_mut-office-requires g c =
    (c.requires.table ∙ sym c.args.self.now.table_is, lent_hand c.args.seat.now.me c.requires.hand)

pub post-requires-clause-worker : goal.post-requires-clause-worker
post-requires-clause-worker g c =
    of_office (λ w past. is_at_work past c.args.number ≡ true) c.slot_mut-office.result.now
    (lent_has c.args.seat.now.me c.requires.hand c.slot_mut-office.result.now c.slot_mut-office.ensures.value)
    c.requires.works

pub returns-clause-reply : goal.returns-clause-reply
returns-clause-reply g c =
    of_run (λ w past. IfOk c.post.result (λ x. x ≡ post_reply past (route w past c.args.posted)))
    c.slot_mut-office.result.now (lent_has c.args.seat.now.me c.requires.hand c.slot_mut-office.result.now
    c.slot_mut-office.ensures.value) c.post.ensures.reply

pub returns-clause-did : goal.returns-clause-did
returns-clause-did g c =
    did_ok c.args.seat.now.me c.requires.hand c.slot_mut-office.result.now c.slot_mut-office.ensures.value
    c.post.new.self (λ x. post_entry c.args.number c.args.origin c.args.posted x) c.post.result c.post.ensures.added

pub returns-clause-err : goal.returns-clause-err
returns-clause-err g c =
    did_err c.args.seat.now.me c.requires.hand c.slot_mut-office.result.now c.slot_mut-office.ensures.value
    c.post.new.self c.post.result c.post.ensures.unchanged
