use Rattle.std.proofs.Common.{◌≡◌, refl, true}
use Rattle.office_core.specs.Legal.{is_acting}
use Rattle.office_plain.specs.Entries.{take_entry}
use Rattle.office_plain.specs.Replies.{next_mail}
use Rattle.office_turn.proofs.Own.{takes_own}
use Rattle.office_turn.proofs.Telling.{call_made, count_still, err_saw, ok_called, ok_none, passes, stays_by, taken_hand, turn_still}
use Rattle.office_turn.proofs.office.SharedOffice.take.Goals as goal

pub take_in_hand-mail-requires-clause-hand : goal.take_in_hand-mail-requires-clause-hand
take_in_hand-mail-requires-clause-hand g c =
    taken_hand c.pass.inside.seat.me c.take_turn-before.new.seat.me c.take_turn-before.ensures.turn

pub take_in_hand-mail-requires-clause-acts : goal.take_in_hand-mail-requires-clause-acts
take_in_hand-mail-requires-clause-acts g c =
    stays_by (λ n w past. is_acting w past n) c.pass.inside.seat.me c.take_turn-before.new.seat.me
    c.take_turn-before.ensures.turn c.pass.invariant.4 c.pass.view_is c.requires.acts

pub finish-pass-inside-requires-clause-turn : goal.finish-pass-inside-requires-clause-turn
finish-pass-inside-requires-clause-turn g c =
    turn_still c.pass.inside.seat.me c.take_turn-before.new.seat.me c.take_in_hand-mail.new.seat.me
    c.take_turn-before.ensures.turn c.take_in_hand-mail.ensures.view

pub finish-pass-inside-requires-clause-before : goal.finish-pass-inside-requires-clause-before
finish-pass-inside-requires-clause-before g c =
    count_still c.pass.inside.seat.me c.take_turn-before.new.seat.me c.take_in_hand-mail.new.seat.me
    c.take_turn-before.ensures.turn c.take_in_hand-mail.ensures.view _ c.take_turn-before.ensures.count

pub finish-pass-inside-requires-clause-made : goal.finish-pass-inside-requires-clause-made
finish-pass-inside-requires-clause-made g c =
    call_made c.pass.inside.seat.me c.take_turn-before.new.seat.me c.take_turn-before.ensures.turn
    (λ n x. take_entry n x) c.take_in_hand-mail.new.seat.me c.take_in_hand-mail.result (λ u x. takes_own u x)
    c.pass.invariant.4 c.take_in_hand-mail.ensures.did c.take_in_hand-mail.ensures.err

pub returns-clause-told : goal.returns-clause-told
returns-clause-told g c =
    ok_called c.take_in_hand-mail.new.seat.me c.finish-pass-inside.new.seat.me
    (passes c.pass.inside.seat.me c.take_turn-before.new.seat.me c.take_turn-before.ensures.turn c.pass.view_is
    c.pass.invariant.2 c.pass.invariant.4) c.finish-pass-inside.ensures.settled c.take_in_hand-mail.result
    (λ n x w past. x ≡ next_mail past n c.args.ops.now) (λ n x w past. take_entry n x)
    (λ x w past. takes_own c.args.pass.now x) c.take_in_hand-mail.ensures.reply c.take_in_hand-mail.ensures.did

pub returns-clause-none : goal.returns-clause-none
returns-clause-none g c =
    ok_none c.take_in_hand-mail.new.seat.me c.finish-pass-inside.new.seat.me
    (passes c.pass.inside.seat.me c.take_turn-before.new.seat.me c.take_turn-before.ensures.turn c.pass.view_is
    c.pass.invariant.2 c.pass.invariant.4) c.finish-pass-inside.ensures.settled c.take_in_hand-mail.result
    (λ n w past. next_mail past n c.args.ops.now) (λ n x. take_entry n x) refl c.take_in_hand-mail.ensures.reply
    c.take_in_hand-mail.ensures.did

pub returns-clause-err : goal.returns-clause-err
returns-clause-err g c =
    err_saw c.take_in_hand-mail.new.seat.me c.finish-pass-inside.new.seat.me
    (passes c.pass.inside.seat.me c.take_turn-before.new.seat.me c.take_turn-before.ensures.turn c.pass.view_is
    c.pass.invariant.2 c.pass.invariant.4) c.finish-pass-inside.ensures.settled c.take_in_hand-mail.result
    c.take_in_hand-mail.ensures.err
