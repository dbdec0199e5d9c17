use Rattle.std.proofs.Common.{◌≡◌, refl, true}
use Rattle.office_plain.specs.Entries.{fetch_entry}
use Rattle.office_plain.specs.Replies.{next_outgoing}
use Rattle.office_turn.proofs.Own.{fetches_own}
use Rattle.office_turn.proofs.Telling.{call_made, count_still, err_saw, ok_called, ok_none, passes, taken_hand, turn_still, worker_number, works_now}
use Rattle.office_turn.proofs.office.SharedOffice.fetch.Goals as goal

pub fetch_in_hand-outgoing-requires-clause-hand : goal.fetch_in_hand-outgoing-requires-clause-hand
fetch_in_hand-outgoing-requires-clause-hand g c =
    taken_hand c.pass.inside.seat.me c.take_turn-before.new.seat.me c.take_turn-before.ensures.turn

pub fetch_in_hand-outgoing-requires-clause-works : goal.fetch_in_hand-outgoing-requires-clause-works
fetch_in_hand-outgoing-requires-clause-works g c =
    works_now c.pass.inside.seat.me c.take_turn-before.new.seat.me c.take_turn-before.ensures.turn
    c.pass.inside.number (worker_number c.pass.inside.number c.pass.inside.seat.me.0 _ c.pass.invariant.4
    c.pass.view_is c.requires.worker)

pub finish-pass-inside-requires-clause-turn : goal.finish-pass-inside-requires-clause-turn
finish-pass-inside-requires-clause-turn g c =
    turn_still c.pass.inside.seat.me c.take_turn-before.new.seat.me c.fetch_in_hand-outgoing.new.seat.me
    c.take_turn-before.ensures.turn c.fetch_in_hand-outgoing.ensures.view

pub finish-pass-inside-requires-clause-before : goal.finish-pass-inside-requires-clause-before
finish-pass-inside-requires-clause-before g c =
    count_still c.pass.inside.seat.me c.take_turn-before.new.seat.me c.fetch_in_hand-outgoing.new.seat.me
    c.take_turn-before.ensures.turn c.fetch_in_hand-outgoing.ensures.view _ c.take_turn-before.ensures.count

pub finish-pass-inside-requires-clause-made : goal.finish-pass-inside-requires-clause-made
finish-pass-inside-requires-clause-made g c =
    call_made c.pass.inside.seat.me c.take_turn-before.new.seat.me c.take_turn-before.ensures.turn
    (λ n x. fetch_entry n x) c.fetch_in_hand-outgoing.new.seat.me c.fetch_in_hand-outgoing.result
    (λ u x. fetches_own u x) c.pass.invariant.4 c.fetch_in_hand-outgoing.ensures.did
    c.fetch_in_hand-outgoing.ensures.err

pub returns-clause-told : goal.returns-clause-told
returns-clause-told g c =
    ok_called c.fetch_in_hand-outgoing.new.seat.me c.finish-pass-inside.new.seat.me
    (passes c.pass.inside.seat.me c.take_turn-before.new.seat.me c.take_turn-before.ensures.turn c.pass.view_is
    c.pass.invariant.2 c.pass.invariant.4) c.finish-pass-inside.ensures.settled c.fetch_in_hand-outgoing.result
    (λ n x w past. x ≡ next_outgoing w past c.args.kind) (λ n x w past. fetch_entry n x)
    (λ x w past. fetches_own c.args.pass.now x) c.fetch_in_hand-outgoing.ensures.reply
    c.fetch_in_hand-outgoing.ensures.did

pub returns-clause-none : goal.returns-clause-none
returns-clause-none g c =
    ok_none c.fetch_in_hand-outgoing.new.seat.me c.finish-pass-inside.new.seat.me
    (passes c.pass.inside.seat.me c.take_turn-before.new.seat.me c.take_turn-before.ensures.turn c.pass.view_is
    c.pass.invariant.2 c.pass.invariant.4) c.finish-pass-inside.ensures.settled c.fetch_in_hand-outgoing.result
    (λ n w past. next_outgoing w past c.args.kind) (λ n x. fetch_entry n x) refl
    c.fetch_in_hand-outgoing.ensures.reply c.fetch_in_hand-outgoing.ensures.did

pub returns-clause-err : goal.returns-clause-err
returns-clause-err g c =
    err_saw c.fetch_in_hand-outgoing.new.seat.me c.finish-pass-inside.new.seat.me
    (passes c.pass.inside.seat.me c.take_turn-before.new.seat.me c.take_turn-before.ensures.turn c.pass.view_is
    c.pass.invariant.2 c.pass.invariant.4) c.finish-pass-inside.ensures.settled c.fetch_in_hand-outgoing.result
    c.fetch_in_hand-outgoing.ensures.err
