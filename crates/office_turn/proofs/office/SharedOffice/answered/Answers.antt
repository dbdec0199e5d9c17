use Rattle.std.proofs.Common.{◌≡◌, refl, true}
use Rattle.office_core.specs.Legal.{is_fetched}
use Rattle.office_plain.specs.Entries.{entry}
use Rattle.std.specs.Prelude.{Some}
use Rattle.office_core.specs.declared.history.Act.TheVariants as act
use Rattle.office_turn.proofs.Telling.{call_made, count_still, err_saw, ok_made, passes, stays_by, taken_hand, turn_still, worker_number, works_now}
use Rattle.office_turn.proofs.office.SharedOffice.answered.Goals as goal

pub answered_in_hand-brought-requires-clause-hand : goal.answered_in_hand-brought-requires-clause-hand
answered_in_hand-brought-requires-clause-hand g c =
    taken_hand c.pass.inside.seat.me c.take_turn-before.new.seat.me c.take_turn-before.ensures.turn

pub answered_in_hand-brought-requires-clause-works : goal.answered_in_hand-brought-requires-clause-works
answered_in_hand-brought-requires-clause-works g c =
    works_now c.pass.inside.seat.me c.take_turn-before.new.seat.me c.take_turn-before.ensures.turn
    c.pass.inside.number (worker_number c.pass.inside.number c.pass.inside.seat.me.0 _ c.pass.invariant.4
    c.pass.view_is c.requires.worker)

pub answered_in_hand-brought-requires-clause-fetched : goal.answered_in_hand-brought-requires-clause-fetched
answered_in_hand-brought-requires-clause-fetched g c =
    stays_by (λ n w past. is_fetched past n c.args.session c.args.call) c.pass.inside.seat.me
    c.take_turn-before.new.seat.me c.take_turn-before.ensures.turn c.pass.invariant.4 c.pass.view_is
    c.requires.fetched

pub finish-pass-inside-requires-clause-turn : goal.finish-pass-inside-requires-clause-turn
finish-pass-inside-requires-clause-turn g c =
    turn_still c.pass.inside.seat.me c.take_turn-before.new.seat.me c.answered_in_hand-brought.new.seat.me
    c.take_turn-before.ensures.turn c.answered_in_hand-brought.ensures.view

pub finish-pass-inside-requires-clause-before : goal.finish-pass-inside-requires-clause-before
finish-pass-inside-requires-clause-before g c =
    count_still c.pass.inside.seat.me c.take_turn-before.new.seat.me c.answered_in_hand-brought.new.seat.me
    c.take_turn-before.ensures.turn c.answered_in_hand-brought.ensures.view _ c.take_turn-before.ensures.count

pub finish-pass-inside-requires-clause-made : goal.finish-pass-inside-requires-clause-made
finish-pass-inside-requires-clause-made g c =
    call_made c.pass.inside.seat.me c.take_turn-before.new.seat.me c.take_turn-before.ensures.turn
    (λ n x. Some (entry n (act.Answered c.args.session c.args.call c.args.outcome)))
    c.answered_in_hand-brought.new.seat.me c.answered_in_hand-brought.result
    (λ u x. record { by = refl; goes = refl }) c.pass.invariant.4 c.answered_in_hand-brought.ensures.did
    c.answered_in_hand-brought.ensures.err

pub returns-clause-told : goal.returns-clause-told
returns-clause-told g c =
    ok_made c.answered_in_hand-brought.new.seat.me c.finish-pass-inside.new.seat.me
    (passes c.pass.inside.seat.me c.take_turn-before.new.seat.me c.take_turn-before.ensures.turn c.pass.view_is
    c.pass.invariant.2 c.pass.invariant.4) c.finish-pass-inside.ensures.settled c.answered_in_hand-brought.result
    (λ n w past. Some (entry n (act.Answered c.args.session c.args.call c.args.outcome)))
    (λ w past. record { by = refl; goes = refl }) c.answered_in_hand-brought.ensures.did

pub returns-clause-err : goal.returns-clause-err
returns-clause-err g c =
    err_saw c.answered_in_hand-brought.new.seat.me c.finish-pass-inside.new.seat.me
    (passes c.pass.inside.seat.me c.take_turn-before.new.seat.me c.take_turn-before.ensures.turn c.pass.view_is
    c.pass.invariant.2 c.pass.invariant.4) c.finish-pass-inside.ensures.settled c.answered_in_hand-brought.result
    c.answered_in_hand-brought.ensures.err
