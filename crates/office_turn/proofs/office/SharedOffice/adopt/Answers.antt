use Rattle.std.proofs.Common.{◌≡◌, refl, true}
use Rattle.office_plain.specs.Entries.{adopt_entry}
use Rattle.office_plain.specs.Replies.{birth_of}
use Rattle.office_turn.proofs.Own.{adopts_own}
use Rattle.office_turn.proofs.Telling.{call_made, count_still, err_saw, ok_called, ok_none, passes, runs_now, taken_hand, turn_still}
use Rattle.office_turn.proofs.office.SharedOffice.adopt.Goals as goal

pub adopt_in_hand-birth-requires-clause-hand : goal.adopt_in_hand-birth-requires-clause-hand
adopt_in_hand-birth-requires-clause-hand g c =
    taken_hand c.pass.inside.seat.me c.take_turn-before.new.seat.me c.take_turn-before.ensures.turn

pub adopt_in_hand-birth-requires-clause-running : goal.adopt_in_hand-birth-requires-clause-running
adopt_in_hand-birth-requires-clause-running g c =
    runs_now c.pass.inside.seat.me c.take_turn-before.new.seat.me c.take_turn-before.ensures.turn

pub finish-pass-inside-requires-clause-turn : goal.finish-pass-inside-requires-clause-turn
finish-pass-inside-requires-clause-turn g c =
    turn_still c.pass.inside.seat.me c.take_turn-before.new.seat.me c.adopt_in_hand-birth.new.seat.me
    c.take_turn-before.ensures.turn c.adopt_in_hand-birth.ensures.view

pub finish-pass-inside-requires-clause-before : goal.finish-pass-inside-requires-clause-before
finish-pass-inside-requires-clause-before g c =
    count_still c.pass.inside.seat.me c.take_turn-before.new.seat.me c.adopt_in_hand-birth.new.seat.me
    c.take_turn-before.ensures.turn c.adopt_in_hand-birth.ensures.view _ c.take_turn-before.ensures.count

pub finish-pass-inside-requires-clause-made : goal.finish-pass-inside-requires-clause-made
finish-pass-inside-requires-clause-made g c =
    call_made c.pass.inside.seat.me c.take_turn-before.new.seat.me c.take_turn-before.ensures.turn
    (λ n x. adopt_entry n x) c.adopt_in_hand-birth.new.seat.me c.adopt_in_hand-birth.result (λ u x. adopts_own u x)
    c.pass.invariant.4 c.adopt_in_hand-birth.ensures.did c.adopt_in_hand-birth.ensures.err

pub returns-clause-told : goal.returns-clause-told
returns-clause-told g c =
    ok_called c.adopt_in_hand-birth.new.seat.me c.finish-pass-inside.new.seat.me
    (passes c.pass.inside.seat.me c.take_turn-before.new.seat.me c.take_turn-before.ensures.turn c.pass.view_is
    c.pass.invariant.2 c.pass.invariant.4) c.finish-pass-inside.ensures.settled c.adopt_in_hand-birth.result
    (λ n x w past. x ≡ birth_of w past n) (λ n x w past. adopt_entry n x) (λ x w past. adopts_own c.args.pass.now x)
    c.adopt_in_hand-birth.ensures.reply c.adopt_in_hand-birth.ensures.did

pub returns-clause-none : goal.returns-clause-none
returns-clause-none g c =
    ok_none c.adopt_in_hand-birth.new.seat.me c.finish-pass-inside.new.seat.me
    (passes c.pass.inside.seat.me c.take_turn-before.new.seat.me c.take_turn-before.ensures.turn c.pass.view_is
    c.pass.invariant.2 c.pass.invariant.4) c.finish-pass-inside.ensures.settled c.adopt_in_hand-birth.result
    (λ n w past. birth_of w past n) (λ n x. adopt_entry n x) refl c.adopt_in_hand-birth.ensures.reply
    c.adopt_in_hand-birth.ensures.did

pub returns-clause-err : goal.returns-clause-err
returns-clause-err g c =
    err_saw c.adopt_in_hand-birth.new.seat.me c.finish-pass-inside.new.seat.me
    (passes c.pass.inside.seat.me c.take_turn-before.new.seat.me c.take_turn-before.ensures.turn c.pass.view_is
    c.pass.invariant.2 c.pass.invariant.4) c.finish-pass-inside.ensures.settled c.adopt_in_hand-birth.result
    c.adopt_in_hand-birth.ensures.err
