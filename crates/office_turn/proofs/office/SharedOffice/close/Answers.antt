use Rattle.std.proofs.Common.{◌≡◌, refl, true}
use Rattle.office_turn.specs.Calls.{closing_entry}
use Rattle.office_turn.specs.Hands.{past_in_hand}
use Rattle.office_turn.proofs.Own.{closes_own}
use Rattle.office_turn.proofs.Telling.{call_did, count_still, made_told, passes, taken_hand, turn_still, worker_number, works_now}
use Rattle.office_sharing.specs.Named.{parts_by}
use Rattle.office_turn.proofs.office.SharedOffice.close.Goals as goal

pub close_in_hand-requires-clause-hand : goal.close_in_hand-requires-clause-hand
close_in_hand-requires-clause-hand g c =
    taken_hand c.pass.inside.seat.me c.take_turn-before.new.seat.me c.take_turn-before.ensures.turn

pub close_in_hand-requires-clause-works : goal.close_in_hand-requires-clause-works
close_in_hand-requires-clause-works g c =
    works_now c.pass.inside.seat.me c.take_turn-before.new.seat.me c.take_turn-before.ensures.turn
    c.pass.inside.number (worker_number c.pass.inside.number c.pass.inside.seat.me.0 _ c.pass.invariant.4
    c.pass.view_is c.requires.worker)

pub finish-pass-inside-requires-clause-turn : goal.finish-pass-inside-requires-clause-turn
finish-pass-inside-requires-clause-turn g c =
    turn_still c.pass.inside.seat.me c.take_turn-before.new.seat.me c.close_in_hand.new.seat.me
    c.take_turn-before.ensures.turn c.close_in_hand.ensures.view

pub finish-pass-inside-requires-clause-before : goal.finish-pass-inside-requires-clause-before
finish-pass-inside-requires-clause-before g c =
    count_still c.pass.inside.seat.me c.take_turn-before.new.seat.me c.close_in_hand.new.seat.me
    c.take_turn-before.ensures.turn c.close_in_hand.ensures.view _ c.take_turn-before.ensures.count

pub finish-pass-inside-requires-clause-made : goal.finish-pass-inside-requires-clause-made
finish-pass-inside-requires-clause-made g c =
    call_did c.pass.inside.seat.me c.take_turn-before.new.seat.me c.take_turn-before.ensures.turn
    (closing_entry (past_in_hand (parts_by g.N.Naming.program) c.take_turn-before.new.seat.me)) c.close_in_hand.new.seat.me
    (λ u. closes_own u (past_in_hand (parts_by g.N.Naming.program) c.take_turn-before.new.seat.me)) c.pass.invariant.4
    c.close_in_hand.ensures.did

pub returns : goal.returns
returns g c = record {
  told =
      made_told c.close_in_hand.new.seat.me c.finish-pass-inside.new.seat.me
      (passes c.pass.inside.seat.me c.take_turn-before.new.seat.me c.take_turn-before.ensures.turn c.pass.view_is
      c.pass.invariant.2 c.pass.invariant.4) c.finish-pass-inside.ensures.settled (λ n w past. closing_entry past n)
      (λ w past. closes_own c.args.pass.now past) c.close_in_hand.ensures.did;
}
