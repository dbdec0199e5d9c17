use Rattle.std.proofs.Common.{◌≡◌, refl, true}
use Rattle.office_core.specs.Answers.{answers}
use Rattle.office_core.specs.Keys.{first}
use Rattle.office_core.specs.Legal.{is_collectable}
use Rattle.office_plain.specs.Entries.{collect_entry}
use Rattle.office_turn.proofs.Own.{collects_own}
use Rattle.office_turn.proofs.Telling.{call_made, count_still, err_saw, ok_called, ok_none, passes, stays_by, taken_hand, turn_still, worker_number}
use Rattle.office_turn.proofs.office.SharedOffice.collect.Goals as goal

pub collect_in_hand-answer-requires-clause-hand : goal.collect_in_hand-answer-requires-clause-hand
collect_in_hand-answer-requires-clause-hand g c =
    taken_hand c.pass.inside.seat.me c.take_turn-before.new.seat.me c.take_turn-before.ensures.turn

pub collect_in_hand-answer-requires-clause-worker : goal.collect_in_hand-answer-requires-clause-worker
collect_in_hand-answer-requires-clause-worker g c =
    worker_number c.pass.inside.number c.pass.inside.seat.me.0 _ c.pass.invariant.4 c.pass.view_is c.requires.worker

pub collect_in_hand-answer-requires-clause-collectable : goal.collect_in_hand-answer-requires-clause-collectable
collect_in_hand-answer-requires-clause-collectable g c =
    stays_by (λ n w past. is_collectable past n c.args.message) c.pass.inside.seat.me c.take_turn-before.new.seat.me
    c.take_turn-before.ensures.turn c.pass.invariant.4 c.pass.view_is c.requires.collectable

pub finish-pass-inside-requires-clause-turn : goal.finish-pass-inside-requires-clause-turn
finish-pass-inside-requires-clause-turn g c =
    turn_still c.pass.inside.seat.me c.take_turn-before.new.seat.me c.collect_in_hand-answer.new.seat.me
    c.take_turn-before.ensures.turn c.collect_in_hand-answer.ensures.view

pub finish-pass-inside-requires-clause-before : goal.finish-pass-inside-requires-clause-before
finish-pass-inside-requires-clause-before g c =
    count_still c.pass.inside.seat.me c.take_turn-before.new.seat.me c.collect_in_hand-answer.new.seat.me
    c.take_turn-before.ensures.turn c.collect_in_hand-answer.ensures.view _ c.take_turn-before.ensures.count

pub finish-pass-inside-requires-clause-made : goal.finish-pass-inside-requires-clause-made
finish-pass-inside-requires-clause-made g c =
    call_made c.pass.inside.seat.me c.take_turn-before.new.seat.me c.take_turn-before.ensures.turn
    (λ n x. collect_entry n c.args.message x) c.collect_in_hand-answer.new.seat.me c.collect_in_hand-answer.result
    (λ u x. collects_own u c.args.message x) c.pass.invariant.4 c.collect_in_hand-answer.ensures.did
    c.collect_in_hand-answer.ensures.err

pub returns-clause-told : goal.returns-clause-told
returns-clause-told g c =
    ok_called c.collect_in_hand-answer.new.seat.me c.finish-pass-inside.new.seat.me
    (passes c.pass.inside.seat.me c.take_turn-before.new.seat.me c.take_turn-before.ensures.turn c.pass.view_is
    c.pass.invariant.2 c.pass.invariant.4) c.finish-pass-inside.ensures.settled c.collect_in_hand-answer.result
    (λ n x w past. x ≡ first (answers w past c.args.message)) (λ n x w past. collect_entry n c.args.message x)
    (λ x w past. collects_own c.args.pass.now c.args.message x) c.collect_in_hand-answer.ensures.reply
    c.collect_in_hand-answer.ensures.did

pub returns-clause-none : goal.returns-clause-none
returns-clause-none g c =
    ok_none c.collect_in_hand-answer.new.seat.me c.finish-pass-inside.new.seat.me
    (passes c.pass.inside.seat.me c.take_turn-before.new.seat.me c.take_turn-before.ensures.turn c.pass.view_is
    c.pass.invariant.2 c.pass.invariant.4) c.finish-pass-inside.ensures.settled c.collect_in_hand-answer.result
    (λ n w past. first (answers w past c.args.message)) (λ n x. collect_entry n c.args.message x) refl
    c.collect_in_hand-answer.ensures.reply c.collect_in_hand-answer.ensures.did

pub returns-clause-err : goal.returns-clause-err
returns-clause-err g c =
    err_saw c.collect_in_hand-answer.new.seat.me c.finish-pass-inside.new.seat.me
    (passes c.pass.inside.seat.me c.take_turn-before.new.seat.me c.take_turn-before.ensures.turn c.pass.view_is
    c.pass.invariant.2 c.pass.invariant.4) c.finish-pass-inside.ensures.settled c.collect_in_hand-answer.result
    c.collect_in_hand-answer.ensures.err
