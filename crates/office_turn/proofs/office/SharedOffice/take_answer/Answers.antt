use Rattle.std.proofs.Common.{◌≡◌, refl, true}
use Rattle.office_core.specs.Legal.{is_acting, is_wanted}
use Rattle.office_plain.specs.Entries.{answer_entry}
use Rattle.office_core.specs.Calls as calls
use Rattle.office_turn.proofs.Own.{answers_own}
use Rattle.office_turn.proofs.Telling.{call_made, count_still, err_saw, ok_called, ok_none, passes, stays_by, taken_hand, turn_still}
use Rattle.office_turn.proofs.office.SharedOffice.take_answer.Goals as goal

pub take_answer_in_hand-answer-requires-clause-hand : goal.take_answer_in_hand-answer-requires-clause-hand
take_answer_in_hand-answer-requires-clause-hand g c =
    taken_hand c.pass.inside.seat.me c.take_turn-before.new.seat.me c.take_turn-before.ensures.turn

pub take_answer_in_hand-answer-requires-clause-acts : goal.take_answer_in_hand-answer-requires-clause-acts
take_answer_in_hand-answer-requires-clause-acts g c =
    stays_by (λ n w past. is_acting w past n) c.pass.inside.seat.me c.take_turn-before.new.seat.me
    c.take_turn-before.ensures.turn c.pass.invariant.4 c.pass.view_is c.requires.acts

pub take_answer_in_hand-answer-requires-clause-wanted : goal.take_answer_in_hand-answer-requires-clause-wanted
take_answer_in_hand-answer-requires-clause-wanted g c =
    stays_by (λ n w past. is_wanted past n c.args.call) c.pass.inside.seat.me c.take_turn-before.new.seat.me
    c.take_turn-before.ensures.turn c.pass.invariant.4 c.pass.view_is c.requires.wanted

pub finish-pass-inside-requires-clause-turn : goal.finish-pass-inside-requires-clause-turn
finish-pass-inside-requires-clause-turn g c =
    turn_still c.pass.inside.seat.me c.take_turn-before.new.seat.me c.take_answer_in_hand-answer.new.seat.me
    c.take_turn-before.ensures.turn c.take_answer_in_hand-answer.ensures.view

pub finish-pass-inside-requires-clause-before : goal.finish-pass-inside-requires-clause-before
finish-pass-inside-requires-clause-before g c =
    count_still c.pass.inside.seat.me c.take_turn-before.new.seat.me c.take_answer_in_hand-answer.new.seat.me
    c.take_turn-before.ensures.turn c.take_answer_in_hand-answer.ensures.view _ c.take_turn-before.ensures.count

pub finish-pass-inside-requires-clause-made : goal.finish-pass-inside-requires-clause-made
finish-pass-inside-requires-clause-made g c =
    call_made c.pass.inside.seat.me c.take_turn-before.new.seat.me c.take_turn-before.ensures.turn
    (λ n x. answer_entry n c.args.call x) c.take_answer_in_hand-answer.new.seat.me
    c.take_answer_in_hand-answer.result (λ u x. answers_own u c.args.call x) c.pass.invariant.4
    c.take_answer_in_hand-answer.ensures.did c.take_answer_in_hand-answer.ensures.err

pub returns-clause-told : goal.returns-clause-told
returns-clause-told g c =
    ok_called c.take_answer_in_hand-answer.new.seat.me c.finish-pass-inside.new.seat.me
    (passes c.pass.inside.seat.me c.take_turn-before.new.seat.me c.take_turn-before.ensures.turn c.pass.view_is
    c.pass.invariant.2 c.pass.invariant.4) c.finish-pass-inside.ensures.settled c.take_answer_in_hand-answer.result
    (λ n x w past. x ≡ calls.result w past n c.args.call) (λ n x w past. answer_entry n c.args.call x)
    (λ x w past. answers_own c.args.pass.now c.args.call x) c.take_answer_in_hand-answer.ensures.reply
    c.take_answer_in_hand-answer.ensures.did

pub returns-clause-none : goal.returns-clause-none
returns-clause-none g c =
    ok_none c.take_answer_in_hand-answer.new.seat.me c.finish-pass-inside.new.seat.me
    (passes c.pass.inside.seat.me c.take_turn-before.new.seat.me c.take_turn-before.ensures.turn c.pass.view_is
    c.pass.invariant.2 c.pass.invariant.4) c.finish-pass-inside.ensures.settled c.take_answer_in_hand-answer.result
    (λ n w past. calls.result w past n c.args.call) (λ n x. answer_entry n c.args.call x) refl
    c.take_answer_in_hand-answer.ensures.reply c.take_answer_in_hand-answer.ensures.did

pub returns-clause-err : goal.returns-clause-err
returns-clause-err g c =
    err_saw c.take_answer_in_hand-answer.new.seat.me c.finish-pass-inside.new.seat.me
    (passes c.pass.inside.seat.me c.take_turn-before.new.seat.me c.take_turn-before.ensures.turn c.pass.view_is
    c.pass.invariant.2 c.pass.invariant.4) c.finish-pass-inside.ensures.settled c.take_answer_in_hand-answer.result
    c.take_answer_in_hand-answer.ensures.err
