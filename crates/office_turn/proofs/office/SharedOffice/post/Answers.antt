use Rattle.std.proofs.Common.{◌≡◌, refl, true}
use Rattle.office_core.specs.Route.{post_reply, route}
use Rattle.office_plain.specs.Entries.{post_entry}
use Rattle.office_turn.proofs.Own.{posts_own}
use Rattle.office_turn.proofs.Telling.{call_made, count_still, err_saw, ok_called, passes, taken_hand, turn_still, worker_number, works_now}
use Rattle.office_turn.proofs.office.SharedOffice.post.Goals as goal

pub post_in_hand-reply-requires-clause-hand : goal.post_in_hand-reply-requires-clause-hand
post_in_hand-reply-requires-clause-hand g c =
    taken_hand c.pass.inside.seat.me c.take_turn-before.new.seat.me c.take_turn-before.ensures.turn

pub post_in_hand-reply-requires-clause-works : goal.post_in_hand-reply-requires-clause-works
post_in_hand-reply-requires-clause-works g c =
    works_now c.pass.inside.seat.me c.take_turn-before.new.seat.me c.take_turn-before.ensures.turn
    c.pass.inside.number (worker_number c.pass.inside.number c.pass.inside.seat.me.0 _ c.pass.invariant.4
    c.pass.view_is c.requires.worker)

pub finish-pass-inside-requires-clause-turn : goal.finish-pass-inside-requires-clause-turn
finish-pass-inside-requires-clause-turn g c =
    turn_still c.pass.inside.seat.me c.take_turn-before.new.seat.me c.post_in_hand-reply.new.seat.me
    c.take_turn-before.ensures.turn c.post_in_hand-reply.ensures.view

pub finish-pass-inside-requires-clause-before : goal.finish-pass-inside-requires-clause-before
finish-pass-inside-requires-clause-before g c =
    count_still c.pass.inside.seat.me c.take_turn-before.new.seat.me c.post_in_hand-reply.new.seat.me
    c.take_turn-before.ensures.turn c.post_in_hand-reply.ensures.view _ c.take_turn-before.ensures.count

pub finish-pass-inside-requires-clause-made : goal.finish-pass-inside-requires-clause-made
finish-pass-inside-requires-clause-made g c =
    call_made c.pass.inside.seat.me c.take_turn-before.new.seat.me c.take_turn-before.ensures.turn
    (λ n x. post_entry n c.args.origin c.args.posted x) c.post_in_hand-reply.new.seat.me c.post_in_hand-reply.result
    (λ u x. posts_own u c.args.origin c.args.posted x) c.pass.invariant.4 c.post_in_hand-reply.ensures.did
    c.post_in_hand-reply.ensures.err

pub returns-clause-told : goal.returns-clause-told
returns-clause-told g c =
    ok_called c.post_in_hand-reply.new.seat.me c.finish-pass-inside.new.seat.me
    (passes c.pass.inside.seat.me c.take_turn-before.new.seat.me c.take_turn-before.ensures.turn c.pass.view_is
    c.pass.invariant.2 c.pass.invariant.4) c.finish-pass-inside.ensures.settled c.post_in_hand-reply.result
    (λ n x w past. x ≡ post_reply past (route w past c.args.posted))
    (λ n x w past. post_entry n c.args.origin c.args.posted x)
    (λ x w past. posts_own c.args.pass.now c.args.origin c.args.posted x) c.post_in_hand-reply.ensures.reply
    c.post_in_hand-reply.ensures.did

pub returns-clause-err : goal.returns-clause-err
returns-clause-err g c =
    err_saw c.post_in_hand-reply.new.seat.me c.finish-pass-inside.new.seat.me
    (passes c.pass.inside.seat.me c.take_turn-before.new.seat.me c.take_turn-before.ensures.turn c.pass.view_is
    c.pass.invariant.2 c.pass.invariant.4) c.finish-pass-inside.ensures.settled c.post_in_hand-reply.result
    c.post_in_hand-reply.ensures.err
