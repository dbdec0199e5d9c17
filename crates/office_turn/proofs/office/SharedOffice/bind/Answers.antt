use Rattle.std.proofs.Common.{◌≡◌, refl, true}
use Rattle.office_core.specs.Legal.{bound, has_variable, is_acting}
use Rattle.office_plain.specs.Entries.{entry}
use Rattle.std.specs.Prelude.{Some}
use Rattle.office_core.specs.declared.history.Act.TheVariants as act
use Rattle.office_turn.proofs.Telling.{call_made, count_still, err_saw, ok_called, passes, stays_by, taken_hand, turn_still}
use Rattle.office_turn.proofs.office.SharedOffice.bind.Goals as goal

pub bind_in_hand-reply-requires-clause-hand : goal.bind_in_hand-reply-requires-clause-hand
bind_in_hand-reply-requires-clause-hand g c =
    taken_hand c.pass.inside.seat.me c.take_turn-before.new.seat.me c.take_turn-before.ensures.turn

pub bind_in_hand-reply-requires-clause-acts : goal.bind_in_hand-reply-requires-clause-acts
bind_in_hand-reply-requires-clause-acts g c =
    stays_by (λ n w past. is_acting w past n) c.pass.inside.seat.me c.take_turn-before.new.seat.me
    c.take_turn-before.ensures.turn c.pass.invariant.4 c.pass.view_is c.requires.acts

pub bind_in_hand-reply-requires-clause-has : goal.bind_in_hand-reply-requires-clause-has
bind_in_hand-reply-requires-clause-has g c =
    stays_by (λ n w past. has_variable w past n c.args.variable) c.pass.inside.seat.me
    c.take_turn-before.new.seat.me c.take_turn-before.ensures.turn c.pass.invariant.4 c.pass.view_is c.requires.has

pub finish-pass-inside-requires-clause-turn : goal.finish-pass-inside-requires-clause-turn
finish-pass-inside-requires-clause-turn g c =
    turn_still c.pass.inside.seat.me c.take_turn-before.new.seat.me c.bind_in_hand-reply.new.seat.me
    c.take_turn-before.ensures.turn c.bind_in_hand-reply.ensures.view

pub finish-pass-inside-requires-clause-before : goal.finish-pass-inside-requires-clause-before
finish-pass-inside-requires-clause-before g c =
    count_still c.pass.inside.seat.me c.take_turn-before.new.seat.me c.bind_in_hand-reply.new.seat.me
    c.take_turn-before.ensures.turn c.bind_in_hand-reply.ensures.view _ c.take_turn-before.ensures.count

pub finish-pass-inside-requires-clause-made : goal.finish-pass-inside-requires-clause-made
finish-pass-inside-requires-clause-made g c =
    call_made c.pass.inside.seat.me c.take_turn-before.new.seat.me c.take_turn-before.ensures.turn
    (λ n x. Some (entry n (act.Bind c.args.variable c.args.value x))) c.bind_in_hand-reply.new.seat.me
    c.bind_in_hand-reply.result (λ u x. record { by = refl; goes = refl }) c.pass.invariant.4
    c.bind_in_hand-reply.ensures.did c.bind_in_hand-reply.ensures.err

pub returns-clause-told : goal.returns-clause-told
returns-clause-told g c =
    ok_called c.bind_in_hand-reply.new.seat.me c.finish-pass-inside.new.seat.me
    (passes c.pass.inside.seat.me c.take_turn-before.new.seat.me c.take_turn-before.ensures.turn c.pass.view_is
    c.pass.invariant.2 c.pass.invariant.4) c.finish-pass-inside.ensures.settled c.bind_in_hand-reply.result
    (λ n x w past. Some x ≡ bound w past n c.args.variable c.args.value)
    (λ n x w past. Some (entry n (act.Bind c.args.variable c.args.value x)))
    (λ x w past. record { by = refl; goes = refl }) c.bind_in_hand-reply.ensures.reply
    c.bind_in_hand-reply.ensures.did

pub returns-clause-err : goal.returns-clause-err
returns-clause-err g c =
    err_saw c.bind_in_hand-reply.new.seat.me c.finish-pass-inside.new.seat.me
    (passes c.pass.inside.seat.me c.take_turn-before.new.seat.me c.take_turn-before.ensures.turn c.pass.view_is
    c.pass.invariant.2 c.pass.invariant.4) c.finish-pass-inside.ensures.settled c.bind_in_hand-reply.result
    c.bind_in_hand-reply.ensures.err
