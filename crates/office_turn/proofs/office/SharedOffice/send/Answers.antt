use Rattle.std.proofs.Common.{◌≡◌, refl, true}
use Rattle.office_core.specs.Calls.{next_call}
use Rattle.office_core.specs.Legal.{is_acting}
use Rattle.office_core.specs.Limits.{run_of}
use Rattle.office_plain.specs.Entries.{replied_entry}
use Rattle.std.specs.Prelude.{nat_eq}
use Rattle.office_core.specs.declared.history.Act.TheVariants as act
use Rattle.office_core.specs.declared.history.Placed.TheVariants as at
use Rattle.office_sharing.specs.Named.{parts_by}
use Rattle.office_turn.specs.Hands.{past_in_hand}
use Rattle.office_turn.proofs.Telling.{call_made, count_still, err_saw, ok_made, passes, stays_by, taken_hand, turn_still}
use Rattle.office_turn.proofs.office.SharedOffice.send.Goals as goal

pub send_in_hand-sent-requires-clause-hand : goal.send_in_hand-sent-requires-clause-hand
send_in_hand-sent-requires-clause-hand g c =
    taken_hand c.pass.inside.seat.me c.take_turn-before.new.seat.me c.take_turn-before.ensures.turn

pub send_in_hand-sent-requires-clause-acts : goal.send_in_hand-sent-requires-clause-acts
send_in_hand-sent-requires-clause-acts g c =
    stays_by (λ n w past. is_acting w past n) c.pass.inside.seat.me c.take_turn-before.new.seat.me
    c.take_turn-before.ensures.turn c.pass.invariant.4 c.pass.view_is c.requires.acts

pub send_in_hand-sent-requires-clause-next : goal.send_in_hand-sent-requires-clause-next
send_in_hand-sent-requires-clause-next g c =
    stays_by (λ n w past. nat_eq c.args.call (next_call past n)) c.pass.inside.seat.me
    c.take_turn-before.new.seat.me c.take_turn-before.ensures.turn c.pass.invariant.4 c.pass.view_is c.requires.next

pub finish-pass-inside-requires-clause-turn : goal.finish-pass-inside-requires-clause-turn
finish-pass-inside-requires-clause-turn g c =
    turn_still c.pass.inside.seat.me c.take_turn-before.new.seat.me c.send_in_hand-sent.new.seat.me
    c.take_turn-before.ensures.turn c.send_in_hand-sent.ensures.view

pub finish-pass-inside-requires-clause-before : goal.finish-pass-inside-requires-clause-before
finish-pass-inside-requires-clause-before g c =
    count_still c.pass.inside.seat.me c.take_turn-before.new.seat.me c.send_in_hand-sent.new.seat.me
    c.take_turn-before.ensures.turn c.send_in_hand-sent.ensures.view _ c.take_turn-before.ensures.count

pub finish-pass-inside-requires-clause-made : goal.finish-pass-inside-requires-clause-made
finish-pass-inside-requires-clause-made g c =
    call_made c.pass.inside.seat.me c.take_turn-before.new.seat.me c.take_turn-before.ensures.turn
    (λ n x. replied_entry (run_of (parts_by g.N.Naming.program))
    (past_in_hand (parts_by g.N.Naming.program) c.take_turn-before.new.seat.me) n
    (act.Send c.args.call c.args.port c.args.op c.args.value c.args.wants at.Out)) c.send_in_hand-sent.new.seat.me
    c.send_in_hand-sent.result (λ u x. record { by = refl; goes = refl }) c.pass.invariant.4
    c.send_in_hand-sent.ensures.did c.send_in_hand-sent.ensures.err

pub returns-clause-told : goal.returns-clause-told
returns-clause-told g c =
    ok_made c.send_in_hand-sent.new.seat.me c.finish-pass-inside.new.seat.me
    (passes c.pass.inside.seat.me c.take_turn-before.new.seat.me c.take_turn-before.ensures.turn c.pass.view_is
    c.pass.invariant.2 c.pass.invariant.4) c.finish-pass-inside.ensures.settled c.send_in_hand-sent.result
    (λ n w past. replied_entry w past n
    (act.Send c.args.call c.args.port c.args.op c.args.value c.args.wants at.Out))
    (λ w past. record { by = refl; goes = refl }) c.send_in_hand-sent.ensures.did

pub returns-clause-err : goal.returns-clause-err
returns-clause-err g c =
    err_saw c.send_in_hand-sent.new.seat.me c.finish-pass-inside.new.seat.me
    (passes c.pass.inside.seat.me c.take_turn-before.new.seat.me c.take_turn-before.ensures.turn c.pass.view_is
    c.pass.invariant.2 c.pass.invariant.4) c.finish-pass-inside.ensures.settled c.send_in_hand-sent.result
    c.send_in_hand-sent.ensures.err
