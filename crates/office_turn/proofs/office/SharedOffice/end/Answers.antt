use Rattle.std.proofs.Common.{◌≡◌, refl, true}
use Rattle.office_core.specs.Legal.{is_acting}
use Rattle.office_plain.specs.Entries.{entry}
use Rattle.std.specs.Prelude.{Some}
use Rattle.office_core.specs.declared.history.Act.TheVariants as act
use Rattle.office_turn.proofs.Telling.{call_made, count_still, err_saw, ok_made, passes, stays_by, taken_hand, turn_still}
use Rattle.office_turn.proofs.office.SharedOffice.end.Goals as goal

pub end_in_hand-ended-requires-clause-hand : goal.end_in_hand-ended-requires-clause-hand
end_in_hand-ended-requires-clause-hand g c =
    taken_hand c.pass.inside.seat.me c.take_turn-before.new.seat.me c.take_turn-before.ensures.turn

pub end_in_hand-ended-requires-clause-acts : goal.end_in_hand-ended-requires-clause-acts
end_in_hand-ended-requires-clause-acts g c =
    stays_by (λ n w past. is_acting w past n) c.pass.inside.seat.me c.take_turn-before.new.seat.me
    c.take_turn-before.ensures.turn c.pass.invariant.4 c.pass.view_is c.requires.acts

pub finish-pass-inside-requires-clause-turn : goal.finish-pass-inside-requires-clause-turn
finish-pass-inside-requires-clause-turn g c =
    turn_still c.pass.inside.seat.me c.take_turn-before.new.seat.me c.end_in_hand-ended.new.seat.me
    c.take_turn-before.ensures.turn c.end_in_hand-ended.ensures.view

pub finish-pass-inside-requires-clause-before : goal.finish-pass-inside-requires-clause-before
finish-pass-inside-requires-clause-before g c =
    count_still c.pass.inside.seat.me c.take_turn-before.new.seat.me c.end_in_hand-ended.new.seat.me
    c.take_turn-before.ensures.turn c.end_in_hand-ended.ensures.view _ c.take_turn-before.ensures.count

pub finish-pass-inside-requires-clause-made : goal.finish-pass-inside-requires-clause-made
finish-pass-inside-requires-clause-made g c =
    call_made c.pass.inside.seat.me c.take_turn-before.new.seat.me c.take_turn-before.ensures.turn
    (λ n x. Some (entry n act.End)) c.end_in_hand-ended.new.seat.me c.end_in_hand-ended.result
    (λ u x. record { by = refl; goes = refl }) c.pass.invariant.4 c.end_in_hand-ended.ensures.did
    c.end_in_hand-ended.ensures.err

pub returns-clause-told : goal.returns-clause-told
returns-clause-told g c =
    ok_made c.end_in_hand-ended.new.seat.me c.finish-pass-inside.new.seat.me
    (passes c.pass.inside.seat.me c.take_turn-before.new.seat.me c.take_turn-before.ensures.turn c.pass.view_is
    c.pass.invariant.2 c.pass.invariant.4) c.finish-pass-inside.ensures.settled c.end_in_hand-ended.result
    (λ n w past. Some (entry n act.End)) (λ w past. record { by = refl; goes = refl })
    c.end_in_hand-ended.ensures.did

pub returns-clause-err : goal.returns-clause-err
returns-clause-err g c =
    err_saw c.end_in_hand-ended.new.seat.me c.finish-pass-inside.new.seat.me
    (passes c.pass.inside.seat.me c.take_turn-before.new.seat.me c.take_turn-before.ensures.turn c.pass.view_is
    c.pass.invariant.2 c.pass.invariant.4) c.finish-pass-inside.ensures.settled c.end_in_hand-ended.result
    c.end_in_hand-ended.ensures.err
