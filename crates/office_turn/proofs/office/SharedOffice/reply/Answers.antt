use Rattle.std.proofs.Common.{◌≡◌, refl, true}
use Rattle.office_core.specs.Answers.{is_open}
use Rattle.office_core.specs.Boxes.{took}
use Rattle.office_core.specs.Legal.{is_acting}
use Rattle.office_plain.specs.Entries.{entry}
use Rattle.std.specs.Prelude.{Some}
use Rattle.office_core.specs.declared.history.Act.TheVariants as act
use Rattle.office_turn.proofs.Telling.{call_made, count_still, err_saw, ok_made, passes, stays_by, taken_hand, turn_still}
use Rattle.office_turn.proofs.office.SharedOffice.reply.Goals as goal

pub reply_in_hand-replied-requires-clause-hand : goal.reply_in_hand-replied-requires-clause-hand
reply_in_hand-replied-requires-clause-hand g c =
    taken_hand c.pass.inside.seat.me c.take_turn-before.new.seat.me c.take_turn-before.ensures.turn

pub reply_in_hand-replied-requires-clause-acts : goal.reply_in_hand-replied-requires-clause-acts
reply_in_hand-replied-requires-clause-acts g c =
    stays_by (λ n w past. is_acting w past n) c.pass.inside.seat.me c.take_turn-before.new.seat.me
    c.take_turn-before.ensures.turn c.pass.invariant.4 c.pass.view_is c.requires.acts

pub reply_in_hand-replied-requires-clause-took : goal.reply_in_hand-replied-requires-clause-took
reply_in_hand-replied-requires-clause-took g c =
    stays_by (λ n w past. took past n c.args.message) c.pass.inside.seat.me c.take_turn-before.new.seat.me
    c.take_turn-before.ensures.turn c.pass.invariant.4 c.pass.view_is c.requires.took

pub reply_in_hand-replied-requires-clause-open : goal.reply_in_hand-replied-requires-clause-open
reply_in_hand-replied-requires-clause-open g c =
    stays_by (λ n w past. is_open w past c.args.message) c.pass.inside.seat.me c.take_turn-before.new.seat.me
    c.take_turn-before.ensures.turn c.pass.invariant.4 c.pass.view_is c.requires.open

pub finish-pass-inside-requires-clause-turn : goal.finish-pass-inside-requires-clause-turn
finish-pass-inside-requires-clause-turn g c =
    turn_still c.pass.inside.seat.me c.take_turn-before.new.seat.me c.reply_in_hand-replied.new.seat.me
    c.take_turn-before.ensures.turn c.reply_in_hand-replied.ensures.view

pub finish-pass-inside-requires-clause-before : goal.finish-pass-inside-requires-clause-before
finish-pass-inside-requires-clause-before g c =
    count_still c.pass.inside.seat.me c.take_turn-before.new.seat.me c.reply_in_hand-replied.new.seat.me
    c.take_turn-before.ensures.turn c.reply_in_hand-replied.ensures.view _ c.take_turn-before.ensures.count

pub finish-pass-inside-requires-clause-made : goal.finish-pass-inside-requires-clause-made
finish-pass-inside-requires-clause-made g c =
    call_made c.pass.inside.seat.me c.take_turn-before.new.seat.me c.take_turn-before.ensures.turn
    (λ n x. Some (entry n (act.Reply c.args.message c.args.outcome))) c.reply_in_hand-replied.new.seat.me
    c.reply_in_hand-replied.result (λ u x. record { by = refl; goes = refl }) c.pass.invariant.4
    c.reply_in_hand-replied.ensures.did c.reply_in_hand-replied.ensures.err

pub returns-clause-told : goal.returns-clause-told
returns-clause-told g c =
    ok_made c.reply_in_hand-replied.new.seat.me c.finish-pass-inside.new.seat.me
    (passes c.pass.inside.seat.me c.take_turn-before.new.seat.me c.take_turn-before.ensures.turn c.pass.view_is
    c.pass.invariant.2 c.pass.invariant.4) c.finish-pass-inside.ensures.settled c.reply_in_hand-replied.result
    (λ n w past. Some (entry n (act.Reply c.args.message c.args.outcome)))
    (λ w past. record { by = refl; goes = refl }) c.reply_in_hand-replied.ensures.did

pub returns-clause-err : goal.returns-clause-err
returns-clause-err g c =
    err_saw c.reply_in_hand-replied.new.seat.me c.finish-pass-inside.new.seat.me
    (passes c.pass.inside.seat.me c.take_turn-before.new.seat.me c.take_turn-before.ensures.turn c.pass.view_is
    c.pass.invariant.2 c.pass.invariant.4) c.finish-pass-inside.ensures.settled c.reply_in_hand-replied.result
    c.reply_in_hand-replied.ensures.err
