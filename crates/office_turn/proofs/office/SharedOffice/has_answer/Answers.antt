use Rattle.std.proofs.Common.{ap, ◌≡◌, true}
use Rattle.std.specs.Prelude.{is_some}
use Rattle.office_core.specs.Calls as calls
use Rattle.office_core.specs.Legal.{is_acting, is_wanted}
use Rattle.atomic_table.specs.Table.{Me}
use Rattle.office_plain.specs.declared.office.Office.{Office}
use Rattle.office_sharing.specs.declared.view.View.{View}
use Rattle.office_turn.proofs.Telling.{count_still, look_made, ok_found, passes, same_did, saw, stays_by, taken_hand, turn_still}
use Rattle.office_turn.proofs.office.SharedOffice.has_answer.Goals as goal

pub has_answer_in_hand-found-requires-clause-hand : goal.has_answer_in_hand-found-requires-clause-hand
has_answer_in_hand-found-requires-clause-hand g c =
    taken_hand c.pass.inside.seat.me c.take_turn-before.new.seat.me c.take_turn-before.ensures.turn

pub has_answer_in_hand-found-requires-clause-acts : goal.has_answer_in_hand-found-requires-clause-acts
has_answer_in_hand-found-requires-clause-acts g c =
    stays_by (λ n w past. is_acting w past n) c.pass.inside.seat.me
    c.take_turn-before.new.seat.me c.take_turn-before.ensures.turn c.pass.invariant.4 c.pass.view_is c.requires.acts

pub has_answer_in_hand-found-requires-clause-wanted : goal.has_answer_in_hand-found-requires-clause-wanted
has_answer_in_hand-found-requires-clause-wanted g c =
    stays_by (λ n w past. is_wanted past n c.args.call) c.pass.inside.seat.me c.take_turn-before.new.seat.me
    c.take_turn-before.ensures.turn c.pass.invariant.4 c.pass.view_is c.requires.wanted

pub finish-pass-inside-requires-clause-turn : goal.finish-pass-inside-requires-clause-turn
finish-pass-inside-requires-clause-turn g c =
    turn_still c.pass.inside.seat.me c.take_turn-before.new.seat.me c.has_answer_in_hand-found.new.seat.me
    c.take_turn-before.ensures.turn (ap (λ (x : Me Office View). x.0) c.has_answer_in_hand-found.ensures.same)

pub finish-pass-inside-requires-clause-before : goal.finish-pass-inside-requires-clause-before
finish-pass-inside-requires-clause-before g c =
    count_still c.pass.inside.seat.me c.take_turn-before.new.seat.me c.has_answer_in_hand-found.new.seat.me
    c.take_turn-before.ensures.turn (ap (λ (x : Me Office View). x.0) c.has_answer_in_hand-found.ensures.same) _
    c.take_turn-before.ensures.count

pub finish-pass-inside-requires-clause-made : goal.finish-pass-inside-requires-clause-made
finish-pass-inside-requires-clause-made g c =
    look_made c.pass.inside.seat.me c.take_turn-before.new.seat.me c.has_answer_in_hand-found.new.seat.me
    c.take_turn-before.ensures.turn c.has_answer_in_hand-found.ensures.same

pub returns-clause-saw : goal.returns-clause-saw
returns-clause-saw g c =
    saw c.has_answer_in_hand-found.new.seat.me c.finish-pass-inside.new.seat.me
    (passes c.pass.inside.seat.me c.take_turn-before.new.seat.me c.take_turn-before.ensures.turn c.pass.view_is
    c.pass.invariant.2 c.pass.invariant.4) c.finish-pass-inside.ensures.settled
    (same_did c.has_answer_in_hand-found.new.seat.me c.finish-pass-inside.new.seat.me
    (passes c.pass.inside.seat.me c.take_turn-before.new.seat.me c.take_turn-before.ensures.turn c.pass.view_is
    c.pass.invariant.2 c.pass.invariant.4) c.finish-pass-inside.ensures.settled c.has_answer_in_hand-found.ensures.same)

pub returns-clause-found : goal.returns-clause-found
returns-clause-found g c =
    ok_found c.has_answer_in_hand-found.new.seat.me c.finish-pass-inside.new.seat.me
    (passes c.pass.inside.seat.me c.take_turn-before.new.seat.me c.take_turn-before.ensures.turn c.pass.view_is
    c.pass.invariant.2 c.pass.invariant.4) c.finish-pass-inside.ensures.settled c.has_answer_in_hand-found.result
    (λ n w past. is_some (calls.result w past n c.args.call))
    c.has_answer_in_hand-found.ensures.same c.has_answer_in_hand-found.ensures.found
