-- What the turn says of itself is what it came to.
use Rattle.std.proofs.Common.{[], ◌∷◌, refl}
use Rattle.office_plain.specs.View.{entries_of}
use Rattle.run_cells.proofs.Offices.{works_turn_ok}
use Rattle.run_cells.proofs.Turning.{turned_by}
use Rattle.run_cells.specs.Turns.{play, position}
use Rattle.test_seats.specs.Seats.{run_state_in, stand_in, state_with}
use Rattle.test_seats.proofs.AtDesk.{first_awake, later, picked, taken}
use Rattle.test_seats.proofs.seat.Seat.turn.Goals as goal

pub turn_of-requires-clause-pass : goal.turn_of-requires-clause-pass
turn_of-requires-clause-pass c = c.requires.desk

pub turn_of-requires-clause-kept : goal.turn_of-requires-clause-kept
turn_of-requires-clause-kept c = c.requires.team.each 0 (stand_in c.args.self.now) refl

pub returns-clause-turn : goal.returns-clause-turn
returns-clause-turn c =
    let s = c.args.self.now in
    let n = c.turn_of.new in
    let e = c.turn_of.ensures in
    let k = c.requires.team.each 0 (stand_in s) refl in
    taken s n.pass n.session n.events c.args.pick c.turn_of.result
    (turned_by (play (state_with s c.args.pick) 0) (position (stand_in s) (entries_of s.office))
    (position (stand_in (later s n.pass n.session n.events)) (entries_of n.pass))
    c.turn_of.result k.here k.at e.did e.idle e.ended e.spent e.at_end e.at_rest)

pub returns-clause-seated : goal.returns-clause-seated
returns-clause-seated c =
    let s = c.args.self.now in
    let n = c.turn_of.new in
    works_turn_ok (run_state_in (later s n.pass n.session n.events) []) 0 c.turn_of.result (picked s (c.args.pick ∷ []) c.requires)
    c.turn_of.ensures.pass refl refl first_awake (returns-clause-turn c)
