-- A round: the sessions have their turns, then calls go out and come back.
use Rattle.std.proofs.Common.{◌∙◌, refl, sym, true≢false}
use Rattle.run_cells.specs.View.{state}
use Rattle.run_sweep.specs.Swept.{NotesBy, NotesMore}
use Rattle.run_sweep.proofs.Notes.{failing, notes_none, passed_none, passed_as}
use Rattle.run_sweep.proofs.Rounds.{settled_one, settled_two, half_swept, half_completed_calls, half_notes, still_half, round_of}
use Rattle.run_sweep.proofs.Rounds.{round_swept, round_completed_calls, round_notes, round_received, round_less, round_quiet}
use Rattle.run_sweep.proofs.Rounds.{round_still, again_by, unfailed_by, not_halted, halted_only}
use Rattle.run_sweep.proofs.sweeping.go_round.Goals as goal

pub note_all-requires-clause-settled : goal.note_all-requires-clause-settled
note_all-requires-clause-settled g c =
    settled_one c.in_ok-turned.ensures.went c.in_ok-turned.ensures.work.team c.requires.settled c.requires.received

pub trip_all-requires-clause-settled : goal.trip_all-requires-clause-settled
trip_all-requires-clause-settled g c = settled_two c.in_ok-noted.ensures.cleared

-- ---- the front halted

pub returns-then-halted-clause-swept : goal.returns-then-halted-clause-swept
returns-then-halted-clause-swept g c =
    half_swept c.requires.work.team c.in_ok-turned.ensures.went c.in_ok-turned.ensures.work.team c.requires.settled
    c.requires.received c.in_ok-noted.ensures.cleared

pub returns-then-halted-clause-completed : goal.returns-then-halted-clause-completed
returns-then-halted-clause-completed g c =
    let two = state g.S.Session c.note_all.new.cells in
    let now = g.L.Link.told c.args.link.now in
    half_completed_calls two.history now c.in_ok-turned.ensures.went c.in_ok-turned.ensures.work.team c.requires.settled
    c.requires.received (c.in_ok-noted.ensures.completed now)

pub returns-then-halted-clause-noted : goal.returns-then-halted-clause-noted
returns-then-halted-clause-noted g c =
    let old = state g.S.Session c.args.cells.now in
    let one = state g.S.Session c.all_turns.new.self in
    let two = state g.S.Session c.note_all.new.cells in
    passed_as g.F.Front.exchanged c.args.front.now c.note_all.new.front (NotesBy one.setting one.history two.history)
    (NotesBy old.setting old.history two.history) c.in_ok-noted.ensures.noted
    (half_notes two.history c.in_ok-turned.ensures.went c.in_ok-turned.ensures.work.team c.requires.settled
    c.requires.received)

pub returns-then-halted-clause-halted : goal.returns-then-halted-clause-halted
returns-then-halted-clause-halted g c =
    λ is parts first now d. sym (c.halted.ensures parts first now d) ∙ c.if-halted.true

pub returns-then-halted-clause-heeded : goal.returns-then-halted-clause-heeded
returns-then-halted-clause-heeded g c = λ not. absurd (not refl)

pub returns-then-halted-clause-still : goal.returns-then-halted-clause-still
returns-then-halted-clause-still g c =
    λ q. (
      halted_only,
      still_half c.in_ok-turned.ensures.went c.in_ok-turned.ensures.work.team c.requires.settled
          c.requires.received c.in_ok-noted.ensures.cleared,
    )

-- ---- the whole round

pub returns-clause-swept : goal.returns-clause-swept
returns-clause-swept g c =
    round_swept c.requires.work.team
    (round_of c.in_ok-turned.ensures.went c.in_ok-turned.ensures.work.team c.requires.settled c.requires.received
    c.in_ok-noted.ensures.cleared c.in_ok-travelled.ensures.cleared)

pub returns-clause-completed : goal.returns-clause-completed
returns-clause-completed g c =
    let two = state g.S.Session c.note_all.new.cells in
    let now = g.L.Link.told c.args.link.now in
    let went = c.in_ok-turned.ensures.went in
    let team = c.in_ok-turned.ensures.work.team in
    round_completed_calls now (g.L.Link.told c.trip_all.new.link)
    (round_of went team c.requires.settled c.requires.received c.in_ok-noted.ensures.cleared
    c.in_ok-travelled.ensures.cleared)
    (half_completed_calls two.history now went team c.requires.settled c.requires.received (c.in_ok-noted.ensures.completed now))
    c.in_ok-travelled.ensures.completed

pub returns-clause-noted : goal.returns-clause-noted
returns-clause-noted g c =
    let old = state g.S.Session c.args.cells.now in
    let one = state g.S.Session c.all_turns.new.self in
    let two = state g.S.Session c.note_all.new.cells in
    let three = state g.S.Session c.trip_all.new.cells in
    let went = c.in_ok-turned.ensures.went in
    let team = c.in_ok-turned.ensures.work.team in
    let r = round_of went team c.requires.settled c.requires.received c.in_ok-noted.ensures.cleared
    c.in_ok-travelled.ensures.cleared in
    passed_as g.F.Front.exchanged c.args.front.now c.note_all.new.front (NotesBy one.setting one.history two.history)
    (NotesBy old.setting old.history three.history) c.in_ok-noted.ensures.noted
    (λ a b n. round_notes r c.in_ok-travelled.ensures.noted a b
    (half_notes two.history went team c.requires.settled c.requires.received a b n))

pub returns-clause-again : goal.returns-clause-again
returns-clause-again g c =
    let r = round_of c.in_ok-turned.ensures.went c.in_ok-turned.ensures.work.team c.requires.settled c.requires.received
    c.in_ok-noted.ensures.cleared c.in_ok-travelled.ensures.cleared in
    λ is. (round_received r, round_less r (again_by _ _ c.came_to.ensures is))

pub returns-clause-unfailed : goal.returns-clause-unfailed
returns-clause-unfailed g c =
    let r = round_of c.in_ok-turned.ensures.went c.in_ok-turned.ensures.work.team c.requires.settled c.requires.received
    c.in_ok-noted.ensures.cleared c.in_ok-travelled.ensures.cleared in
    λ is. round_quiet r (unfailed_by _ _ c.came_to.ensures is)

pub returns-clause-halted : goal.returns-clause-halted
returns-clause-halted g c = λ is. absurd (not_halted _ _ c.came_to.ensures is)

pub returns-clause-heeded : goal.returns-clause-heeded
returns-clause-heeded g c = λ not parts first now d. sym (c.halted.ensures parts first now d) ∙ c.if-halted.false

pub returns-clause-stopped : goal.returns-clause-stopped
returns-clause-stopped g c = λ is. absurd (not_halted _ _ c.came_to.ensures is)

pub returns-clause-still : goal.returns-clause-still
returns-clause-still g c =
    let r = round_of c.in_ok-turned.ensures.went c.in_ok-turned.ensures.work.team c.requires.settled c.requires.received
    c.in_ok-noted.ensures.cleared c.in_ok-travelled.ensures.cleared in
    λ q. (λ is. true≢false (sym (again_by _ _ c.came_to.ensures is) ∙ (round_still r q).0), (round_still r q).1)

-- ---- memory was wanting

pub returns-in_err-turned-clause-noted : goal.returns-in_err-turned-clause-noted
returns-in_err-turned-clause-noted g c =
    failing _ _ c.from_residual.result c.from_residual.ensures.1
    (passed_none g.F.Front.exchanged c.args.front.now NotesMore notes_none)

pub returns-in_err-noted-clause-program : goal.returns-in_err-noted-clause-program
returns-in_err-noted-clause-program g c = c.note_all.ensures.program ∙ c.all_turns.ensures.program

pub returns-in_err-noted-clause-noted : goal.returns-in_err-noted-clause-noted
returns-in_err-noted-clause-noted g c =
    failing _ _ c.from_residual-in_err-noted.result c.from_residual-in_err-noted.ensures.1 c.in_err-noted.ensures.noted

pub returns-then-halted-clause-program : goal.returns-then-halted-clause-program
returns-then-halted-clause-program g c = c.note_all.ensures.program ∙ c.all_turns.ensures.program

pub returns-in_err-travelled-clause-program : goal.returns-in_err-travelled-clause-program
returns-in_err-travelled-clause-program g c =
    c.trip_all.ensures.program ∙ c.note_all.ensures.program ∙ c.all_turns.ensures.program

pub returns-in_err-travelled-clause-noted : goal.returns-in_err-travelled-clause-noted
returns-in_err-travelled-clause-noted g c =
    let one = state g.S.Session c.all_turns.new.self in
    let two = state g.S.Session c.note_all.new.cells in
    failing _ _ c.from_residual-in_err-travelled.result c.from_residual-in_err-travelled.ensures.1
    (passed_as g.F.Front.exchanged c.args.front.now c.note_all.new.front
    (NotesBy one.setting one.history two.history) NotesMore
    c.in_ok-noted.ensures.noted (λ a b n. n.0))

pub returns-clause-program : goal.returns-clause-program
returns-clause-program g c =
    c.trip_all.ensures.program ∙ c.note_all.ensures.program ∙ c.all_turns.ensures.program
