-- The rounds follow one another until one does nothing or the front halts.
use Rattle.std.proofs.Common.{◌∙◌, refl, subst, sym}
use Rattle.run_cells.specs.View.{state}
use Rattle.run_trip_laws.specs.Going.{AreSettled}
use Rattle.run_sweep.specs.Swept.{NotesBy, NotesMore}
use Rattle.run_sweep.proofs.Notes.{failing, notes_none, notes_on, notes_mute, passed_none, passed_on}
use Rattle.run_sweep.proofs.Rounds.{swept_none, swept_on, notes_then, completed_calls_then, quiet_then, still_then, unfailed_goes_on}
use Rattle.run_sweep.proofs.sweeping.sweep.Goals as goal

pub loop-init : goal.loop-init
loop-init g c =
    let s = state g.S.Session c.args.cells.now in
    record {
      program = refl;
      work = c.requires.work;
      swept = swept_none s c.requires.settled;
      received = c.requires.received;
      completed = λ first t. t;
      noted = passed_none g.F.Front.exchanged c.args.front.now (NotesBy s.setting s.history s.history)
          (λ d notes_failed. (notes_none d notes_failed, λ so. so));
      still = λ q. (refl, refl);
    }

pub go_round-requires-clause-settled : goal.go_round-requires-clause-settled
go_round-requires-clause-settled g c =
    let i = c.loop.invariant in
    let mid = state g.S.Session c.loop.cells in
    subst (λ w. AreSettled w mid.history) (sym i.swept.setting) i.swept.settled

pub loop-preserved : goal.loop-preserved
loop-preserved g c =
    let s = state g.S.Session c.args.cells.now in
    let mid = state g.S.Session c.loop.cells in
    let new = state g.S.Session c.go_round.new.cells in
    let i = c.loop.invariant in
    let did = c.in_ok-go_round.ensures in
    record {
      program = c.go_round.ensures.program ∙ i.program;
      work = did.work;
      swept = swept_on s mid new i.swept did.swept;
      received = (did.again c.in-Again.is).0;
      completed = completed_calls_then s mid new (g.L.Link.told c.args.link.now) (g.L.Link.told c.loop.link)
          (g.L.Link.told c.go_round.new.link)
          i.swept.setting i.completed did.completed;
      noted = passed_on g.F.Front.exchanged c.args.front.now c.loop.front c.go_round.new.front
          (NotesBy s.setting s.history mid.history) (NotesBy mid.setting mid.history new.history)
          (NotesBy s.setting s.history new.history)
          i.noted did.noted (notes_mute s.setting s.history mid.history) (notes_then s mid new i.swept.setting);
      still = λ q. absurd ((did.still (quiet_then s mid i.swept i.still q)).0 c.in-Again.is);
    }

pub loop-smaller : goal.loop-smaller
loop-smaller g c = (c.in_ok-go_round.ensures.again c.in-Again.is).1

-- ---- at the end

pub returns-in-Idle-clause-swept : goal.returns-in-Idle-clause-swept
returns-in-Idle-clause-swept g c =
    let s = state g.S.Session c.args.cells.now in
    let mid = state g.S.Session c.loop.cells in
    let new = state g.S.Session c.go_round.new.cells in
    swept_on s mid new c.loop.invariant.swept c.in_ok-go_round.ensures.swept

pub returns-in-Idle-clause-completed : goal.returns-in-Idle-clause-completed
returns-in-Idle-clause-completed g c =
    let s = state g.S.Session c.args.cells.now in
    let mid = state g.S.Session c.loop.cells in
    let new = state g.S.Session c.go_round.new.cells in
    let i = c.loop.invariant in
    completed_calls_then s mid new (g.L.Link.told c.args.link.now) (g.L.Link.told c.loop.link)
    (g.L.Link.told c.go_round.new.link)
    i.swept.setting i.completed c.in_ok-go_round.ensures.completed

pub returns-in-Idle-clause-noted : goal.returns-in-Idle-clause-noted
returns-in-Idle-clause-noted g c =
    let s = state g.S.Session c.args.cells.now in
    let mid = state g.S.Session c.loop.cells in
    let new = state g.S.Session c.go_round.new.cells in
    let i = c.loop.invariant in
    passed_on g.F.Front.exchanged c.args.front.now c.loop.front c.go_round.new.front
    (NotesBy s.setting s.history mid.history) (NotesBy mid.setting mid.history new.history)
    (NotesBy s.setting s.history new.history) i.noted c.in_ok-go_round.ensures.noted
    (notes_mute s.setting s.history mid.history) (notes_then s mid new i.swept.setting)

pub returns-in-Idle-clause-quiet : goal.returns-in-Idle-clause-quiet
returns-in-Idle-clause-quiet g c = λ _. c.in_ok-go_round.ensures.unfailed c.in-Idle.is

pub returns-in-Idle-clause-heeded : goal.returns-in-Idle-clause-heeded
returns-in-Idle-clause-heeded g c = λ _. c.in_ok-go_round.ensures.heeded (unfailed_goes_on c.in-Idle.is)

pub returns-in-Idle-clause-still : goal.returns-in-Idle-clause-still
returns-in-Idle-clause-still g c =
    let s = state g.S.Session c.args.cells.now in
    let mid = state g.S.Session c.loop.cells in
    let new = state g.S.Session c.go_round.new.cells in
    let i = c.loop.invariant in
    still_then s mid new i.swept i.still (λ q. (c.in_ok-go_round.ensures.still q).1 q)

pub returns-in-Halted-clause-swept : goal.returns-in-Halted-clause-swept
returns-in-Halted-clause-swept g c =
    let s = state g.S.Session c.args.cells.now in
    let mid = state g.S.Session c.loop.cells in
    let new = state g.S.Session c.go_round.new.cells in
    swept_on s mid new c.loop.invariant.swept c.in_ok-go_round.ensures.swept

pub returns-in-Halted-clause-completed : goal.returns-in-Halted-clause-completed
returns-in-Halted-clause-completed g c =
    let s = state g.S.Session c.args.cells.now in
    let mid = state g.S.Session c.loop.cells in
    let new = state g.S.Session c.go_round.new.cells in
    let i = c.loop.invariant in
    completed_calls_then s mid new (g.L.Link.told c.args.link.now) (g.L.Link.told c.loop.link)
    (g.L.Link.told c.go_round.new.link)
    i.swept.setting i.completed c.in_ok-go_round.ensures.completed

pub returns-in-Halted-clause-noted : goal.returns-in-Halted-clause-noted
returns-in-Halted-clause-noted g c =
    let s = state g.S.Session c.args.cells.now in
    let mid = state g.S.Session c.loop.cells in
    let new = state g.S.Session c.go_round.new.cells in
    let i = c.loop.invariant in
    passed_on g.F.Front.exchanged c.args.front.now c.loop.front c.go_round.new.front
    (NotesBy s.setting s.history mid.history) (NotesBy mid.setting mid.history new.history)
    (NotesBy s.setting s.history new.history) i.noted c.in_ok-go_round.ensures.noted
    (notes_mute s.setting s.history mid.history) (notes_then s mid new i.swept.setting)

pub returns-in-Halted-clause-halted : goal.returns-in-Halted-clause-halted
returns-in-Halted-clause-halted g c = λ _. c.in_ok-go_round.ensures.halted c.in-Halted.is

pub returns-in-Halted-clause-still : goal.returns-in-Halted-clause-still
returns-in-Halted-clause-still g c =
    let s = state g.S.Session c.args.cells.now in
    let mid = state g.S.Session c.loop.cells in
    let new = state g.S.Session c.go_round.new.cells in
    let i = c.loop.invariant in
    still_then s mid new i.swept i.still (λ q. (c.in_ok-go_round.ensures.still q).1 q)

pub returns-in-Idle-clause-program : goal.returns-in-Idle-clause-program
returns-in-Idle-clause-program g c = c.go_round.ensures.program ∙ c.loop.invariant.program

pub returns-in-Halted-clause-program : goal.returns-in-Halted-clause-program
returns-in-Halted-clause-program g c = c.go_round.ensures.program ∙ c.loop.invariant.program

-- ---- memory was wanting

pub returns-in_err-go_round-clause-program : goal.returns-in_err-go_round-clause-program
returns-in_err-go_round-clause-program g c = c.go_round.ensures.program ∙ c.loop.invariant.program

pub returns-in_err-go_round-clause-noted : goal.returns-in_err-go_round-clause-noted
returns-in_err-go_round-clause-noted g c =
    let s = state g.S.Session c.args.cells.now in
    let mid = state g.S.Session c.loop.cells in
    failing _ _ c.from_residual.result c.from_residual.ensures.1
    (passed_on g.F.Front.exchanged c.args.front.now c.loop.front c.go_round.new.front
    (NotesBy s.setting s.history mid.history) NotesMore NotesMore c.loop.invariant.noted c.in_err-go_round.ensures.noted
    (notes_mute s.setting s.history mid.history) (λ a b d x y. notes_on a b d x.0 y))
