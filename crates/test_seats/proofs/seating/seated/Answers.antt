-- The session is seated, if it was born.
use Rattle.std.proofs.Common.{sym, subst, ◌∙◌}
use Rattle.office_plain.specs.Entries.{adopt_entry}
use Rattle.office_plain.specs.View.{Adds}
use Rattle.run_cells.proofs.Offices.{seat_known}
use Rattle.test_seats.specs.Opening.{run_state_before}
use Rattle.test_seats.proofs.AtDesk.{nobody, somebody, somebody_seated}
use Rattle.test_seats.proofs.seating.seated.Goals as goal

pub returns-in_default-clause-adopted : goal.returns-in_default-clause-adopted
returns-in_default-clause-adopted c =
    nobody c.args.program.now c.in_ok-office.office c.adopt.new.self c.args.budget c.args.first
    c.in_ok-office.ensures.opened c.in_ok-office.ensures.entries
    (subst (λ b. Adds (adopt_entry 0 b) c.in_ok-office.office c.adopt.new.self) c.in_default.is c.in_ok-born.ensures.added)
    (sym c.in_default.is ∙ c.in_ok-born.ensures.birth)

pub begun-requires : goal.begun-requires
begun-requires c =
    seat_known {c = run_state_before c.args.program.now c.in_ok-office.office 0} c.in_ok-office.ensures.opened 0 c.in-Some.birth
    (sym c.in-Some.is ∙ c.in_ok-born.ensures.birth)

pub returns-clause-adopted : goal.returns-clause-adopted
returns-clause-adopted c =
    let e = c.in_ok-seat.ensures in
    somebody c.args.program.now c.in_ok-office.office c.args.budget c.args.first c.in-Some.birth c.in_ok-seat.seat
    c.in_ok-office.ensures.opened c.in_ok-office.ensures.entries
    (record {
      adopter = c.adopt.new.self;
      added = subst (λ b. Adds (adopt_entry 0 b) c.in_ok-office.office c.adopt.new.self) c.in-Some.is c.in_ok-born.ensures.added;
      ready = c.in_ok-born.ensures.ready;
      is = sym c.in-Some.is ∙ c.in_ok-born.ensures.birth;
      program = e.program;
      office = e.office;
      stand = e.stand;
    })
    e.budget

pub returns-clause-seated : goal.returns-clause-seated
returns-clause-seated c =
    let e = c.in_ok-seat.ensures in
    somebody_seated c.args.program.now c.in_ok-office.office c.in-Some.birth c.in_ok-seat.seat
    c.in_ok-office.ensures.opened
    (record {
      adopter = c.adopt.new.self;
      added = subst (λ b. Adds (adopt_entry 0 b) c.in_ok-office.office c.adopt.new.self) c.in-Some.is c.in_ok-born.ensures.added;
      ready = c.in_ok-born.ensures.ready;
      is = sym c.in-Some.is ∙ c.in_ok-born.ensures.birth;
      program = e.program;
      office = e.office;
      stand = e.stand;
    })
