-- The next session is adopted and seated, if it was born.
use Rattle.std.proofs.Common.{subst, sym, ◌∙◌}
use Rattle.std.proofs.lemmas.Bool.{false≢true}
use Rattle.office_plain.specs.Entries.{adopt_entry}
use Rattle.office_plain.specs.View.{Adds}
use Rattle.run_cells.specs.Awake.{IsOn}
use Rattle.run_cells.specs.View.{run_state}
use Rattle.run_cells.specs.Turns.{one}
use Rattle.run_cells.proofs.Looping.{count_is, seated_awake}
use Rattle.run_cells.proofs.Offices.{count_fits, nobody_born, nobody_works, seat_known, somebody_born, somebody_works}
use Rattle.run_cells.proofs.Teams.{few_stands}
use Rattle.run_cells.proofs.cells.Cells.adopt_next.Goals as goal

pub overflow_cast-number : goal.overflow_cast-number
overflow_cast-number g c = count_fits _ c.args.self.now.cells.items c.len-count.result (c.len-count.ensures ∙ c.args.self.now.cells.ok.0) (few_stands _ c.requires.work.team)

pub returns-in_default-clause-adopts : goal.returns-in_default-clause-adopts
returns-in_default-clause-adopts g c =
    let count = c.len-count.result in
    nobody_born c.adopt.new.self count c.requires.work
    (subst (λ b. Adds (adopt_entry count b) c.args.self.now.office c.adopt.new.self) c.in_default.is c.in_ok-born.ensures.added)
    (count_is _ c.args.self.now.cells.items count (c.len-count.ensures ∙ c.args.self.now.cells.ok.0))
    (sym c.in_default.is ∙ c.in_ok-born.ensures.birth)

pub returns-in_default-clause-work : goal.returns-in_default-clause-work
returns-in_default-clause-work g c =
    let count = c.len-count.result in
    nobody_works c.adopt.new.self c.requires.work
    (subst (λ b. Adds (adopt_entry count b) c.args.self.now.office c.adopt.new.self) c.in_default.is c.in_ok-born.ensures.added)
    c.in_ok-born.ensures.ready

pub returns-in_default-clause-awake : goal.returns-in_default-clause-awake
returns-in_default-clause-awake g c = λ e. absurd (false≢true e)

pub seat-requires : goal.seat-requires
seat-requires g c = record {
  known = seat_known c.requires.work c.len-count.result c.in-Some.birth (sym c.in-Some.is ∙ c.in_ok-born.ensures.birth);
}

pub returns-clause-adopts : goal.returns-clause-adopts
returns-clause-adopts g c =
    let count = c.len-count.result in
    one (somebody_born
    (run_state g.S.Session c.seat.new.self)
    c.in-Some.birth count c.adopt.new.self c.requires.work
    (record { program = c.seat.ensures.program; budget = c.seat.ensures.budget; picks = c.seat.ensures.picks; stands = c.in_ok-seat.ensures.stands; awake = seated_awake _ _ c.in_ok-seat.ensures.awake (c.len-count.ensures ∙ c.args.self.now.cells.ok.0); senders = c.seat.ensures.senders; heard = c.seat.ensures.heard })
    (count_is _ c.args.self.now.cells.items count (c.len-count.ensures ∙ c.args.self.now.cells.ok.0)) c.seat.ensures.office
    (subst (λ b. Adds (adopt_entry count b) c.args.self.now.office c.adopt.new.self) c.in-Some.is c.in_ok-born.ensures.added)
    (sym c.in-Some.is ∙ c.in_ok-born.ensures.birth))

pub returns-clause-awake : goal.returns-clause-awake
returns-clause-awake g c =
    λ e. subst (IsOn c.seat.new.self.news.awake) (c.len-count.ensures ∙ c.args.self.now.cells.ok.0) c.in_ok-seat.ensures.awake.here

pub returns-clause-work : goal.returns-clause-work
returns-clause-work g c =
    let count = c.len-count.result in
    let added = subst (λ b. Adds (adopt_entry count b) c.args.self.now.office c.adopt.new.self) c.in-Some.is c.in_ok-born.ensures.added in
    somebody_works
    (run_state g.S.Session c.seat.new.self)
    c.in-Some.birth count c.adopt.new.self c.requires.work
    (record { program = c.seat.ensures.program; budget = c.seat.ensures.budget; picks = c.seat.ensures.picks; stands = c.in_ok-seat.ensures.stands; awake = seated_awake _ _ c.in_ok-seat.ensures.awake (c.len-count.ensures ∙ c.args.self.now.cells.ok.0); senders = c.seat.ensures.senders; heard = c.seat.ensures.heard })
    c.seat.ensures.office added c.in_ok-born.ensures.ready
    (somebody_born
    (run_state g.S.Session c.seat.new.self)
    c.in-Some.birth count c.adopt.new.self c.requires.work
    (record { program = c.seat.ensures.program; budget = c.seat.ensures.budget; picks = c.seat.ensures.picks; stands = c.in_ok-seat.ensures.stands; awake = seated_awake _ _ c.in_ok-seat.ensures.awake (c.len-count.ensures ∙ c.args.self.now.cells.ok.0); senders = c.seat.ensures.senders; heard = c.seat.ensures.heard })
    (count_is _ c.args.self.now.cells.items count (c.len-count.ensures ∙ c.args.self.now.cells.ok.0)) c.seat.ensures.office added
    (sym c.in-Some.is ∙ c.in_ok-born.ensures.birth))
