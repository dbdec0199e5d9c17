-- A look sees all that happened, and leaves it as it was.
use Rattle.std.proofs.Common.{[], refl}
use Rattle.std.proofs.lemmas.Result.{IfOk-weaker}
use Rattle.run_cells.proofs.Offices.{look_same, look_works}
use Rattle.run_cells.proofs.Seeing.{may_exact, on_any}
use Rattle.test_seats.specs.Seats.{run_state_in, stand_in}
use Rattle.session_turn.proofs.Growing.{grew_alone}
use Rattle.test_seats.proofs.seat.Seat.may_act.Goals as goal

pub may_act-requires-clause-pass : goal.may_act-requires-clause-pass
may_act-requires-clause-pass c = c.requires.desk

pub may_act-requires-clause-kept : goal.may_act-requires-clause-kept
may_act-requires-clause-kept c =
    ∣ (c.args.self.now.events, c.requires.team.each 0 (stand_in c.args.self.now) refl) ∣₁

pub returns-clause-same : goal.returns-clause-same
returns-clause-same c =
    look_same (run_state_in c.args.self.now []) c.may_act.new.pass c.may_act.result
    (on_any c.may_act.result (grew_alone refl c.may_act.ensures.grew))

pub returns-clause-exact : goal.returns-clause-exact
returns-clause-exact c =
    IfOk-weaker c.may_act.result _ _
    (λ b m. may_exact refl (c.requires.team.each 0 (stand_in c.args.self.now) refl) (grew_alone refl c.may_act.ensures.grew) refl refl m)
    c.may_act.ensures.exact

pub returns-clause-seated : goal.returns-clause-seated
returns-clause-seated c =
    look_works {c = run_state_in c.args.self.now []} c.may_act.new.pass c.may_act.result c.requires
    (on_any c.may_act.result c.may_act.ensures.pass)
    (on_any c.may_act.result (grew_alone refl c.may_act.ensures.grew))
