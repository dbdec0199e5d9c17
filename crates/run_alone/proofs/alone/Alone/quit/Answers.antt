-- The run is ended.
use Rattle.std.proofs.Common.{ap, ◌∙◌}
use Rattle.behaviour_tree.specs.PartsView.{parts_of}
use Rattle.run_cells.specs.RunStates.{events_of}
use Rattle.run_posts.specs.CallStates.{waits}
use Rattle.run_alone.proofs.Looks.{tells_under}
use Rattle.run_alone.proofs.Picking.{goes_ended}
use Rattle.run_alone.proofs.Quitting.{between_under, closed_under, open_stopped, quits_first, spent_as, stop_same}
use Rattle.run_alone.proofs.Completing.{completed_ended, completed_calls_into}
use Rattle.run_alone.proofs.alone.Alone.quit.Goals as goal

pub collect_all-requires-clause-collectable : goal.collect_all-requires-clause-collectable
collect_all-requires-clause-collectable g c =
    let e = c.in_ok-rest.ensures in
    let a = c.in_ok-adopt_all.ensures in
    (open_stopped e.rested a.adopted (stop_same c.in_ok-spent.ensures.same c.stop.ensures.added) e.work.team a.work.team
    c.stop.ensures.legal
    (between_under _ _ e.pendings c.requires.between).opens).uncollected

pub returns-clause-completed : goal.returns-clause-completed
returns-clause-completed g c =
    let e = c.in_ok-rest.ensures in
    let a = c.in_ok-adopt_all.ensures in
    λ text finished left.
    completed_calls_into left.history
    (completed_ended (waits c.rest.new.self.pendings) e.rested a.adopted (stop_same c.in_ok-spent.ensures.same c.stop.ensures.added)
    c.in_ok-collect_all.ensures.collected a.work.team.legal c.stop.ensures.legal left.legal e.completed)

pub returns-clause-ran : goal.returns-clause-ran
returns-clause-ran g c =
    let e = c.in_ok-rest.ensures in
    let a = c.in_ok-adopt_all.ensures in
    let k = c.in_ok-collect_all.ensures in
    let exchanged = g.F.Front.exchanged in
    let parts = parts_of c.args.self.now.cells.program in
    let program = ap parts_of
    (c.program.ensures ∙ k.program ∙ c.stop.ensures.program ∙ c.in_ok-spent.ensures.program ∙ a.program ∙ e.program) in
    let between = between_under _ _ e.pendings c.requires.between in
    let stop = stop_same c.in_ok-spent.ensures.same c.stop.ensures.added in
    λ text finished left first new before so closed none_left.
    quits_first
    (record {
      rest = e.rested;
      adopt = a.adopted;
      stop = stop;
      collect = k.collected;
      waits = k.waiting;
      team0 = c.requires.work.team;
      team1 = e.work.team;
      team2 = a.work.team;
      legal = left.legal;
    })
    between _ _ (exchanged parts first c.rest.new.front) (exchanged parts first c.tell_finished.new.front) new before left.program
    (record {
      history = left.history;
      sessions = left.sessions ∙ ap events_of (k.collected.stands ∙ stop.stands);
      traffic = left.traffic;
      spent = spent_as left.spent c.in_ok-spent.ensures.exact;
    })
    (closed_under _ _ e.pendings closed)
    none_left
    (e.noted parts first before so closed)
    (λ mid now expected.
    tells_under exchanged c.rest.new.front c.tell_finished.new.front _ _ program c.in_ok-tell_finished.ensures.told first mid
    now expected)

pub returns-clause-goes : goal.returns-clause-goes
returns-clause-goes g c =
    λ text finished left.
    goes_ended (waits c.rest.new.self.pendings) c.in_ok-rest.ensures.rested c.in_ok-adopt_all.ensures.adopted
    (stop_same c.in_ok-spent.ensures.same c.stop.ensures.added) c.in_ok-collect_all.ensures.collected
    c.in_ok-adopt_all.ensures.work.team left.history left.sessions
