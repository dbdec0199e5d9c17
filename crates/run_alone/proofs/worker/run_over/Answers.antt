-- The run from its first call to its last.
use Rattle.std.proofs.Common.{◌<◌, ap, length, subst, sym, ◌∙◌}
use Rattle.behaviour_tree.specs.Data.{ProgramParts}
use Rattle.behaviour_tree.specs.PartsView.{parts_of}
use Rattle.run_cells.specs.RunStates.{State}
use Rattle.run_alone.proofs.Looks.{exchanged_under}
use Rattle.run_alone.proofs.Picking.{took_picks}
use Rattle.run_alone.proofs.Starting.{between_starts, passed_starts, ran_as, travelled_as}
use Rattle.run_alone.proofs.worker.run_over.Goals as goal

pub bring_in-requires-clause-some : goal.bring_in-requires-clause-some
bring_in-requires-clause-some g c =
    subst (λ (p : ProgramParts). 0 < length p.services) (sym c.in_ok-cells.ensures.program) c.requires.some

pub bring_in-requires-clause-between : goal.bring_in-requires-clause-between
bring_in-requires-clause-between g c =
    between_starts _ c.new-pendings.result (ap (λ (s : State). s.history) c.in_ok-cells.ensures.begun) c.new-pendings.ensures.postings
    c.new-pendings.ensures.waiting

pub returns-clause-ran : goal.returns-clause-ran
returns-clause-ran g c =
    let e = c.in_ok-cells.ensures in
    let b = c.in_ok-unfailed.ensures in
    let f = c.in_ok-finished.ensures in
    let exchanged = g.F.Front.exchanged in
    λ first before so new.
    let closed = b.passed first before (exchanged_under exchanged first c.args.front.now before (sym e.program) so) new
    (passed_starts _ c.new-pendings.result (ap (λ (s : State). s.history) e.begun) c.new-pendings.ensures.postings c.new-pendings.ensures.waiting
    before new) in
    ran_as exchanged first c.finish.new.front c.args.text.now before _ (ap parts_of b.program ∙ e.program)
    (b.budget ∙ ap (λ (s : State). s.budget) e.begun)
    (f.ran first before closed.0
    (exchanged_under exchanged first c.bring_in.new.front closed.0 (ap parts_of (sym b.program)) closed.1)
    closed.2.0 closed.2.1)

pub returns-clause-trips : goal.returns-clause-trips
returns-clause-trips g c =
    let e = c.in_ok-cells.ensures in
    let b = c.in_ok-unfailed.ensures in
    let f = c.in_ok-finished.ensures in
    travelled_as (ap parts_of b.program) e.program (ap (λ (s : State). s.history) e.begun) b.completed f.completed

pub returns-clause-picks : goal.returns-clause-picks
returns-clause-picks g c =
    took_picks _ c.args.picks.now c.in_ok-cells.ensures.begun c.in_ok-unfailed.ensures.goes c.in_ok-finished.ensures.goes
