-- What a run over doors leaves, by its front and by what that kept.
use Rattle.std.proofs.Common.{◌≡◌, ◌||◌, [], refl, sym, ap, subst, ◌∙◌}
use Rattle.behaviour_tree.specs.PartsView.{parts_of}
use Rattle.run_theorem.specs.Ports.{doors_of}
use Rattle.run_door_front.specs.Exchanged.{sides_of}
use Rattle.run_theorem.specs.declared.ended.Ended.{Ended}
use Rattle.std.specs.List.{items_where_true}
use Rattle.run_theorem.specs.Theorem.{Task}
use Rattle.run_doors.specs.Steps.{status_of}
use Rattle.run_doors.proofs.Doored.{doored_by, Ends, empty_so, outside_of, within_so}
use Rattle.run_doors.proofs.run.run_doors.Goals as goal

pub new-front-requires : goal.new-front-requires
new-front-requires g c =
    let o = c.in_ok-ports.ensures in
    record {
      empty =
          empty_so c.new-kept.result (g.D.Doors.told c.args.doors.now).tally (items_where_true o.opened (doors_of (parts_of c.args.program))) (c.new-kept.ensures.doors ∙ o.ports)
          c.new-kept.ensures.connections c.new-kept.ensures.traffics c.new-kept.ensures.halted c.new-kept.ensures.spent;
    }

pub returns : goal.returns
returns g c = λ source output.
    let it : Ended = record { status = c.status_of-status.result; report = c.with_traffic-report.result } in
    let t : Task = record { parts = parts_of c.args.program; text = c.args.text.now; budget = c.args.budget; picks = [] } in
    let was = g.L.Link.told c.args.link.now in
    let is = g.L.Link.told c.run_over.new.link in
    let o = c.in_ok-ports.ensures in
    let begins : c.new-front.result.kept.now.doors ≡ c.in_ok-ports.field-0.ports.items =
    ap (λ k. k.doors) c.new-front.ensures.kept ∙ c.new-kept.ensures.doors in
    let begun = c.new-front.ensures.begun (parts_of c.args.program)
    (within_so t (g.D.Doors.told c.args.doors.now).tally o.opened c.new-front.result.kept.now (begins ∙ o.ports)) in
    let after = c.in_ok-finished.ensures.ran c.new-front.result begun.0 (refl, refl, begun.2) begun.1 in
    let kept = c.kept-2-1.given.1 (sym (after.1.0 ∙ c.new-front.ensures.same_kept)) in
    doored_by
    (λ line. (wire : _) × (line ≡ (g.D.D.W.PollWire.told wire).wire))
    c.args.connections t
    (g.D.Doors.told c.args.doors.now)
    (g.D.Doors.told c.open_doors.new.doors)
    (g.D.Doors.told c.give_back.new.doors)
    c.in_ok-ports.field-0.ports.items c.in_ok-ports.field-0.failed o
    (sides_of c.new-front.result.kept.now (g.N.Sink.told c.new-front.result.notes.now))
    (sides_of c.run_over.new.front.kept.now (g.N.Sink.told c.run_over.new.front.notes.now))
    begins (ap (λ k. k.most) c.new-front.ensures.kept ∙ c.new-kept.ensures.most)
    after.0 c.in_ok-finished.finished after.2 after.1.2
    (ap (λ k. k.spent) (sym kept) ∙ sym c.spent.ensures ∙ c.if-spent.false)
    c.in_ok-finished.ensures.picks
    it
    (subst (λ k. Ends c.in_ok-ports.field-0.failed
    (g.D.Doors.told c.open_doors.new.doors)
    (g.D.Doors.told c.give_back.new.doors)
    k c.in_ok-finished.finished it) kept
    (record {
      back = record { traffic = c.in_ok-back.back.traffic; failed = c.in_ok-back.back.failed };
      closes = c.in_ok-back.ensures;
      status = c.status_of-status.ensures
          ∙ ap (λ b. status_of b (c.in_ok-ports.field-0.failed || c.in_ok-back.back.failed) c.in_ok-finished.finished.spent) c.halted-halted.ensures;
      report = c.with_traffic-report.ensures;
    }))
    source output was is c.in_ok-finished.ensures.trips _ _
    (ap (λ n. outside_of source output (g.D.Doors.told c.args.doors.now)
    (g.N.Sink.told n) was) c.new-front.ensures.notes)
    (ap (λ n. outside_of source output (g.D.Doors.told c.give_back.new.doors)
    (g.N.Sink.told n) is) (sym (c.notes-1.given.1 (sym (after.1.1 ∙ c.new-front.ensures.same_notes)))))
