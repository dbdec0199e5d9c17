-- What a run over lines leaves, by its front and by what that kept.
use Rattle.std.proofs.Common.{refl, sym, ap, ◌∙◌}
use Rattle.behaviour_tree.specs.PartsView.{parts_of}
use Rattle.run_lines.specs.Passing.{read_in}
use Rattle.run_lines.specs.Keeping.{sides_in}
use Rattle.run_lines.proofs.Lined.{fails_never, lined-by, outside_by}
use Rattle.run_lines.proofs.run.run_lines.Goals as goal

pub returns : goal.returns
returns g c = λ doors.
    let begun = c.new-front.ensures.begun (parts_of c.args.program) in
    let unfailed = ap (λ k. k.reader.failed) c.new-front.ensures.kept ∙ c.new-kept.ensures.failed in
    let after = c.in_ok-finished.ensures.ran c.new-front.result begun.0
    (refl, refl, refl, refl, fails_never c.new-front.result.kept.now.reader.failed (g.I.Source.told c.new-front.result.source.now).faults, begun.2) begun.1 in
    let kept = c.kept-2-1.given.1 (sym (after.1.3 ∙ c.new-front.ensures.same_kept)) in
    lined-by (record { parts = parts_of c.args.program; text = c.args.text.now; budget = c.args.budget; picks = c.args.picks.now })
    (sides_in c.new-front.result.kept.now (g.I.Source.told c.new-front.result.source.now).unread (g.I.Source.told c.new-front.result.source.now).faults
    (g.K.Sink.told c.new-front.result.output.now) (g.N.Sink.told c.new-front.result.notes.now))
    (sides_in c.run_over.new.front.kept.now (g.I.Source.told c.run_over.new.front.source.now).unread (g.I.Source.told c.run_over.new.front.source.now).faults
    (g.K.Sink.told c.run_over.new.front.output.now) (g.N.Sink.told c.run_over.new.front.notes.now))
    after.0 c.in_ok-finished.finished after.2 after.1.5 c.in_ok-finished.ensures.picks
    c.run_over.new.front.kept.now.reader.failed (after.1.4 unfailed)
    (g.L.Link.told c.args.link.now) (g.L.Link.told c.run_over.new.link)
    c.in_ok-finished.ensures.trips doors _ _ _
    c.failed.result c.halted.result c.into_traffic.result
    (rw (c.new-front.ensures.source, c.new-front.ensures.output, c.new-front.ensures.notes) refl)
    (outside_by g.I.Source.told g.K.Sink.told g.N.Sink.told doors _ _ _ _ _ _ _
    (sym (c.input-1.given.1 (sym (after.1.0 ∙ c.new-front.ensures.same_source))))
    (sym (c.output-1.given.1 (sym (after.1.1 ∙ c.new-front.ensures.same_output))))
    (sym (c.notes-1.given.1 (sym (after.1.2 ∙ c.new-front.ensures.same_notes)))))
    c.status_of-status.ensures (c.failed.ensures ∙ ap (λ k. k.reader.failed) kept)
    (c.halted.ensures ∙ ap (λ k. k.halted) kept ∙ sym after.1.5.sent.halted)
    c.in_ok-report.ensures
    (c.into_traffic.ensures.read ∙ ap (λ k. read_in k.reader.lines) kept)
    (c.into_traffic.ensures.written ∙ ap (λ k. k.written.items) kept)
