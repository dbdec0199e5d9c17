-- The line of a place is written, as far as the output takes it.
use Rattle.std.proofs.Common.{◌≡◌, true, false, refl, sym, ap₂, ◌∙◌}
use Rattle.std.proofs.lemmas.Result.{err_from_is_err_and}
use Rattle.behaviour_tree.specs.PartsView.{parts_of}
use Rattle.run_lines.specs.Reading.{input_of}
use Rattle.run_lines.specs.Writing.{output_of}
use Rattle.run_lines.specs.Exchanged.{sides_of}
use Rattle.run_lines.specs.Keeping.{sides_in}
use Rattle.run_lines.proofs.Pieces.{at_error}
use Rattle.run_lines.proofs.Saying.{told-halted, told-written}
use Rattle.run_lines.proofs.Exchanging.{told-so, untold-so}
use Rattle.run_lines.proofs.front.LineFrontFront.answer.Goals as goal

pub returns-then-halted-clause-told : goal.returns-then-halted-clause-told
returns-then-halted-clause-told g c = λ first before h due.
    told-so (parts_of c.args.program.now) _ _ _ _ _ h.0 h.1 h.2 h.3 h.4 _ _ before h.5
    (output_of (g.K.Sink.told c.args.self.now.output.now) (g.N.Sink.told c.args.self.now.notes.now) c.args.self.now.kept.now.written.items c.args.self.now.kept.now.halted)
    c.args.place c.args.outcomes.now due
    (told-halted (parts_of c.args.program.now) _ _ _ before.sent h.5.sent (record { place = c.args.place; outcomes = c.args.outcomes.now }) (sym c.halted.ensures ∙ c.if-halted.true))

pub returns-in_err-line-clause-told : goal.returns-in_err-line-clause-told
returns-in_err-line-clause-told g c = λ first before h due.
    let wanting = err_from_is_err_and c.from_residual.result c.from_residual.ensures.1 in
    untold-so (parts_of c.args.program.now) _ _ _ _ _ h.0 h.1 h.2 h.3 h.4 _ _ before h.5 c.from_residual.result wanting.0
    (sides_in c.args.self.now.kept.now (g.S.Source.told c.args.self.now.source.now).unread (g.S.Source.told c.args.self.now.source.now).faults
    (g.K.Sink.told c.args.self.now.output.now) (g.N.Sink.told c.args.self.now.notes.now))
    c.args.place c.args.outcomes.now refl wanting.1

pub returns-in_err-cut-clause-told : goal.returns-in_err-cut-clause-told
returns-in_err-cut-clause-told g c = λ first before h due.
    let wanting = err_from_is_err_and c.from_residual-in_err-cut.result c.from_residual-in_err-cut.ensures.1 in
    untold-so (parts_of c.args.program.now) _ _ _ _ _ h.0 h.1 h.2 h.3 h.4 _ _ before h.5 c.from_residual-in_err-cut.result wanting.0
    (sides_in (record c.args.self.now.kept.now { written = c.write_kept.new.written }) (g.S.Source.told c.args.self.now.source.now).unread (g.S.Source.told c.args.self.now.source.now).faults
    (g.K.Sink.told c.write_kept.new.sink) (g.N.Sink.told c.args.self.now.notes.now))
    c.args.place c.args.outcomes.now
    (ap₂ (λ k w. (sides_of (input_of c.args.self.now.kept.now.reader.lines c.args.self.now.kept.now.reader.reads c.args.self.now.kept.now.reader.over (g.S.Source.told c.args.self.now.source.now).unread (g.S.Source.told c.args.self.now.source.now).faults)
    (output_of (g.K.Sink.told k) (g.N.Sink.told c.args.self.now.notes.now) w c.args.self.now.kept.now.halted))) c.in_err-cut.ensures.1 c.in_err-cut.ensures.0)
    wanting.1

pub returns-clause-told : goal.returns-clause-told
returns-clause-told g c = λ first before h due.
    told-so (parts_of c.args.program.now) _ _ _ _ _ h.0 h.1 h.2 h.3 h.4 _ _ before h.5
    (output_of (g.K.Sink.told c.write_kept.new.sink) (g.N.Sink.told c.args.self.now.notes.now) c.write_kept.new.written.items c.in_ok-cut.cut)
    c.args.place c.args.outcomes.now due
    (told-written (parts_of c.args.program.now) _ _ _ before.sent h.5.sent (record { place = c.args.place; outcomes = c.args.outcomes.now })
    (output_of (g.K.Sink.told c.write_kept.new.sink) (g.N.Sink.told c.args.self.now.notes.now) c.write_kept.new.written.items c.in_ok-cut.cut)
    c.as_bytes.result.now c.in_ok-cut.ensures.0 (sym c.halted.ensures ∙ c.if-halted.false) (c.as_bytes.ensures.value ∙ c.in_ok-line.ensures)
    c.in_ok-cut.ensures.1 refl c.in_ok-cut.ensures.3 c.in_ok-cut.ensures.2)

pub returns-then-spent-clause-told : goal.returns-then-spent-clause-told
returns-then-spent-clause-told g c = λ first before h due. h

pub returns-then-spent-clause-memory : goal.returns-then-spent-clause-memory
returns-then-spent-clause-memory g c = sym c.spent.ensures ∙ c.if-spent.true

pub returns-then-halted-clause-memory : goal.returns-then-halted-clause-memory
returns-then-halted-clause-memory g c = (sym c.spent.ensures ∙ c.if-spent.false, sym c.spent.ensures ∙ c.if-spent.false)

pub returns-in_err-line-clause-memory : goal.returns-in_err-line-clause-memory
returns-in_err-line-clause-memory g c =
    let wanting = err_from_is_err_and c.from_residual.result c.from_residual.ensures.1 in
    at_error c.from_residual.result (λ _. (c.args.self.now.kept.now.spent ≡ false) × (true ≡ false)) (λ _. true ≡ true) wanting.0 wanting.1 refl

pub returns-in_err-cut-clause-memory : goal.returns-in_err-cut-clause-memory
returns-in_err-cut-clause-memory g c =
    let wanting = err_from_is_err_and c.from_residual-in_err-cut.result c.from_residual-in_err-cut.ensures.1 in
    at_error c.from_residual-in_err-cut.result (λ _. (c.args.self.now.kept.now.spent ≡ false) × (true ≡ false)) (λ _. true ≡ true) wanting.0 wanting.1 refl

pub returns-clause-memory : goal.returns-clause-memory
returns-clause-memory g c = (sym c.spent.ensures ∙ c.if-spent.false, refl)
