-- What the reader brings passes, and nothing is sent.
use Rattle.std.proofs.Common.{◌≡◌, false, sym, ◌∙◌}
use Rattle.behaviour_tree.specs.PartsView.{parts_of}
use Rattle.run_lines.specs.Reading.{input_of, Fails}
use Rattle.run_lines.proofs.Exchanging.{asked-so}
use Rattle.run_lines.proofs.Pieces.{memory-noted}
use Rattle.run_lines.proofs.front.LineFrontFront.next.Goals as goal

pub returns-then-spent-clause-came : goal.returns-then-spent-clause-came
returns-then-spent-clause-came g c = λ first before h yet running quiet. h

pub returns-then-spent-clause-memory : goal.returns-then-spent-clause-memory
returns-then-spent-clause-memory g c = sym c.spent.ensures ∙ c.if-spent.true

pub returns-clause-came : goal.returns-clause-came
returns-clause-came g c = λ first before h yet running quiet.
    let failed : first.kept.now.reader.failed ≡ false → Fails c.next-came.new.self.failed (g.S.Source.told first.source.now).faults (g.S.Source.told c.next-came.new.source).faults =
    λ is. c.next-came.ensures.failed (g.S.Source.told first.source.now).faults (h.4 is) in
    asked-so (parts_of c.args._program.now) _ _ _ _ _ h.0 h.1 h.2 h.3 failed _ _ before h.5
    (input_of c.next-came.new.self.lines c.next-came.new.self.reads c.next-came.new.self.over (g.S.Source.told c.next-came.new.source).unread (g.S.Source.told c.next-came.new.source).faults)
    c.next-came.ensures.longer.0 c.next-came.ensures.longer.1 running c.next-came.result
    (c.next-came.ensures.came (parts_of c.args._program.now) _ before.received c.requires.some h.5.received yet)

pub returns-clause-memory : goal.returns-clause-memory
returns-clause-memory g c =
    memory-noted c.next-came.result c.args.self.now.kept.now.spent c.is_err-wanting.result (sym c.spent.ensures ∙ c.if-spent.false) c.is_err-wanting.ensures.value
