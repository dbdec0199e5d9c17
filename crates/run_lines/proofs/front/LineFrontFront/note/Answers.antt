-- A note is written, as far as its sink takes it.
use Rattle.std.proofs.Common.{refl}
use Rattle.run_lines.specs.Writing.{output_of}
use Rattle.run_lines.proofs.Saying.{noted-halted, noted-written}
use Rattle.run_lines.proofs.Exchanging.{noted-so}
use Rattle.run_lines.proofs.front.LineFrontFront.note.Goals as goal

pub returns-then-self-clause-noted : goal.returns-then-self-clause-noted
returns-then-self-clause-noted g c = λ parts first before h notes_failed.
    noted-so parts _ _ _ _ _ h.0 h.1 h.2 h.3 h.4 _ _ before h.5
    (output_of (g.K.Sink.told c.args.self.now.output.now) (g.N.Sink.told c.args.self.now.notes.now) c.args.self.now.kept.now.written.items c.args.self.now.kept.now.halted)
    c.args.text.now (noted-halted parts _ _ _ before.sent h.5.sent c.args.text.now c.if-self.true notes_failed)

pub returns-then-self-clause-memory : goal.returns-then-self-clause-memory
returns-then-self-clause-memory g c = refl

pub returns-clause-noted : goal.returns-clause-noted
returns-clause-noted g c = λ parts first before h notes_failed.
    noted-so parts _ _ _ _ _ h.0 h.1 h.2 h.3 h.4 _ _ before h.5
    (output_of (g.K.Sink.told c.args.self.now.output.now) (g.N.Sink.told c.write_cut-cut.new.sink) c.args.self.now.kept.now.written.items c.write_cut-cut.result)
    c.args.text.now
    (noted-written parts _ _ _ before.sent h.5.sent
    (output_of (g.K.Sink.told c.args.self.now.output.now) (g.N.Sink.told c.write_cut-cut.new.sink) c.args.self.now.kept.now.written.items c.write_cut-cut.result)
    c.args.text.now c.write_cut-cut.ensures.0 c.if-self.false c.write_cut-cut.ensures.1 refl refl c.write_cut-cut.ensures.2)

pub returns-clause-memory : goal.returns-clause-memory
returns-clause-memory g c = refl
