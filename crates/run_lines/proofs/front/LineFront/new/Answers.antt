-- Nothing passed yet.
use Rattle.run_lines.proofs.Exchanging.{nothing_exchanged}
use Rattle.run_lines.proofs.front.LineFront.new.Goals as goal

pub returns-clause-begun : goal.returns-clause-begun
returns-clause-begun g c = λ parts.
    rw (c.requires.empty.lines, c.requires.empty.reads, c.requires.empty.over, c.requires.empty.written, c.requires.empty.halted)
    (nothing_exchanged parts (g.S.Source.told c.args.source.now).unread (g.S.Source.told c.args.source.now).faults
    (g.K.Sink.told c.args.output.now) (g.N.Sink.told c.args.notes.now))
