use Rattle.std.proofs.Common.{refl, arith, flat_map, map}
use Rattle.run_text.specs.declared.line.Line.TheVariants as line
use Rattle.run_text.specs.Lines.{line_text}
use Rattle.run_text.proofs.Turns.{turn, ended}
use Rattle.run_text.proofs.writer.Writer.entries.Goals as goal

pub loop-entry-preserved : goal.loop-entry-preserved
loop-entry-preserved c =
    turn (λ xs. flat_map line_text (map line.Entry xs)) (λ x. line_text (line.Entry x)) c.loop-entry.self c.entry_line.new.self _ c.args.entries.now c.loop-entry.entry-index c.entry-item.result c.entry-item.result
    (λ y ys. refl) c.loop-entry-test.true c.entry-item.is c.in_ok-entry_line.ensures c.loop-entry.invariant

pub returns : goal.returns
returns c =
    ended (λ xs. flat_map line_text (map line.Entry xs)) c.loop-entry.self _ c.args.entries.now c.loop-entry.entry-index refl (omega (arith, c.loop-entry-test.false)) c.loop-entry.invariant
