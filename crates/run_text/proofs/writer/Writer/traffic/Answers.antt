use Rattle.std.proofs.Common.{refl, arith, flat_map, map}
use Rattle.run_text.specs.declared.line.Line.TheVariants as line
use Rattle.run_text.specs.Lines.{line_text}
use Rattle.run_text.proofs.Turns.{turn, ended}
use Rattle.run_text.proofs.writer.Writer.traffic.Goals as goal

pub loop-traffic-preserved : goal.loop-traffic-preserved
loop-traffic-preserved c =
    turn (λ xs. flat_map line_text (map line.Traffic xs)) (λ x. line_text (line.Traffic x)) c.loop-traffic.self c.traffic_line.new.self _ c.args.traffic.now c.loop-traffic.traffic-index c.traffic-item.result c.traffic-item.result
    (λ y ys. refl) c.loop-traffic-test.true c.traffic-item.is c.in_ok-traffic_line.ensures c.loop-traffic.invariant

pub returns : goal.returns
returns c =
    ended (λ xs. flat_map line_text (map line.Traffic xs)) c.loop-traffic.self _ c.args.traffic.now c.loop-traffic.traffic-index refl (omega (arith, c.loop-traffic-test.false)) c.loop-traffic.invariant
