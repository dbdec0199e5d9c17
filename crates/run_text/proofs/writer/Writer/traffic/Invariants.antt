use Rattle.std.proofs.Common.{◌≡◌, ◌++◌, drop, flat_map, map}
use Rattle.run_text.specs.Lines.{line_text}
use Rattle.run_text.specs.declared.line.Line.TheVariants as line
use Rattle.run_text.proofs.writer.Writer.traffic.Given as goal

abbrev pub invariant-loop-traffic : goal.invariant-loop-traffic
invariant-loop-traffic l =
    l.self ++ flat_map line_text (map line.Traffic (drop l.traffic-index l.traffic)) ≡ l.fn.self ++ flat_map line_text (map line.Traffic l.traffic)
