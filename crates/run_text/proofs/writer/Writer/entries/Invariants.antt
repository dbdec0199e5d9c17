use Rattle.std.proofs.Common.{◌≡◌, ◌++◌, drop, flat_map, map}
use Rattle.run_text.specs.Lines.{line_text}
use Rattle.run_text.specs.declared.line.Line.TheVariants as line
use Rattle.run_text.proofs.writer.Writer.entries.Given as goal

abbrev pub invariant-loop-entry : goal.invariant-loop-entry
invariant-loop-entry l =
    l.self ++ flat_map line_text (map line.Entry (drop l.entry-index l.entries)) ≡ l.fn.self ++ flat_map line_text (map line.Entry l.entries)
