use Rattle.std.proofs.Common.{◌≡◌, ◌++◌, drop, flat_map, map}
use Rattle.run_text.specs.Lines.{line_text}
use Rattle.run_text.specs.declared.line.Line.TheVariants as line
use Rattle.run_text.proofs.writer.Writer.events.Given as goal

abbrev pub invariant-loop-event : goal.invariant-loop-event
invariant-loop-event l =
    l.self ++ flat_map line_text (map (line.Event l.session) (drop l.event-index l.events))
    ≡ l.fn.self ++ flat_map line_text (map (line.Event l.session) l.events)
