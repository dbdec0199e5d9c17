use Rattle.std.proofs.Common.{◌≡◌, ◌++◌, drop, flat_map}
use Rattle.run_text.specs.Lines.{line_text, event_lines}
use Rattle.run_text.proofs.writer.Writer.sessions.Given as goal

abbrev pub invariant-loop-session : goal.invariant-loop-session
invariant-loop-session l =
    l.self ++ flat_map line_text (event_lines l.session (drop l.session l.sessions))
    ≡ l.fn.self ++ flat_map line_text (event_lines 0 l.sessions)
