use Rattle.std.proofs.Common.{◌++◌, ap, ◌∙◌, length, map, flat_map}
use Rattle.run_text.specs.declared.line.Line.TheVariants as line
use Rattle.run_text.specs.Lines.{line_text, event_lines}
use Rattle.run_text.proofs.Lines.{written_in_groups}
use Rattle.run_text.proofs.record.record_text.Goals as goal

pub returns : goal.returns
returns c =
    let r = c.args.run.now in
    c.finished.ensures
    ∙ written_in_groups line_text line.Version (line.Program r.program) (map line.Entry r.history.entries.items) (line.Sessions (length r.sessions))
    (event_lines 0 r.sessions) (map line.Traffic r.traffic) line.Ending
    c.new-writer.result c.version_line.new.self c.program_line.new.self c.entries.new.self c.sessions_line.new.self c.sessions.new.self c.traffic.new.self c.ending_line.new.self
    c.new-writer.ensures c.in_ok-version_line.ensures
    (c.in_ok-program_line.ensures ∙ ap (λ b. c.version_line.new.self ++ line_text (line.Program b)) c.as_slice.ensures)
    (c.in_ok-entries.ensures ∙ ap (λ es. c.program_line.new.self ++ flat_map line_text (map line.Entry es)) c.as_slice-2.ensures.value)
    (c.in_ok-sessions_line.ensures ∙ ap (λ n. c.entries.new.self ++ line_text (line.Sessions n)) c.len.ensures)
    (c.in_ok-sessions.ensures ∙ ap (λ es. c.sessions_line.new.self ++ flat_map line_text (event_lines 0 es)) c.as_slice-3.ensures)
    (c.in_ok-traffic.ensures ∙ ap (λ ts. c.sessions.new.self ++ flat_map line_text (map line.Traffic ts)) c.as_slice-4.ensures)
    c.in_ok-ending_line.ensures
