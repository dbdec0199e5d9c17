use Rattle.std.proofs.Common.{◌++◌, ap, ◌∙◌, arith, flat_map, map}
use Rattle.run_text.specs.declared.line.Line.TheVariants as line
use Rattle.run_text.specs.Lines.{line_text}
use Rattle.run_text.proofs.Turns.{session_turn, sessions_ended}
use Rattle.run_text.proofs.writer.Writer.sessions.Goals as goal

pub loop-session-preserved : goal.loop-session-preserved
loop-session-preserved c =
    session_turn c.loop-session.self c.events.new.self _ c.args.sessions.now c.loop-session.session c.index-sessions-session.result
    c.loop-session-test.true c.index-sessions-session.is
    (c.in_ok-events.ensures ∙ ap (λ es. c.loop-session.self ++ flat_map line_text (map (line.Event c.loop-session.session) es)) c.as_slice.ensures)
    c.loop-session.invariant

pub returns : goal.returns
returns c =
    sessions_ended c.loop-session.self _ c.args.sessions.now c.loop-session.session (omega (arith, c.loop-session-test.false)) c.loop-session.invariant
