use Rattle.std.proofs.Common.{refl, arith, flat_map, get_or, map}
use Rattle.behaviour_tree.specs.declared.words.Kind.TheVariants as kind
use Rattle.run_text.specs.declared.line.Line.TheVariants as line
use Rattle.run_text.specs.Lines.{line_text}
use Rattle.run_text.proofs.Turns.{turn, ended}
use Rattle.run_text.proofs.writer.Writer.events.Goals as goal

pub loop-event-preserved : goal.loop-event-preserved
loop-event-preserved c =
    turn (λ xs. flat_map line_text (map (line.Event c.args.session) xs)) (λ x. line_text (line.Event c.args.session x)) c.loop-event.self c.event_line.new.self _ c.args.events.now c.loop-event.event-index
    (get_or c.args.events.now c.loop-event.event-index (record { strand = 0; kind = kind.Local; number = 0; place = 0; fault = 0 })) (record { strand = 0; kind = kind.Local; number = 0; place = 0; fault = 0 })
    (λ y ys. refl) c.loop-event-test.true refl c.in_ok-event_line.ensures c.loop-event.invariant

pub returns : goal.returns
returns c =
    ended (λ xs. flat_map line_text (map (line.Event c.args.session) xs)) c.loop-event.self _ c.args.events.now c.loop-event.event-index refl (omega (arith, c.loop-event-test.false)) c.loop-event.invariant
