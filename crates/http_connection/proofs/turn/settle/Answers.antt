-- Each piece carries what passed along, until no more bytes are to be read.
use Rattle.std.proofs.Common.{◌<◌, ◌^◌, length, refl, sym, ap, ◌∙◌, arith, true≢false}
use Rattle.http_connection.specs.Stages.{is_waiting}
use Rattle.http_connection.specs.Talking.{log}
use Rattle.http_connection.proofs.Passing.{waits_where}
use Rattle.http_connection.proofs.Reading.{reads_less}
use Rattle.http_connection.proofs.Calls.{called_nothing, called_on}
use Rattle.http_connection.proofs.Ends.{waiting_unended}
use Rattle.http_connection.proofs.turn.settle.Goals as goal

pub loop-wire-init : goal.loop-wire-init
loop-wire-init g c = record {
  hands = λ held. absurd (true≢false (sym (ap is_waiting c.requires) ∙ held));
  talks = λ first bodies texts h. h;
  called = λ first bodies texts h.
      called_nothing (g.W.Wire.told c.args.wire.now).calls (g.W.Wire.told c.args.wire.now).calls (log c.args.kept.now.read.items c.args.kept.now.written.items bodies texts) (log c.args.kept.now.read.items c.args.kept.now.written.items bodies texts) refl refl refl;
  ended = λ first bodies texts h o e. absurd (waiting_unended c.args.kept.now.next c.requires e);
}

pub read_on-requires : goal.read_on-requires
read_on-requires g c = waits_where c.loop-wire.kept.next (sym c.waits.ensures ∙ c.loop-wire-test.true)

pub loop-wire-preserved : goal.loop-wire-preserved
loop-wire-preserved g c = record {
  hands = c.in_ok-read_on.ensures.next;
  talks = λ first bodies texts h. c.in_ok-read_on.ensures.talks first bodies texts (c.loop-wire.invariant.talks first bodies texts h);
  called = λ first bodies texts h.
      called_on (g.W.Wire.told c.args.wire.now).calls (g.W.Wire.told c.loop-wire.wire).calls (g.W.Wire.told c.read_on.new.wire).calls (log c.args.kept.now.read.items c.args.kept.now.written.items bodies texts) (log c.loop-wire.kept.read.items c.loop-wire.kept.written.items bodies texts) (log c.read_on.new.kept.read.items c.read_on.new.kept.written.items bodies texts) refl refl (c.loop-wire.invariant.called first bodies texts h)
      (c.in_ok-read_on.ensures.called first bodies texts (c.loop-wire.invariant.talks first bodies texts h));
  ended = λ first bodies texts h o e. c.in_ok-read_on.ensures.ended first bodies texts (c.loop-wire.invariant.talks first bodies texts h) o e;
}

pub loop-wire-smaller : goal.loop-wire-smaller
loop-wire-smaller g c =
    let before = c.loop-wire.kept in
    let now = c.read_on.new.kept in
    let few : length before.read.items < 2 ^ 63 = omega (arith, before.read.ok.0, before.read.ok.1, before.read.small) in
    let fits : length now.read.items < 2 ^ 63 = omega (arith, now.read.ok.0, now.read.ok.1, now.read.small) in
    reads_less before now (sym c.waits.ensures ∙ c.loop-wire-test.true) c.in_ok-read_on.ensures.further few fits

pub returns-in_err-read_on-clause-talks : goal.returns-in_err-read_on-clause-talks
returns-in_err-read_on-clause-talks g c = λ first bodies texts h. c.in_err-read_on.ensures.talks first bodies texts (c.loop-wire.invariant.talks first bodies texts h)

pub returns-clause-talks : goal.returns-clause-talks
returns-clause-talks g c = c.loop-wire.invariant.talks

pub returns-clause-next : goal.returns-clause-next
returns-clause-next g c = c.loop-wire.invariant.hands (sym c.waits.ensures ∙ c.loop-wire-test.false)

pub returns-in_err-read_on-clause-called : goal.returns-in_err-read_on-clause-called
returns-in_err-read_on-clause-called g c = λ first bodies texts h.
    called_on (g.W.Wire.told c.args.wire.now).calls (g.W.Wire.told c.loop-wire.wire).calls (g.W.Wire.told c.read_on.new.wire).calls (log c.args.kept.now.read.items c.args.kept.now.written.items bodies texts) (log c.loop-wire.kept.read.items c.loop-wire.kept.written.items bodies texts) (log c.read_on.new.kept.read.items c.read_on.new.kept.written.items bodies texts) refl refl (c.loop-wire.invariant.called first bodies texts h)
    (c.in_err-read_on.ensures.called first bodies texts (c.loop-wire.invariant.talks first bodies texts h))

pub returns-clause-called : goal.returns-clause-called
returns-clause-called g c = c.loop-wire.invariant.called

pub returns-in_err-read_on-clause-ended : goal.returns-in_err-read_on-clause-ended
returns-in_err-read_on-clause-ended g c = λ first bodies texts h. c.in_err-read_on.ensures.ended first bodies texts (c.loop-wire.invariant.talks first bodies texts h)

pub returns-clause-ended : goal.returns-clause-ended
returns-clause-ended g c = c.loop-wire.invariant.ended
