-- What was given is waited for, held or refused.
use Rattle.std.proofs.Common.{refl, subst}
use Rattle.http_port.specs.declared.head_reader.Fed.TheVariants.{NotYet, Request}
use Rattle.http_connection.specs.Seen.{seen}
use Rattle.http_connection.specs.Steps.{IsFed}
use Rattle.http_connection.proofs.Passing.{fed_on, waiting_talks, holding_talks}
use Rattle.http_connection.proofs.Calls.{writes_nothing}
use Rattle.http_connection.proofs.turn.take_up.Goals as goal

pub returns-in-NotYet-clause-talks : goal.returns-in-NotYet-clause-talks
returns-in-NotYet-clause-talks g c = λ first bodies texts h.
    let was = seen c.args.kept.now (g.W.Wire.told c.args.wire.now) in
    let now = seen c.stand.new.self (g.W.Wire.told c.args.wire.now) in
    waiting_talks first now bodies texts
    (fed_on first was now NotYet bodies texts (subst (λ f. IsFed first was f bodies texts) c.in-NotYet.is h)
    (record { line = refl; read = c.stand.ensures.read; written = c.stand.ensures.written }) c.stand.ensures.reader)
    c.stand.ensures.next

pub returns-in-Request-clause-talks : goal.returns-in-Request-clause-talks
returns-in-Request-clause-talks g c = λ first bodies texts h.
    let was = seen c.args.kept.now (g.W.Wire.told c.args.wire.now) in
    let now = seen c.stand-in-Request.new.self (g.W.Wire.told c.args.wire.now) in
    holding_talks first now c.in-Request.body c.in-Request.close bodies texts
    (fed_on first was now (Request c.in-Request.body c.in-Request.close) bodies texts (subst (λ f. IsFed first was f bodies texts) c.in-Request.is h)
    (record { line = refl; read = c.stand-in-Request.ensures.read; written = c.stand-in-Request.ensures.written }) c.stand-in-Request.ensures.reader)
    c.stand-in-Request.ensures.next

pub returns-in-Refused-clause-talks : goal.returns-in-Refused-clause-talks
returns-in-Refused-clause-talks g c = λ first bodies texts h.
    c.refuse.ensures.talks first bodies texts (subst (λ f. IsFed first (seen c.args.kept.now (g.W.Wire.told c.args.wire.now)) f bodies texts) c.in-Refused.is h)

pub returns-in-NotYet-clause-wrote : goal.returns-in-NotYet-clause-wrote
returns-in-NotYet-clause-wrote g c =
    writes_nothing (g.W.Wire.told c.args.wire.now).calls (g.W.Wire.told c.args.wire.now).calls c.args.kept.now.written.items c.stand.new.self.written.items refl c.stand.ensures.written

pub returns-in-Request-clause-wrote : goal.returns-in-Request-clause-wrote
returns-in-Request-clause-wrote g c =
    writes_nothing (g.W.Wire.told c.args.wire.now).calls (g.W.Wire.told c.args.wire.now).calls c.args.kept.now.written.items c.stand-in-Request.new.self.written.items refl c.stand-in-Request.ensures.written
