-- Behind the interim line the reader gives what follows it.
use Rattle.std.proofs.Common.{refl, ap, ◌∙◌, [], None, subst}
use Rattle.http_port.specs.Feeding.{Feeds}
use Rattle.http_port.specs.Responses.{interim}
use Rattle.http_port.specs.declared.head_reader.Fed.TheVariants.{Interim}
use Rattle.http_connection.specs.Seen.{seen}
use Rattle.http_connection.specs.Steps.{Sends}
use Rattle.http_connection.proofs.Passing.{carried_on, spent_talks, untold, sent_failing, invited_on, fed_now}
use Rattle.http_connection.proofs.Calls.{writes_alike, writes_on}
use Rattle.http_connection.proofs.Reading.{invited_once}
use Rattle.http_connection.proofs.turn.invite.Goals as goal

pub take_up-requires-clause-fed : goal.take_up-requires-clause-fed
take_up-requires-clause-fed g c =
    invited_once c.args.kept.now.reader c.feed.new.self.reader [] c.in_ok-fed.fed c.requires.invited
    (subst (λ p. Feeds p [] c.in_ok-fed.fed c.feed.new.self.reader) c.in_ok-cut.ensures.sends.reader c.in_ok-fed.ensures.gives)

pub returns-in_err-cut-clause-talks : goal.returns-in_err-cut-clause-talks
returns-in_err-cut-clause-talks g c = λ first bodies texts h.
    let was = seen c.args.kept.now (g.W.Wire.told c.args.wire.now) in
    let now = seen c.send.new.kept (g.W.Wire.told c.send.new.wire) in
    spent_talks first now bodies texts
    (carried_on first was now h.carried (record {
      line = ap (λ w. g.W.Wire.told w) c.in_err-cut.ensures.sends.1;
      read = c.in_err-cut.ensures.sends.0.read;
      written = c.in_err-cut.ensures.sends.0.written;
    }))
    (c.in_err-cut.ensures.sends.0.next ∙ c.requires.next)

pub returns-then-cut-clause-talks : goal.returns-then-cut-clause-talks
returns-then-cut-clause-talks g c = λ first bodies texts h.
    let was = seen c.args.kept.now (g.W.Wire.told c.args.wire.now) in
    let mid = seen c.send.new.kept (g.W.Wire.told c.send.new.wire) in
    let now = seen c.finish.new.kept (g.W.Wire.told c.finish.new.wire) in
    untold first now bodies texts
    (sent_failing first was mid now Interim None bodies texts h (subst (λ cut. Sends interim cut was mid) c.if-cut.true c.in_ok-cut.ensures.sends) c.finish.ensures.finishes)

pub returns-in_err-fed-clause-talks : goal.returns-in_err-fed-clause-talks
returns-in_err-fed-clause-talks g c = λ first bodies texts h.
    let was = seen c.args.kept.now (g.W.Wire.told c.args.wire.now) in
    let mid = seen c.send.new.kept (g.W.Wire.told c.send.new.wire) in
    let now = seen c.feed.new.self (g.W.Wire.told c.send.new.wire) in
    let sent = subst (λ cut. Sends interim cut was mid) c.if-cut.false c.in_ok-cut.ensures.sends in
    let going = invited_on first was mid bodies texts h sent in
    spent_talks first now bodies texts
    (carried_on first mid now going.carried (record { line = refl; read = c.in_err-fed.ensures.read; written = c.in_err-fed.ensures.written }))
    (c.in_err-fed.ensures.next ∙ sent.next ∙ c.requires.next)

pub returns-clause-talks : goal.returns-clause-talks
returns-clause-talks g c = λ first bodies texts h.
    let was = seen c.args.kept.now (g.W.Wire.told c.args.wire.now) in
    let mid = seen c.send.new.kept (g.W.Wire.told c.send.new.wire) in
    let now = seen c.feed.new.self (g.W.Wire.told c.send.new.wire) in
    let sent = subst (λ cut. Sends interim cut was mid) c.if-cut.false c.in_ok-cut.ensures.sends in
    c.take_up.ensures.talks first bodies texts
    (fed_now first mid now [] c.in_ok-fed.fed bodies texts (invited_on first was mid bodies texts h sent)
    (record { line = refl; read = c.in_ok-fed.ensures.read; written = c.in_ok-fed.ensures.written }) c.in_ok-fed.ensures.gives)

pub returns-then-cut-clause-wrote : goal.returns-then-cut-clause-wrote
returns-then-cut-clause-wrote g c =
    writes_on (g.W.Wire.told c.args.wire.now).calls (g.W.Wire.told c.send.new.wire).calls (g.W.Wire.told c.finish.new.wire).calls c.args.kept.now.written.items c.send.new.kept.written.items c.finish.new.kept.written.items
    c.in_ok-cut.ensures.wrote c.finish.ensures.wrote

pub returns-in_err-fed-clause-wrote : goal.returns-in_err-fed-clause-wrote
returns-in_err-fed-clause-wrote g c =
    writes_alike (g.W.Wire.told c.args.wire.now).calls (g.W.Wire.told c.send.new.wire).calls c.args.kept.now.written.items c.send.new.kept.written.items c.args.kept.now.written.items c.feed.new.self.written.items c.in_ok-cut.ensures.wrote refl c.in_err-fed.ensures.written

pub returns-clause-wrote : goal.returns-clause-wrote
returns-clause-wrote g c =
    writes_on (g.W.Wire.told c.args.wire.now).calls (g.W.Wire.told c.send.new.wire).calls (g.W.Wire.told c.take_up.new.wire).calls c.args.kept.now.written.items c.feed.new.self.written.items c.take_up.new.kept.written.items
    (writes_alike (g.W.Wire.told c.args.wire.now).calls (g.W.Wire.told c.send.new.wire).calls c.args.kept.now.written.items c.send.new.kept.written.items c.args.kept.now.written.items c.feed.new.self.written.items c.in_ok-cut.ensures.wrote refl c.in_ok-fed.ensures.written) c.take_up.ensures.wrote
