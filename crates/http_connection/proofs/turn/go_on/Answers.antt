-- What the reader gives is taken up.
use Rattle.std.proofs.Common.{refl, sym, ◌∙◌, subst}
use Rattle.http_port.specs.Feeding.{Feeds}
use Rattle.http_connection.specs.Seen.{seen}
use Rattle.http_connection.specs.Steps.{IsFed}
use Rattle.http_connection.proofs.Passing.{carried_on, spent_talks, fed_now, interim_fed}
use Rattle.http_connection.proofs.Calls.{writes_alike, writes_nothing}
use Rattle.http_connection.proofs.Reading.{invited_then}
use Rattle.http_connection.proofs.turn.go_on.Goals as goal

pub invite-requires-clause-invited : goal.invite-requires-clause-invited
invite-requires-clause-invited g c =
    invited_then c.args.kept.now.reader c.feed.new.self.reader c.args.piece.now
    (subst (λ f. Feeds c.args.kept.now.reader c.args.piece.now f c.feed.new.self.reader) (interim_fed c.in_ok-fed.fed (sym c.is_interim.ensures ∙ c.if-is_interim.true)) c.in_ok-fed.ensures.gives)

pub returns-in_err-fed-clause-talks : goal.returns-in_err-fed-clause-talks
returns-in_err-fed-clause-talks g c = λ first bodies texts h.
    let was = seen c.args.kept.now (g.W.Wire.told c.args.wire.now) in
    let now = seen c.feed.new.self (g.W.Wire.told c.args.wire.now) in
    spent_talks first now bodies texts
    (carried_on first was now h.carried (record { line = refl; read = c.in_err-fed.ensures.read; written = c.in_err-fed.ensures.written }))
    (c.in_err-fed.ensures.next ∙ c.requires)

pub returns-then-is_interim-clause-talks : goal.returns-then-is_interim-clause-talks
returns-then-is_interim-clause-talks g c = λ first bodies texts h.
    let was = seen c.args.kept.now (g.W.Wire.told c.args.wire.now) in
    let now = seen c.feed.new.self (g.W.Wire.told c.args.wire.now) in
    c.invite.ensures.talks first bodies texts
    (subst (λ f. IsFed first now f bodies texts) (interim_fed c.in_ok-fed.fed (sym c.is_interim.ensures ∙ c.if-is_interim.true))
    (fed_now first was now c.args.piece.now c.in_ok-fed.fed bodies texts h
    (record { line = refl; read = c.in_ok-fed.ensures.read; written = c.in_ok-fed.ensures.written }) c.in_ok-fed.ensures.gives))

pub returns-clause-talks : goal.returns-clause-talks
returns-clause-talks g c = λ first bodies texts h.
    let was = seen c.args.kept.now (g.W.Wire.told c.args.wire.now) in
    let now = seen c.feed.new.self (g.W.Wire.told c.args.wire.now) in
    c.take_up.ensures.talks first bodies texts
    (fed_now first was now c.args.piece.now c.in_ok-fed.fed bodies texts h
    (record { line = refl; read = c.in_ok-fed.ensures.read; written = c.in_ok-fed.ensures.written }) c.in_ok-fed.ensures.gives)

pub returns-in_err-fed-clause-wrote : goal.returns-in_err-fed-clause-wrote
returns-in_err-fed-clause-wrote g c =
    writes_nothing (g.W.Wire.told c.args.wire.now).calls (g.W.Wire.told c.args.wire.now).calls c.args.kept.now.written.items c.feed.new.self.written.items refl c.in_err-fed.ensures.written

pub returns-then-is_interim-clause-wrote : goal.returns-then-is_interim-clause-wrote
returns-then-is_interim-clause-wrote g c =
    let w = c.invite.new.kept.written.items in
    writes_alike (g.W.Wire.told c.args.wire.now).calls (g.W.Wire.told c.invite.new.wire).calls c.feed.new.self.written.items w c.args.kept.now.written.items w c.invite.ensures.wrote (sym c.in_ok-fed.ensures.written) refl

pub returns-clause-wrote : goal.returns-clause-wrote
returns-clause-wrote g c =
    let w = c.take_up.new.kept.written.items in
    writes_alike (g.W.Wire.told c.args.wire.now).calls (g.W.Wire.told c.take_up.new.wire).calls c.feed.new.self.written.items w c.args.kept.now.written.items w c.take_up.ensures.wrote (sym c.in_ok-fed.ensures.written) refl
