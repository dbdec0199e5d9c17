-- The rest goes out, or what follows is taken up.
use Rattle.std.proofs.Common.{refl, sym, ◌∙◌, subst, ap}
use Rattle.http_connection.specs.Talking.{log_of}
use Rattle.conn_future.specs.Talking.{seen, plain, IsOut}
use Rattle.conn_future.specs.Steps.{unmade}
use Rattle.conn_future.proofs.Writing.{rest_goes_out}
use Rattle.conn_future.proofs.Sending.{goes_on, closes_now, none_left}
use Rattle.conn_future.proofs.turn.go_behind.Goals as goal

pub returns-then-not-is_out-clause-talks : goal.returns-then-not-is_out-clause-talks
returns-then-not-is_out-clause-talks g c = λ first bodies texts carried out.
    let was = seen c.args.kept.now (g.W.PollWire.told c.args.wire.now) in
    let now = seen c.stand.new.self (g.W.PollWire.told c.args.wire.now) in
    rest_goes_out first was now c.args.close bodies texts carried out (sym c.is_out.ensures ∙ c.if-not-is_out.true) c.stand.ensures.same c.stand.ensures.due refl c.stand.ensures.next

pub returns-then-close-clause-talks : goal.returns-then-close-clause-talks
returns-then-close-clause-talks g c = λ first bodies texts carried out.
    let was = seen c.args.kept.now (g.W.PollWire.told c.args.wire.now) in
    let now = seen c.finish.new.kept (g.W.PollWire.told c.finish.new.wire) in
    closes_now first was now bodies texts carried (subst (λ close. IsOut close was.kept.due was.kept.reader (log_of (plain was) bodies texts)) c.if-close.true out)
    (none_left was.kept.due.left (sym c.is_out.ensures ∙ c.if-not-is_out.false)) c.finish.ensures.finishes

pub returns-in_err-go_on-clause-talks : goal.returns-in_err-go_on-clause-talks
returns-in_err-go_on-clause-talks g c = λ first bodies texts carried out.
    let was = seen c.args.kept.now (g.W.PollWire.told c.args.wire.now) in
    c.in_err-go_on.ensures.talks first was.line bodies texts
    (goes_on first was bodies texts carried (subst (λ close. IsOut close was.kept.due was.kept.reader (log_of (plain was) bodies texts)) c.if-close.false out)
    (none_left was.kept.due.left (sym c.is_out.ensures ∙ c.if-not-is_out.false)))

pub returns-clause-talks : goal.returns-clause-talks
returns-clause-talks g c = λ first bodies texts carried out.
    let was = seen c.args.kept.now (g.W.PollWire.told c.args.wire.now) in
    c.in_ok-go_on.ensures.talks first was.line bodies texts
    (goes_on first was bodies texts carried (subst (λ close. IsOut close was.kept.due was.kept.reader (log_of (plain was) bodies texts)) c.if-close.false out)
    (none_left was.kept.due.left (sym c.is_out.ensures ∙ c.if-not-is_out.false)))

pub returns-then-not-is_out-clause-made : goal.returns-then-not-is_out-clause-made
returns-then-not-is_out-clause-made g c = ap unmade c.stand.ensures.next

pub returns-then-close-clause-made : goal.returns-then-close-clause-made
returns-then-close-clause-made g c = ap unmade c.finish.ensures.finishes.next

pub returns-in_err-go_on-clause-made : goal.returns-in_err-go_on-clause-made
returns-in_err-go_on-clause-made g c = c.in_err-go_on.ensures.made

pub returns-clause-made : goal.returns-clause-made
returns-clause-made g c = c.in_ok-go_on.ensures.made

pub returns-then-not-is_out-clause-rows : goal.returns-then-not-is_out-clause-rows
returns-then-not-is_out-clause-rows g c = record { row = refl; longest = refl }

pub returns-then-close-clause-rows : goal.returns-then-close-clause-rows
returns-then-close-clause-rows g c = c.finish.ensures.rows

pub returns-in_err-go_on-clause-rows : goal.returns-in_err-go_on-clause-rows
returns-in_err-go_on-clause-rows g c = record { row = refl; longest = refl }

pub returns-clause-rows : goal.returns-clause-rows
returns-clause-rows g c = record { row = refl; longest = refl }
