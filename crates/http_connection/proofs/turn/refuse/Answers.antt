-- A refusal is written, or a front of it.
use Rattle.std.proofs.Common.{refl, ap, ◌∙◌, true, false, None, subst}
use Rattle.http_port.specs.declared.head_reader.Fed.TheVariants.{Refused}
use Rattle.http_connection.specs.Seen.{seen}
use Rattle.http_connection.specs.Steps.{Sends}
use Rattle.http_connection.proofs.Passing.{carried_on, spent_talks, untold, sent_failing, sent_closing}
use Rattle.http_connection.proofs.Calls.{writes_nothing, writes_on}
use Rattle.http_connection.proofs.turn.refuse.Goals as goal

pub returns-in_err-bytes-clause-talks : goal.returns-in_err-bytes-clause-talks
returns-in_err-bytes-clause-talks g c = λ first bodies texts h. spent_talks first (seen c.args.kept.now (g.W.Wire.told c.args.wire.now)) bodies texts h.carried c.requires

pub returns-in_err-cut-clause-talks : goal.returns-in_err-cut-clause-talks
returns-in_err-cut-clause-talks g c = λ first bodies texts h.
    let was = seen c.args.kept.now (g.W.Wire.told c.args.wire.now) in
    let now = seen c.send.new.kept (g.W.Wire.told c.send.new.wire) in
    spent_talks first now bodies texts
    (carried_on first was now h.carried (record {
      line = ap (λ w. g.W.Wire.told w) c.in_err-cut.ensures.sends.1;
      read = c.in_err-cut.ensures.sends.0.read;
      written = c.in_err-cut.ensures.sends.0.written;
    }))
    (c.in_err-cut.ensures.sends.0.next ∙ c.requires)

pub returns-then-cut-clause-talks : goal.returns-then-cut-clause-talks
returns-then-cut-clause-talks g c = λ first bodies texts h.
    let was = seen c.args.kept.now (g.W.Wire.told c.args.wire.now) in
    let mid = seen c.send.new.kept (g.W.Wire.told c.send.new.wire) in
    let now = seen c.finish.new.kept (g.W.Wire.told c.finish.new.wire) in
    untold first now bodies texts
    (sent_failing first was mid now (Refused c.args.status) None bodies texts h
    (subst (λ l. Sends l true was mid) (c.as_slice.ensures ∙ c.in_ok-bytes.ensures) (subst (λ cut. Sends c.as_slice.result.now cut was mid) c.if-cut.true c.in_ok-cut.ensures.sends))
    c.finish.ensures.finishes)

pub returns-clause-talks : goal.returns-clause-talks
returns-clause-talks g c = λ first bodies texts h.
    let was = seen c.args.kept.now (g.W.Wire.told c.args.wire.now) in
    let mid = seen c.send.new.kept (g.W.Wire.told c.send.new.wire) in
    let now = seen c.finish-2.new.kept (g.W.Wire.told c.finish-2.new.wire) in
    untold first now bodies texts
    (sent_closing first was mid now (Refused c.args.status) None bodies texts h tt
    (subst (λ l. Sends l false was mid) (c.as_slice.ensures ∙ c.in_ok-bytes.ensures) (subst (λ cut. Sends c.as_slice.result.now cut was mid) c.if-cut.false c.in_ok-cut.ensures.sends))
    c.finish-2.ensures.finishes)

pub returns-in_err-bytes-clause-wrote : goal.returns-in_err-bytes-clause-wrote
returns-in_err-bytes-clause-wrote g c =
    writes_nothing (g.W.Wire.told c.args.wire.now).calls (g.W.Wire.told c.args.wire.now).calls c.args.kept.now.written.items c.args.kept.now.written.items refl refl

pub returns-then-cut-clause-wrote : goal.returns-then-cut-clause-wrote
returns-then-cut-clause-wrote g c =
    writes_on (g.W.Wire.told c.args.wire.now).calls (g.W.Wire.told c.send.new.wire).calls (g.W.Wire.told c.finish.new.wire).calls c.args.kept.now.written.items c.send.new.kept.written.items c.finish.new.kept.written.items
    c.in_ok-cut.ensures.wrote c.finish.ensures.wrote

pub returns-clause-wrote : goal.returns-clause-wrote
returns-clause-wrote g c =
    writes_on (g.W.Wire.told c.args.wire.now).calls (g.W.Wire.told c.send.new.wire).calls (g.W.Wire.told c.finish-2.new.wire).calls c.args.kept.now.written.items c.send.new.kept.written.items c.finish-2.new.kept.written.items
    c.in_ok-cut.ensures.wrote c.finish-2.ensures.wrote
