-- The answer is written, or a front of it.
use Rattle.std.proofs.Common.{refl, sym, ap, ◌∙◌, ◌++◌, ◌∷◌, [], true, false, subst, option_copied}
use Rattle.std.proofs.lemmas.Result.{err_from_is_err_and}
use Rattle.http_connection.specs.Seen.{seen}
use Rattle.http_connection.specs.Stages.{stage_of, IsBehindTelling}
use Rattle.http_connection.specs.Talking.{IsTalking}
use Rattle.http_connection.specs.Steps.{Sends}
use Rattle.http_connection.proofs.Passing.{at_error, owing_spent, owed_on, answer_failing, answer_closing, answer_going, told_or_spent}
use Rattle.http_connection.proofs.Calls.{writes_alike, writes_nothing, writes_on}
use Rattle.http_connection.proofs.connection.answer_with.Goals as goal

pub returns-in_err-bytes-clause-talks : goal.returns-in_err-bytes-clause-talks
returns-in_err-bytes-clause-talks g c = λ first bodies texts h.
    let wanting = err_from_is_err_and c.from_residual.result c.from_residual.ensures.1 in
    let was = seen c.args.kept.now (g.W.Wire.told c.args.wire.now) in
    let now = seen c.stand.new.self (g.W.Wire.told c.args.wire.now) in
    at_error c.from_residual.result (λ _. IsTalking first now bodies (texts ++ option_copied c.args.text ∷ [])) (λ _. IsTalking first now bodies texts) wanting.0 wanting.1
    (owing_spent first was now c.args.close bodies texts h c.requires (record { line = refl; read = c.stand.ensures.read; written = c.stand.ensures.written }) c.stand.ensures.next)

pub returns-in_err-cut-clause-talks : goal.returns-in_err-cut-clause-talks
returns-in_err-cut-clause-talks g c = λ first bodies texts h.
    let wanting = err_from_is_err_and c.from_residual-in_err-cut.result c.from_residual-in_err-cut.ensures.1 in
    let was = seen c.args.kept.now (g.W.Wire.told c.args.wire.now) in
    let now = seen c.send.new.kept (g.W.Wire.told c.send.new.wire) in
    at_error c.from_residual-in_err-cut.result (λ _. IsTalking first now bodies (texts ++ option_copied c.args.text ∷ [])) (λ _. IsTalking first now bodies texts) wanting.0 wanting.1
    (owing_spent first was now c.args.close bodies texts h c.requires
    (record {
      line = ap (λ w. g.W.Wire.told w) c.in_err-cut.ensures.sends.1;
      read = (c.in_err-cut.ensures.sends.0.read ∙ c.stand.ensures.read);
      written = c.in_err-cut.ensures.sends.0.written ∙ c.stand.ensures.written;
    }) (c.in_err-cut.ensures.sends.0.next ∙ c.stand.ensures.next))

pub returns-then-cut-clause-talks : goal.returns-then-cut-clause-talks
returns-then-cut-clause-talks g c = λ first bodies texts h.
    let was = seen c.args.kept.now (g.W.Wire.told c.args.wire.now) in
    let begun = seen c.stand.new.self (g.W.Wire.told c.args.wire.now) in
    let mid = seen c.send.new.kept (g.W.Wire.told c.send.new.wire) in
    let now = seen c.finish.new.kept (g.W.Wire.told c.finish.new.wire) in
    answer_failing first begun mid now c.args.close (option_copied c.args.text) bodies texts
    (owed_on first was begun c.args.close bodies texts h c.requires (record { line = refl; read = c.stand.ensures.read; written = c.stand.ensures.written }) c.stand.ensures.reader)
    (subst (λ l. Sends l true begun mid) (c.as_slice.ensures ∙ c.in_ok-bytes.ensures) (subst (λ cut. Sends c.as_slice.result.now cut begun mid) c.if-cut.true c.in_ok-cut.ensures.sends)) c.finish.ensures.finishes

pub returns-then-close-clause-talks : goal.returns-then-close-clause-talks
returns-then-close-clause-talks g c = λ first bodies texts h.
    let was = seen c.args.kept.now (g.W.Wire.told c.args.wire.now) in
    let begun = seen c.stand.new.self (g.W.Wire.told c.args.wire.now) in
    let mid = seen c.send.new.kept (g.W.Wire.told c.send.new.wire) in
    let now = seen c.finish-then-close.new.kept (g.W.Wire.told c.finish-then-close.new.wire) in
    answer_closing first begun mid now c.args.close (option_copied c.args.text) bodies texts
    (owed_on first was begun c.args.close bodies texts h c.requires (record { line = refl; read = c.stand.ensures.read; written = c.stand.ensures.written }) c.stand.ensures.reader)
    c.if-close.true (subst (λ l. Sends l false begun mid) (c.as_slice.ensures ∙ c.in_ok-bytes.ensures) (subst (λ cut. Sends c.as_slice.result.now cut begun mid) c.if-cut.false c.in_ok-cut.ensures.sends)) c.finish-then-close.ensures.finishes

pub returns-clause-talks : goal.returns-clause-talks
returns-clause-talks g c = λ first bodies texts h.
    let was = seen c.args.kept.now (g.W.Wire.told c.args.wire.now) in
    let begun = seen c.stand.new.self (g.W.Wire.told c.args.wire.now) in
    let mid = seen c.send.new.kept (g.W.Wire.told c.send.new.wire) in
    let now = seen c.go_on.new.kept (g.W.Wire.told c.go_on.new.wire) in
    told_or_spent c.go_on.result (λ _. IsBehindTelling (stage_of now.kept.next)) first now bodies texts (option_copied c.args.text)
    (c.go_on.ensures.talks first bodies (texts ++ option_copied c.args.text ∷ [])
    (answer_going first begun mid c.args.close (option_copied c.args.text) bodies texts
    (owed_on first was begun c.args.close bodies texts h c.requires (record { line = refl; read = c.stand.ensures.read; written = c.stand.ensures.written }) c.stand.ensures.reader)
    c.if-close.false (subst (λ l. Sends l false begun mid) (c.as_slice.ensures ∙ c.in_ok-bytes.ensures) (subst (λ cut. Sends c.as_slice.result.now cut begun mid) c.if-cut.false c.in_ok-cut.ensures.sends))))
    c.go_on.ensures.next

pub returns-in_err-bytes-clause-wrote : goal.returns-in_err-bytes-clause-wrote
returns-in_err-bytes-clause-wrote g c =
    writes_nothing (g.W.Wire.told c.args.wire.now).calls (g.W.Wire.told c.args.wire.now).calls c.args.kept.now.written.items c.stand.new.self.written.items refl c.stand.ensures.written

pub returns-in_err-cut-clause-wrote : goal.returns-in_err-cut-clause-wrote
returns-in_err-cut-clause-wrote g c =
    writes_alike (g.W.Wire.told c.args.wire.now).calls (g.W.Wire.told c.send.new.wire).calls c.stand.new.self.written.items c.send.new.kept.written.items c.args.kept.now.written.items c.send.new.kept.written.items c.in_err-cut.ensures.wrote (sym c.stand.ensures.written) refl

pub returns-then-cut-clause-wrote : goal.returns-then-cut-clause-wrote
returns-then-cut-clause-wrote g c =
    writes_on (g.W.Wire.told c.args.wire.now).calls (g.W.Wire.told c.send.new.wire).calls (g.W.Wire.told c.finish.new.wire).calls c.args.kept.now.written.items c.send.new.kept.written.items c.finish.new.kept.written.items
    (writes_alike (g.W.Wire.told c.args.wire.now).calls (g.W.Wire.told c.send.new.wire).calls c.stand.new.self.written.items c.send.new.kept.written.items c.args.kept.now.written.items c.send.new.kept.written.items c.in_ok-cut.ensures.wrote (sym c.stand.ensures.written) refl) c.finish.ensures.wrote

pub returns-then-close-clause-wrote : goal.returns-then-close-clause-wrote
returns-then-close-clause-wrote g c =
    writes_on (g.W.Wire.told c.args.wire.now).calls (g.W.Wire.told c.send.new.wire).calls (g.W.Wire.told c.finish-then-close.new.wire).calls c.args.kept.now.written.items c.send.new.kept.written.items c.finish-then-close.new.kept.written.items
    (writes_alike (g.W.Wire.told c.args.wire.now).calls (g.W.Wire.told c.send.new.wire).calls c.stand.new.self.written.items c.send.new.kept.written.items c.args.kept.now.written.items c.send.new.kept.written.items c.in_ok-cut.ensures.wrote (sym c.stand.ensures.written) refl) c.finish-then-close.ensures.wrote

pub returns-clause-wrote : goal.returns-clause-wrote
returns-clause-wrote g c =
    writes_on (g.W.Wire.told c.args.wire.now).calls (g.W.Wire.told c.send.new.wire).calls (g.W.Wire.told c.go_on.new.wire).calls c.args.kept.now.written.items c.send.new.kept.written.items c.go_on.new.kept.written.items
    (writes_alike (g.W.Wire.told c.args.wire.now).calls (g.W.Wire.told c.send.new.wire).calls c.stand.new.self.written.items c.send.new.kept.written.items c.args.kept.now.written.items c.send.new.kept.written.items c.in_ok-cut.ensures.wrote (sym c.stand.ensures.written) refl) c.go_on.ensures.wrote
