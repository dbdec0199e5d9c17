use Rattle.std.proofs.Common.{◌≡◌, sym, ap, ◌∙◌, subst, IfOk, None, Some, option_map}
use Rattle.serde_json.specs.View.{view}
use Rattle.jsonrpc_text.specs.Posted.{one, posted_by, value_of}
use Rattle.jsonrpc_text.proofs.Reading.{posted-long, posted-short}
use Rattle.jsonrpc_text.proofs.read.read_message.Goals as goal

pub returns-then-bytes-gt-LONGEST : goal.returns-then-bytes-gt-LONGEST
returns-then-bytes-gt-LONGEST c =
    subst (λ r. IfOk c.one.result (λ read. read ≡ r)) (ap one c.refused.ensures ∙ sym (posted-long c.args.bytes.now c.if-bytes-gt-LONGEST.true)) c.one.ensures

pub returns-in-None : goal.returns-in-None
returns-in-None c =
    let none : None ≡ value_of c.args.bytes.now = ap (option_map view) (sym c.in-None.is) ∙ c.in_ok-value_of.ensures in
    subst (λ r. IfOk c.one-in-None.result (λ read. read ≡ r))
    (ap one c.refused-in-None.ensures ∙ ap posted_by none ∙ sym (posted-short c.args.bytes.now c.if-bytes-gt-LONGEST.false)) c.one-in-None.ensures

pub returns-in-Some : goal.returns-in-Some
returns-in-Some c =
    let some : Some (view c.in-Some.value) ≡ value_of c.args.bytes.now = ap (option_map view) (sym c.in-Some.is) ∙ c.in_ok-value_of.ensures in
    subst (λ r. IfOk c.posted_in.result (λ read. read ≡ r))
    (ap posted_by some ∙ sym (posted-short c.args.bytes.now c.if-bytes-gt-LONGEST.false)) c.posted_in.ensures
