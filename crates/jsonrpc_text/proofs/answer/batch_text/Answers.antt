use Rattle.std.proofs.Common.{◌≡◌, ◌∙◌, ap, ◌++◌, ◌+◌, codes, drop, arith, string_bytes}
use Rattle.jsonrpc_text.specs.Responses.{listed}
use Rattle.jsonrpc_text.proofs.Batches.{left_after, first-written, next-written, all-written}
use Rattle.jsonrpc_text.proofs.answer.batch_text.Goals as goal
use Rattle.jsonrpc_text.proofs.answer.batch_text.Goals.{then-place-gt0+in_ok-push_str-2, else-place-gt0}

pub loop-place-preserved : goal.loop-place-preserved
loop-place-preserved c =
    let texts = c.args.texts.now in
    let i = c.loop-place.place in
    let text = c.index-texts-place.result in
    let done = string_bytes c.loop-place.batch in
    let all = codes "[" ++ listed texts in
    let pushed : string_bytes c.push_str-in-loop-place.new.self ≡ string_bytes c.if-place-gt0.batch ++ text =
    c.in_ok-push_str-3.ensures.bytes ∙ ap (λ x. string_bytes c.if-place-gt0.batch ++ x) c.as_str.ensures in
    elim c.if-place-gt0.branch [
      | then-place-gt0+in_ok-push_str-2 w ↦
          ap (λ x. x ++ left_after (i + 1) (drop (i + 1) texts)) (pushed ∙ ap (λ b. string_bytes b ++ text) w.batch-is ∙ ap (λ x. x ++ text) w.in_ok-push_str-2.ensures.bytes)
          ∙ next-written texts i text done all c.loop-place-test.true c.index-texts-place.is (omega (arith, w.if-place-gt0.true)) c.loop-place.invariant
      | else-place-gt0 w ↦
          ap (λ x. x ++ left_after (i + 1) (drop (i + 1) texts)) (pushed ∙ ap (λ b. string_bytes b ++ text) w.batch-is)
          ∙ first-written texts i text done all c.loop-place-test.true c.index-texts-place.is (omega (arith, w.if-place-gt0.false)) c.loop-place.invariant
    ]

pub returns : goal.returns
returns c =
    c.from_string.ensures ∙ c.in_ok-push_str-4.ensures.bytes
    ∙ all-written c.args.texts.now c.loop-place.place (string_bytes c.loop-place.batch) (omega (arith, c.loop-place-test.false)) c.loop-place.invariant
