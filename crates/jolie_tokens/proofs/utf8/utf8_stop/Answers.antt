use Rattle.std.proofs.Common.{◌≡◌, ◌∙◌, ◌-◌, ap, arith, length, take, drop}
use Rattle.std.proofs.lemmas.Str.{is_utf8-from_IsUtf8}
use Rattle.std.proofs.lemmas.List.{length-drop, take_all}
use Rattle.jolie_tokens.specs.Fronts.{utf8_stop, begun_len}
use Rattle.jolie_tokens.proofs.Encoding.{utf8_stop_is}
use Rattle.jolie_tokens.proofs.utf8.utf8_stop.Goals as goal

pub returns-in-Ok-clause-value : goal.returns-in-Ok-clause-value
unfolding utf8_stop
returns-in-Ok-clause-value c = rw (is_utf8-from_IsUtf8 c.args.bytes.now c.in-Ok.ensures.cases.1)

pub returns-in-Err-clause-value : goal.returns-in-Err-clause-value
returns-in-Err-clause-value c =
    let bs = c.args.bytes.now in
    let n = c.valid_up_to-valid.result in
    let whole : take (length bs - n) (drop n bs) ≡ drop n bs = take_all (length bs - n) (drop n bs) (omega (arith, length-drop n bs)) in
    utf8_stop_is bs n c.begun_len.result c.in-Err.ensures.cases.0 (c.valid_up_to-valid.ensures ∙ c.in-Err.ensures.valid_len) (c.begun_len.ensures ∙ ap begun_len whole)
