use Rattle.std.proofs.Common.{ap, ◌∙◌}
use Rattle.std.proofs.lemmas.Result.{IfOk-weaker}
use Rattle.serde_json.specs.Written.{has_float, compact_text}
use Rattle.run_text.proofs.text.text_string.Goals as goal

pub returns : goal.returns
returns c =
    let is = c.in_ok-try_from_str.ensures in
    IfOk-weaker c.to_string.result _ _ (λ s told. told (ap has_float is) ∙ ap compact_text is) c.to_string.ensures.text
