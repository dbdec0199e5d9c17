-- A load is run, and its line is said.
use Rattle.std.proofs.Common.{◌∙◌, ap}
use Rattle.check_verdicts.proofs.TextsAsPrograms.{has_some}
use Rattle.load_maker.specs.Summary.{summary}
use Rattle.jolie_main.proofs.CommandsDone.{loaded, not_loaded}
use Rattle.jolie_main.proofs.orders.load.Goals as goal

pub run_load-requires : goal.run_load-requires
run_load-requires g c = record { some = has_some c.as_bytes-text.result.now _ c.in-Ok.program c.in_ok-program.ensures c.in-Ok.is }

pub returns-in-Err : goal.returns-in-Err
returns-in-Err g c =
    not_loaded c.args.lines c.as_bytes-text.result.now _ c.in-Err.refusal c.refuse.result _ _
    (c.as_bytes-text.ensures.value ∙ c.as_str.ensures ∙ c.in_ok-made.ensures.program) c.in_ok-program.ensures c.in-Err.is
    c.refuse.ensures.status c.refuse.ensures.written c.refuse.ensures.empty

pub returns : goal.returns
returns g c =
    loaded c.args.lines c.as_bytes-text.result.now _ c.in-Ok.program c.in_ok-ended.ended c.say_summary.result c.as_bytes-2.result.now _ _
    (c.as_bytes-text.ensures.value ∙ c.as_str.ensures ∙ c.in_ok-made.ensures.program) c.in_ok-program.ensures c.in-Ok.is
    (c.in_ok-ended.ensures c.args.lines c.requires.few (c.as_bytes.ensures.value ∙ c.as_str-2.ensures ∙ c.in_ok-made.ensures.lines))
    (c.as_bytes-2.ensures.value ∙ c.as_str-3.ensures ∙ c.in_ok-line.ensures ∙ ap (λ h. summary c.args.lines h) c.as_slice.ensures.value)
    c.say_summary.ensures.report c.say_summary.ensures.says
