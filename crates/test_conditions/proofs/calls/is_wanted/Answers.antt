use Rattle.std.proofs.Common.{not, ◌&&◌, ap, sym, ◌∙◌}
use Rattle.std.specs.Prelude.{slice_get, option_and_then}
use Rattle.std.specs.List.{list_any}
use Rattle.office_core.specs.Legal.{takes_answer}
use Rattle.office_core.proofs.Numbers.{calls_rise}
use Rattle.office_core.proofs.Unborn.{unborn_idle}
use Rattle.office_plain.specs.declared.kept.Kept.{Kept}
use Rattle.office_plain.specs.Rows.{place_of}
use Rattle.office_plain.specs.View.{setting_of, past_in, entries_of}
use Rattle.test_conditions.proofs.Entered.{some_in}
use Rattle.test_conditions.proofs.Wanted.{call_kept, wanted_is, none_wanted}
use Rattle.test_conditions.proofs.calls.is_wanted.Goals as goal

pub returns-in_default : goal.returns-in_default
returns-in_default c =
    let o = c.args.office.now in
    let w = setting_of o in
    let s = c.args.session in
    let n = c.args.call in
    sym (none_wanted (past_in o) s n
    (sym (c.in_default.ensures ∙ ap (λ (k : Kept). option_and_then (slice_get k.calls) (place_of k s n)) c.kept.ensures
    ∙ call_kept w (past_in o) s n o.kept (o.tied c.in_ok-ready.ensures) (calls_rise w (entries_of o) s o.legal)
    (λ t. unborn_idle w (entries_of o) t o.legal))))

pub returns : goal.returns
returns c =
    let o = c.args.office.now in
    let w = setting_of o in
    let s = c.args.session in
    let n = c.args.call in
    let sent = c.in-Some.sent.now in
    c.both.ensures
    ∙ ap (λ b. not b && sent.wants)
    (c.answer_was_taken-taken.ensures ∙ ap (list_any (takes_answer s n)) c.history.ensures ∙ some_in w (entries_of o) (takes_answer s n))
    ∙ wanted_is (past_in o) s n sent
    (sym (c.in-Some.ensures ∙ ap (λ (k : Kept). option_and_then (slice_get k.calls) (place_of k s n)) c.kept.ensures
    ∙ call_kept w (past_in o) s n o.kept (o.tied c.in_ok-ready.ensures) (calls_rise w (entries_of o) s o.legal)
    (λ t. unborn_idle w (entries_of o) t o.legal)))
