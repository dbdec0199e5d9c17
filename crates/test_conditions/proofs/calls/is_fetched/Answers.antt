use Rattle.std.proofs.Common.{not, ◌&&◌, ap, ◌∙◌}
use Rattle.std.specs.Prelude.{is_some, slice_get, option_and_then}
use Rattle.std.specs.List.{list_any}
use Rattle.office_core.proofs.Numbers.{calls_rise}
use Rattle.office_core.proofs.Unborn.{unborn_idle}
use Rattle.office_plain.specs.declared.kept.Kept.{Kept}
use Rattle.office_plain.specs.Rows.{place_of}
use Rattle.office_plain.specs.View.{setting_of, past_in, entries_of}
use Rattle.test_history.specs.Kinds.{fetches_as, brings_for}
use Rattle.test_conditions.proofs.Entered.{some_in}
use Rattle.test_conditions.proofs.Wanted.{call_kept, is_fetched_by}
use Rattle.test_conditions.proofs.calls.is_fetched.Goals as goal

pub returns : goal.returns
returns c =
    let o = c.args.office.now in
    let w = setting_of o in
    let s = c.args.session in
    let n = c.args.call in
    let fetches = fetches_as c.args.actor s n in
    let brings = brings_for s n in
    let made = c.is_sent-made.ensures ∙ ap (λ (k : Kept). is_some (option_and_then (slice_get k.calls) (place_of k s n))) c.kept.ensures
    ∙ ap is_some (call_kept w (past_in o) s n o.kept (o.tied c.in_ok-ready.ensures) (calls_rise w (entries_of o) s o.legal)
    (λ t. unborn_idle w (entries_of o) t o.legal)) in
    let fetched = c.was_fetched-fetched.ensures ∙ ap (list_any fetches) c.history-history.ensures ∙ some_in w (entries_of o) fetches in
    let brought = c.was_brought-brought.ensures ∙ ap (list_any brings) c.history-history.ensures ∙ some_in w (entries_of o) brings in
    c.is_away.ensures ∙ (λ i. made i && (fetched i && not (brought i))) ∙ is_fetched_by (past_in o) c.args.actor s n
