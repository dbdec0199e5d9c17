use Rattle.std.proofs.Common.{◌≡◌, ap, sym, ◌∙◌, Some}
use Rattle.std.specs.Prelude.{slice_get}
use Rattle.std.specs.List.{list_any}
use Rattle.office_core.specs.Sessions.{ends}
use Rattle.office_plain.specs.declared.kept.Kept.{Kept}
use Rattle.office_plain.specs.View.{setting_of, past_in, entries_of}
use Rattle.test_history.specs.Kinds.{takes_it, replies_to}
use Rattle.test_conditions.specs.Told.{open_by}
use Rattle.test_conditions.proofs.Entered.{some_in}
use Rattle.test_conditions.proofs.Opened.{open_is, none_open}
use Rattle.test_conditions.proofs.messages.is_open.Goals as goal

pub returns-in_default : goal.returns-in_default
returns-in_default c =
    let o = c.args.office.now in
    let n = c.args.message in
    sym (none_open (setting_of o) (past_in o) n
    (sym (c.in_default.ensures.value ∙ ap (λ (k : Kept). slice_get k.messages n) c.kept.ensures
    ∙ ap (λ ms. slice_get ms n) (o.tied c.in_ok-ready.ensures).messages)))

pub returns : goal.returns
returns c =
    let o = c.args.office.now in
    let w = setting_of o in
    let n = c.args.message in
    let m = c.in-Some.noted.now in
    let told = some_in w (entries_of o) in
    let there = sym (c.in-Some.ensures.value ∙ ap (λ (k : Kept). slice_get k.messages n) c.kept.ensures
    ∙ ap (λ ms. slice_get ms n) (o.tied c.in_ok-ready.ensures).messages) in
    c.has_no_answer.ensures
    ∙ (λ i. open_by (record {
      is_request = c.is_request.ensures i;
      is_running = c.is_running.ensures i;
      was_replied = (c.was_replied.ensures ∙ ap (list_any (replies_to n)) c.history-history.ensures ∙ told (replies_to n)) i;
      has_ended = (c.has_ended.ensures ∙ ap (list_any (ends m.session)) c.history-history.ensures ∙ told (ends m.session)) i;
      was_taken = (c.was_taken.ensures ∙ ap (list_any (takes_it n)) c.history-history.ensures ∙ told (takes_it n)) i;
    }))
    ∙ open_is w (past_in o) n m there
