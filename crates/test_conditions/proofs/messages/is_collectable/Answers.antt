use Rattle.std.proofs.Common.{◌≡◌, ap, sym, ◌∙◌, Some}
use Rattle.std.specs.Prelude.{slice_get}
use Rattle.std.specs.List.{list_any}
use Rattle.office_core.specs.Legal.{collects, posts_as}
use Rattle.office_plain.specs.declared.kept.Kept.{Kept}
use Rattle.office_plain.specs.View.{setting_of, past_in, entries_of}
use Rattle.test_conditions.specs.Told.{collectable_by}
use Rattle.test_conditions.proofs.Entered.{some_in}
use Rattle.test_conditions.proofs.Opened.{collectable_is, none_collectable}
use Rattle.test_conditions.proofs.messages.is_collectable.Goals as goal

pub returns-in_default : goal.returns-in_default
returns-in_default c =
    let o = c.args.office.now in
    let n = c.args.message in
    sym (none_collectable (past_in o) c.args.actor n
    (sym (c.in_default.ensures.value ∙ ap (λ (k : Kept). slice_get k.messages n) c.kept.ensures
    ∙ ap (λ ms. slice_get ms n) (o.tied c.in_ok-ready.ensures).messages)))

pub returns : goal.returns
returns c =
    let o = c.args.office.now in
    let actor = c.args.actor in
    let n = c.args.message in
    let told = some_in (setting_of o) (entries_of o) in
    let there = sym (c.in-Some.ensures.value ∙ ap (λ (k : Kept). slice_get k.messages n) c.kept.ensures
    ∙ ap (λ ms. slice_get ms n) (o.tied c.in_ok-ready.ensures).messages) in
    c.is_collectable.ensures
    ∙ (λ i. collectable_by (record {
      was_collected = (c.was_collected.ensures ∙ ap (list_any (collects n)) c.history-history.ensures ∙ told (collects n)) i;
      came_in = c.came_in.ensures i;
      is_running = c.is_running.ensures i;
      was_posted = (c.was_posted.ensures ∙ ap (list_any (posts_as actor n)) c.history-history.ensures ∙ told (posts_as actor n)) i;
    }))
    ∙ collectable_is (past_in o) actor n c.in-Some.noted.now there
