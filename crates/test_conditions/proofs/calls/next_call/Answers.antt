use Rattle.std.proofs.Common.{◌≡◌, ap, subst, ◌∙◌, IfOk}
use Rattle.std.specs.Prelude.{slice_get}
use Rattle.office_core.proofs.Unborn.{unborn_idle}
use Rattle.office_plain.specs.declared.kept.Kept.{Kept}
use Rattle.office_plain.specs.View.{setting_of, past_in, entries_of}
use Rattle.test_conditions.specs.Told.{count_by}
use Rattle.test_conditions.proofs.Wanted.{count_is}
use Rattle.test_conditions.proofs.calls.next_call.Goals as goal

pub returns : goal.returns
returns c =
    let o = c.args.office.now in
    let s = c.args.session in
    subst (λ m. IfOk c.numbered.result (λ n. n ≡ m))
    (c.call_count.ensures ∙ ap (λ (k : Kept). count_by (slice_get k.places.items s)) c.kept.ensures
    ∙ count_is (setting_of o) (past_in o) s o.kept (o.tied c.in_ok-ready.ensures) (unborn_idle (setting_of o) (entries_of o) s o.legal))
    c.numbered.ensures
