use Rattle.std.proofs.Common.{ap, ◌∙◌}
use Rattle.std.specs.Prelude.{slice_get}
use Rattle.office_plain.specs.declared.kept.Kept.{Kept}
use Rattle.office_plain.specs.View.{setting_of, past_in}
use Rattle.test_conditions.specs.Told.{acts_by}
use Rattle.test_conditions.proofs.Acted.{acting_is}
use Rattle.test_conditions.proofs.sessions.acts.Goals as goal

pub returns : goal.returns
returns c =
    let o = c.args.office.now in
    let s = c.args.session in
    c.row_acts.ensures
    ∙ (λ i. acts_by (c.is_running.ensures i) ((c.get-row.ensures.value ∙ ap (λ (k : Kept). slice_get k.sessions s) c.kept.ensures) i))
    ∙ acting_is (setting_of o) (past_in o) s o.kept (o.tied c.in_ok-ready.ensures)
