use Rattle.std.proofs.Common.{ap, ◌∙◌}
use Rattle.std.specs.Prelude.{slice_get}
use Rattle.behaviour_tree.specs.Data.{ProgramParts}
use Rattle.behaviour_tree.specs.PartsView.{parts_of}
use Rattle.office_plain.specs.declared.kept.Kept.{Kept}
use Rattle.office_plain.specs.View.{setting_of, past_in}
use Rattle.test_conditions.specs.Told.{has_in, variable_by}
use Rattle.test_conditions.proofs.Acted.{variable_kept}
use Rattle.test_conditions.proofs.sessions.has_variable.Goals as goal

pub returns-in-Some : goal.returns-in-Some
returns-in-Some c =
    let o = c.args.office.now in
    let s = c.args.session in
    let v = c.args.variable in
    c.service_has.ensures
    ∙ ap (λ (p : ProgramParts). has_in p c.in-Some.row.now.service v) (c.parts.ensures.parts ∙ ap parts_of c.program.ensures)
    ∙ ap (variable_by (setting_of o).parts v) (c.in-Some.ensures.value ∙ ap (λ (k : Kept). slice_get k.sessions s) c.kept.ensures)
    ∙ variable_kept (setting_of o) (past_in o) s v o.kept.sessions (o.tied c.in_ok-ready.ensures).sessions

pub returns-in-None : goal.returns-in-None
returns-in-None c =
    let o = c.args.office.now in
    let s = c.args.session in
    let v = c.args.variable in
    ap (variable_by (setting_of o).parts v) (c.in-None.ensures.value ∙ ap (λ (k : Kept). slice_get k.sessions s) c.kept.ensures)
    ∙ variable_kept (setting_of o) (past_in o) s v o.kept.sessions (o.tied c.in_ok-ready.ensures).sessions
