use Rattle.std.proofs.Common.{ap, ◌∙◌, slice_get, option_and_then}
use Rattle.behaviour_tree.specs.Data.{ProgramParts, ServicePart}
use Rattle.office_plain.specs.declared.kept.SessionRow.{SessionRow}
use Rattle.office_plain.specs.View.{setting_of, past_in}
use Rattle.office_plain.proofs.Sending.{port_kept}
use Rattle.office_plain.proofs.office.Office.port_of.Goals as goal

pub returns-in-Some : goal.returns-in-Some
returns-in-Some c =
    let o = c.args.self.now in
    let n = c.args.port in
    c.port_at.ensures
    ∙ ap (λ (p : ProgramParts). option_and_then (λ (d : ServicePart). slice_get d.ports n) (slice_get p.services c.in-Some.row.now.service)) c.parts.ensures.parts
    ∙ ap (option_and_then (λ (row : SessionRow). option_and_then (λ (d : ServicePart). slice_get d.ports n) (slice_get (setting_of o).parts.services row.service))) c.in-Some.ensures.value
    ∙ port_kept (setting_of o) (past_in o) c.args.session n o.kept.sessions (o.tied c.requires).sessions

pub returns-in-None : goal.returns-in-None
returns-in-None c =
    let o = c.args.self.now in
    let n = c.args.port in
    ap (option_and_then (λ (row : SessionRow). option_and_then (λ (d : ServicePart). slice_get d.ports n) (slice_get (setting_of o).parts.services row.service))) c.in-None.ensures.value
    ∙ port_kept (setting_of o) (past_in o) c.args.session n o.kept.sessions (o.tied c.requires).sessions
