use Rattle.std.proofs.Common.{ap, sym, ◌∙◌}
use Rattle.std.specs.Prelude.{is_some}
use Rattle.office_plain.specs.View.{setting_of, past_in}
use Rattle.office_plain.proofs.Taking.{box_oldest, has_mail}
use Rattle.office_plain.proofs.office.Office.has_mail.Goals as goal

pub returns : goal.returns
returns c = λ ready.
    let o = c.args.self.now in
    let s = c.args.session in
    let ops = c.args.ops.now in
    c.is_some.ensures
    ∙ ap is_some (sym (box_oldest (setting_of o) (past_in o) s ops o.kept c.first.result (o.tied ready) c.requires c.first.ensures))
    ∙ has_mail (past_in o) s ops
