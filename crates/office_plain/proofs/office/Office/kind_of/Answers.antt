use Rattle.std.proofs.Common.{ap, is_some, sym, true, false}
use Rattle.office_plain.specs.View.{setting_of, past_in}
use Rattle.office_plain.proofs.Sending.{kind_by}
use Rattle.office_plain.proofs.office.Office.kind_of.Goals as goal

pub returns-in-Some : goal.returns-in-Some
returns-in-Some c =
    let o = c.args.self.now in
    λ d session port. kind_by (setting_of o) (past_in o) d c.args.session c.args.port true session port (sym (ap is_some c.in-Some.ensures))

pub returns-in-None : goal.returns-in-None
returns-in-None c =
    let o = c.args.self.now in
    λ d session port. kind_by (setting_of o) (past_in o) d c.args.session c.args.port false session port (sym (ap is_some c.in-None.ensures))
