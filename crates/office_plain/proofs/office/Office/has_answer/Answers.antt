use Rattle.std.proofs.Common.{ap, ◌∙◌}
use Rattle.std.specs.Prelude.{is_some}
use Rattle.office_core.proofs.Numbers.{calls_rise}
use Rattle.office_core.proofs.Sent.{calls_are_messages}
use Rattle.office_plain.specs.View.{setting_of, past_in, entries_of}
use Rattle.office_plain.proofs.AnswerTaken.{outcome_kept}
use Rattle.office_plain.proofs.office.Office.has_answer.Goals as goal

pub returns : goal.returns
returns c = λ ready.
    let o = c.args.self.now in
    let w = setting_of o in
    let s = c.args.session in
    c.has_outcome.ensures
    ∙ ap is_some (outcome_kept w (past_in o) s c.args.call o.kept c.requires.acts c.requires.wanted
    (calls_rise w (entries_of o) s o.legal) (calls_are_messages w (entries_of o) o.legal) (o.tied ready))
