use Rattle.std.proofs.Common.{IfOk, sym, ap, subst, ◌∙◌}
use Rattle.jolie_parse.specs.Classes.{spelled}
use Rattle.jolie_parse.specs.LeftOut.{IsBeginning}
use Rattle.jolie_parse.specs.Reads.{Stops}
use Rattle.jolie_parse.specs.WholeFiles.{read_file}
use Rattle.jolie_parse.proofs.LeftOut.{a_file, stopped_so}
use Rattle.jolie_parse.proofs.begun.begin_file.Goals as goal
use Rattle.jolie_parse.proofs.begun.begin_file.Goals.{in-Ok, in-Err}

pub returns : goal.returns
returns c = elim c.match-file.branch [
  | in-Ok w ↦ subst (λ z. IfOk z (λ b. IsBeginning c.args.levels (spelled c.args.text.now c.args.tokens.now) b)) (sym w.result-is)
      (a_file c.args.levels (spelled c.args.text.now c.args.tokens.now) w.in-Ok.field-0 c.file.new.self (ap (read_file c.args.levels) (sym c.new-cursor.ensures) ∙ w.in-Ok.ensures))
  | in-Err w ↦ subst (λ z. IfOk z (λ b. IsBeginning c.args.levels (spelled c.args.text.now c.args.tokens.now) b)) (sym w.result-is)
      (stopped_so w.stopped.result w.in-Err.stop c.file.new.self c.args.levels (spelled c.args.text.now c.args.tokens.now) w.stopped.ensures
      (subst (λ z. Stops (read_file c.args.levels z) w.in-Err.stop c.file.new.self) c.new-cursor.ensures w.in-Err.ensures))
]
