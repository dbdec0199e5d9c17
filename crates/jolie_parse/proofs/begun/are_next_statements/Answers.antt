use Rattle.std.proofs.Common.{◌≡◌, true, IfOk, sym, ap, subst, ◌∙◌, []}
use Rattle.jolie_parse.specs.Classes.{spelled}
use Rattle.jolie_parse.specs.LeftOut.{AreNext}
use Rattle.jolie_parse.specs.Reads.{more}
use Rattle.jolie_parse.proofs.Cuts.{next_statement}
use Rattle.jolie_parse.proofs.LeftOut.{next_found}
use Rattle.jolie_parse.proofs.begun.are_next_statements.Goals as goal
use Rattle.jolie_parse.proofs.begun.are_next_statements.Goals.{in-Ok, in-Err-Syntax, in-Err-TooDeep, in-Err-Memory}

pub returns : goal.returns
returns c = elim c.match-next_statements.branch [
  | in-Ok w ↦ subst (λ z. IfOk z (λ found. found ≡ true → AreNext c.args.levels (spelled c.args.text.now c.args.tokens.now))) (sym w.result-is)
      (λ yes. next_found c.args.levels (spelled c.args.text.now c.args.tokens.now) w.in-Ok.field-0 c.next_statements.new.self
      (ap (λ z. more c.args.levels next_statement [] z) (sym c.new-cursor.ensures) ∙ w.in-Ok.ensures) (w.is_empty.ensures.0 yes))
  | in-Err-Syntax w ↦ subst (λ z. IfOk z (λ found. found ≡ true → AreNext c.args.levels (spelled c.args.text.now c.args.tokens.now))) (sym w.result-is) (λ yes. cc)
  | in-Err-TooDeep w ↦ subst (λ z. IfOk z (λ found. found ≡ true → AreNext c.args.levels (spelled c.args.text.now c.args.tokens.now))) (sym w.result-is) (λ yes. cc)
  | in-Err-Memory w ↦ subst (λ z. IfOk z (λ found. found ≡ true → AreNext c.args.levels (spelled c.args.text.now c.args.tokens.now))) (sym w.result-is) tt
]
