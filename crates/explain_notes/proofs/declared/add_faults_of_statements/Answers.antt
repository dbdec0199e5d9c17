use Rattle.explain_notes.proofs.Turns.{three_more}
use Rattle.explain_notes.proofs.declared.add_faults_of_statements.Goals as goal

pub returns : goal.returns
returns c = three_more _ _ _ _ _ _ _ c.in_ok-add.ensures.added c.in_ok-add-2.ensures.added c.in_ok-add-3.ensures.added
