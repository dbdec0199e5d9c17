use Rattle.explain_notes.proofs.Silent.{no_faults_behind}
use Rattle.explain_notes.proofs.Turns.{nothing_added}
use Rattle.explain_notes.proofs.declared.add_group.Goals as goal

pub returns-in-OneWay : goal.returns-in-OneWay
returns-in-OneWay c = nothing_added _ _ (no_faults_behind _ _ _ c.in-OneWay.is)
