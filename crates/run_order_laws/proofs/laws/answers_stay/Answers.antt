use Rattle.run_order_laws.proofs.Staying.{answer_stays_longer}
use Rattle.run_order_laws.proofs.Telling.{told_stays}
use Rattle.run_order_laws.proofs.laws.answers_stay.Goals as goal

pub returns : goal.returns
returns c = record { answers = answer_stays_longer; told = told_stays }
