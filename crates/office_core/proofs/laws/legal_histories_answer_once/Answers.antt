use Rattle.office_core.proofs.OneAnswer.{answers_once}
use Rattle.office_core.proofs.laws.legal_histories_answer_once.Goals as goal

pub returns : goal.returns
returns c = record { answered = answers_once }
