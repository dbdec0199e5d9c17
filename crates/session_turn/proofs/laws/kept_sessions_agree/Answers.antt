use Rattle.session_turn.proofs.Agreeing.{agrees}
use Rattle.session_turn.proofs.laws.kept_sessions_agree.Goals as goal

pub returns : goal.returns
returns c = record { agrees = λ a es now k. agrees k }
