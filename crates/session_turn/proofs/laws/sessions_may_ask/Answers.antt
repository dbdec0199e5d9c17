use Rattle.session_turn.proofs.Owing.{may_ask_next}
use Rattle.session_turn.proofs.laws.sessions_may_ask.Goals as goal

pub returns : goal.returns
returns c =
    let laws = c.runs_keep_their_promises.ensures in record { asks = may_ask_next laws.answered laws.waited }
