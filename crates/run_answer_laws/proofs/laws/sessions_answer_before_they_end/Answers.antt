use Rattle.run_answer_laws.proofs.Answering.{ends_answered, stops_live}
use Rattle.run_answer_laws.proofs.laws.sessions_answer_before_they_end.Goals as goal

pub returns : goal.returns
returns c =
    let laws = c.runs_keep_their_promises.ensures in record {
      answered = ends_answered laws.answered laws.at_end;
      stopped = stops_live laws.answered laws.at_end;
    }
