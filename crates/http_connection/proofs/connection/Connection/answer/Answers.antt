use Rattle.http_connection.specs.Stages.{stage_of, IsBehindTelling}
use Rattle.http_connection.proofs.Passing.{spent_stage}
use Rattle.http_connection.proofs.connection.Connection.answer.Goals as goal

pub returns-clause-stage : goal.returns-clause-stage
returns-clause-stage g c = spent_stage c.tell.result (λ _. IsBehindTelling (stage_of c.tell.new.kept.next)) c.tell.new.kept.next c.tell.ensures.next
