use Rattle.std.proofs.lemmas.Result.{IfOk-weaker}
use Rattle.http_port.proofs.turn.answer.Goals as goal

pub returns-clause-answers : goal.returns-clause-answers
returns-clause-answers g c =
    IfOk-weaker c.reply.result _ _
    (λ turn h. (c.in_ok-said.said, h.0, h.1, h.2, h.3, c.in_ok-said.ensures.heard, c.in_ok-said.ensures.said))
    c.reply.ensures.answers
