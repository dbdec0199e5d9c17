-- What the calls gave is what the needs ask for.
use Rattle.std.proofs.Common.{refl}
use Rattle.session_turn.proofs.Giving.{gave_answer, gave_at, gave_bound, gave_end, gave_nothing, gave_reply, gave_send}
use Rattle.session_turn.proofs.attempt.ask.Goals as goal

pub returns-in-Nothing-clause-asked : goal.returns-in-Nothing-clause-asked
returns-in-Nothing-clause-asked g c = gave_at c.in-Nothing.is refl (gave_nothing _)

pub returns-in_ok-reply-in-Bind-clause-asked : goal.returns-in_ok-reply-in-Bind-clause-asked
returns-in_ok-reply-in-Bind-clause-asked g c =
    gave_at c.in-Bind.is c.gift_of.ensures (gave_bound _ c.in_ok-reply-in-Bind.ensures.bound)

pub returns-in_ok-reply-in-Reply-clause-asked : goal.returns-in_ok-reply-in-Reply-clause-asked
returns-in_ok-reply-in-Reply-clause-asked g c =
    gave_at c.in-Reply.is refl (gave_reply c.in_ok-reply-in-Reply.ensures.replied)

pub returns-in_ok-send-in-Send-clause-asked : goal.returns-in_ok-send-in-Send-clause-asked
returns-in_ok-send-in-Send-clause-asked g c =
    gave_at c.in-Send.is refl (gave_send c.in_ok-send-in-Send.ensures.sent.1)

pub returns-in_ok-end-in-Finish-clause-asked : goal.returns-in_ok-end-in-Finish-clause-asked
returns-in_ok-end-in-Finish-clause-asked g c =
    gave_at c.in-Finish.is refl (gave_end c.in_ok-end-in-Finish.ensures.ended)

pub returns-in-Some-clause-asked : goal.returns-in-Some-clause-asked
returns-in-Some-clause-asked g c =
    gave_at c.in-Answer.is refl (gave_answer (rw c.in-Some.is at c.in_ok-take_answer-in-Answer.ensures.taken))
