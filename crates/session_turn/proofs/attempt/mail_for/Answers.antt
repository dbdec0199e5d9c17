-- The message that was taken is the mail of the gift.
use Rattle.session_turn.proofs.Giving.{gave_mail_of}
use Rattle.session_turn.proofs.attempt.mail_for.Goals as goal

pub returns-clause-asked : goal.returns-clause-asked
returns-clause-asked g c =
    gave_mail_of c.as_slice.ensures (rw c.in-Some.is at c.in_ok-take.ensures.taken)
