-- What is said of a program, and of another text.
use Rattle.std.proofs.Common.{refl}
use Rattle.jolie_main.proofs.CommandsDone.{passed, not_passed}
use Rattle.jolie_main.proofs.show.check_text.Goals as goal

pub returns-in-Err-clause-shows : goal.returns-in-Err-clause-shows
returns-in-Err-clause-shows g c =
    not_passed c.args.text.now _ c.in-Err.refusal c.refuse.result _ _ c.in_ok-refusal.ensures c.in-Err.is c.refuse.ensures.status c.refuse.ensures.written

pub returns-clause-shows : goal.returns-clause-shows
returns-clause-shows g c = passed c.args.text.now _ _ _ c.tell.result.status _ _ c.in_ok-refusal.ensures c.in-Ok.is refl c.tell.ensures.says
