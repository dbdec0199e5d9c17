use Rattle.session_shared_turns.proofs.Foreign.{may_still}
use Rattle.session_shared_turns.proofs.Staying.{acts_still, has_still, next_then, open_then, took_then, wants_still}
use Rattle.session_shared_turns.proofs.laws.what_a_session_may_ask_stays.Goals as goal

pub returns-clause-may : goal.returns-clause-may
returns-clause-may c = may_still

pub returns-clause-acts : goal.returns-clause-acts
returns-clause-acts c = acts_still

pub returns-clause-wanted : goal.returns-clause-wanted
returns-clause-wanted c = wants_still

pub returns-clause-has : goal.returns-clause-has
returns-clause-has c = has_still

pub returns-clause-took : goal.returns-clause-took
returns-clause-took c = took_then

pub returns-clause-open : goal.returns-clause-open
returns-clause-open c = open_then

pub returns-clause-next : goal.returns-clause-next
returns-clause-next c = next_then
