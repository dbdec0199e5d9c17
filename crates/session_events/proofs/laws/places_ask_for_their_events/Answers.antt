use Rattle.session_events.proofs.Asking.{asks_for_it, has_gift}
use Rattle.session_events.proofs.laws.places_ask_for_their_events.Goals as goal

pub returns-clause-asks : goal.returns-clause-asks
returns-clause-asks c = asks_for_it

pub returns-clause-gift : goal.returns-clause-gift
returns-clause-gift c = has_gift
