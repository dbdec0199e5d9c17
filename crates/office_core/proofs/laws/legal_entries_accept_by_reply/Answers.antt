use Rattle.office_core.proofs.Said.{accepts_by_reply}
use Rattle.office_core.proofs.laws.legal_entries_accept_by_reply.Goals as goal

pub returns : goal.returns
returns c = record { by_reply = accepts_by_reply }
