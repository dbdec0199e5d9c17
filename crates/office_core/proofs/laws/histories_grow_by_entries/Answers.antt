use Rattle.office_core.proofs.Longer.{past_more, legal_more}
use Rattle.office_core.proofs.laws.histories_grow_by_entries.Goals as goal

pub returns : goal.returns
returns c = record { grows = past_more; legal = legal_more }
