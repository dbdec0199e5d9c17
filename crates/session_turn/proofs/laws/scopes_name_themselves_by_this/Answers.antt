use Rattle.session_turn.proofs.OwnKeys.{names_by_this}
use Rattle.session_turn.proofs.laws.scopes_name_themselves_by_this.Goals as goal

pub returns : goal.returns
returns c = record { named = names_by_this }
