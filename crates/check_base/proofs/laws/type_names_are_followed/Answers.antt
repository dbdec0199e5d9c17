use Rattle.check_base.proofs.TypeNames.{behind_names_in_any}
use Rattle.check_base.proofs.laws.type_names_are_followed.Goals as goal

pub returns-clause-behind : goal.returns-clause-behind
returns-clause-behind c = behind_names_in_any
