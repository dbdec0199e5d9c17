use Rattle.office_laws.proofs.First.{binds_first}
use Rattle.office_laws.proofs.Writing.{writes_first}
use Rattle.office_laws.proofs.laws.first_values_are_bound.Goals as goal

pub returns : goal.returns
returns c = record { bound = binds_first; written = writes_first }
