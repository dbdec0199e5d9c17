use Rattle.run_trip_laws.proofs.Completing.{travelled, void_is}
use Rattle.run_trip_laws.proofs.laws.calls_that_went_out_came_back.Goals as goal

pub returns : goal.returns
returns c = record { travelled = travelled; void = void_is }
