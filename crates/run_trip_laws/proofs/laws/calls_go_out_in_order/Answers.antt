use Rattle.run_trip_laws.proofs.Settling.{settled_back, noted_console}
use Rattle.run_trip_laws.proofs.Completing.{completed_remote}
use Rattle.run_trip_laws.proofs.laws.calls_go_out_in_order.Goals as goal

pub returns : goal.returns
returns c = record { settled = settled_back; noted = noted_console; travels = completed_remote }
