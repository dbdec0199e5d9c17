use Rattle.run_order_laws.proofs.Ordering.{order_early, order_ends, order_goes_on}
use Rattle.run_order_laws.proofs.laws.postings_are_told_in_order.Goals as goal

pub returns : goal.returns
returns c = record { goes_on = order_goes_on; ends = order_ends; early = order_early }
