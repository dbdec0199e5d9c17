use Rattle.run_order_laws.proofs.Posting.{posted_others}
use Rattle.run_order_laws.proofs.laws.postings_stay.Goals as goal

pub returns : goal.returns
returns c = posted_others
