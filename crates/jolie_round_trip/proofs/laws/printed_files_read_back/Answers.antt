use Rattle.jolie_round_trip.proofs.RoundTrip.{files_read_back}
use Rattle.jolie_round_trip.proofs.laws.printed_files_read_back.Goals as goal

pub returns : goal.returns
returns c = files_read_back c.texts_have_one_reading.ensures c.tokens_have_one_tree.ensures
