use Rattle.jolie_parse.proofs.Stops.{stop_at_one_place}
use Rattle.jolie_parse.proofs.laws.tokens_stop_at_one_place.Goals as goal

pub returns : goal.returns
returns c = stop_at_one_place
