use Rattle.jolie_tokens.proofs.Readings.{have_one_reading}
use Rattle.jolie_tokens.proofs.laws.texts_have_one_reading.Goals as goal

pub returns : goal.returns
returns c = have_one_reading
