use Rattle.office_core.proofs.Numbers.{calls_rise}
use Rattle.office_core.proofs.laws.legal_histories_number_calls.Goals as goal

pub returns : goal.returns
returns c = record { numbered = λ w h s k d legal there. calls_rise w h s legal k d there }
