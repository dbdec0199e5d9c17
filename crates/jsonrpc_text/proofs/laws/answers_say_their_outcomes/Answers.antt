use Rattle.std.proofs.Common.{refl}
use Rattle.serde_json.proofs.OnLiterals.{serde_json_on_literals}
use Rattle.jsonrpc_text.proofs.Depths.{answer-shallow}
use Rattle.jsonrpc_text.proofs.laws.answers_say_their_outcomes.Goals as goal

pub returns-clause-values : goal.returns-clause-values
unfolding serde_json_on_literals
returns-clause-values c = λ types ty i t. record { version = refl; id = refl; result_is = refl; error_is = refl; code_is = refl; message_is = refl; data_is = refl }

pub returns-clause-faults : goal.returns-clause-faults
unfolding serde_json_on_literals
returns-clause-faults c = λ types ty i name t. record { version = refl; id = refl; result_is = refl; error_is = refl; code_is = refl; message_is = refl; data_is = refl }

pub returns-clause-refusals : goal.returns-clause-refusals
unfolding serde_json_on_literals
returns-clause-refusals c = λ types ty i reason. record { version = refl; id = refl; result_is = refl; error_is = refl; code_is = refl; message_is = refl; data_is = refl }

pub returns-clause-shallow : goal.returns-clause-shallow
returns-clause-shallow c = answer-shallow
