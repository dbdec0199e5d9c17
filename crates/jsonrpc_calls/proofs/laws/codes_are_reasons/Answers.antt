use Rattle.jsonrpc_calls.proofs.Codes.{named-found, found-has_code}
use Rattle.jsonrpc_calls.proofs.laws.codes_are_reasons.Goals as goal

pub returns-clause-names : goal.returns-clause-names
returns-clause-names c = named-found

pub returns-clause-codes : goal.returns-clause-codes
returns-clause-codes c = found-has_code
