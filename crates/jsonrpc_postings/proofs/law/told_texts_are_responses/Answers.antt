-- A posting that is told of has the response that the history gives.
use Rattle.jsonrpc_postings.proofs.Responses.{response_told-of}
use Rattle.jsonrpc_postings.proofs.law.told_texts_are_responses.Goals as goal

pub returns : goal.returns
returns c = λ w past came j outcomes h. response_told-of w past came j outcomes h
