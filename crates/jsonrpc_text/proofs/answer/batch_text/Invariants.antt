use Rattle.std.proofs.Common.{◌≡◌, ◌++◌, codes, drop, string_bytes}
use Rattle.jsonrpc_text.specs.Responses.{listed}
use Rattle.jsonrpc_text.proofs.Batches.{left_after}
use Rattle.jsonrpc_text.proofs.answer.batch_text.Given as goal

abbrev pub invariant-loop-place : goal.invariant-loop-place
invariant-loop-place l = string_bytes l.batch ++ left_after l.place (drop l.place l.texts) ≡ codes "[" ++ listed l.texts
