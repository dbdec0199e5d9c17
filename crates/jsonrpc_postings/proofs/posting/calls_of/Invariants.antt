-- The calls so far have come in.
use Rattle.std.proofs.Common.{◌≡◌, map, take}
use Rattle.run_theorem.specs.Texts.{call_in}
use Rattle.jsonrpc_postings.proofs.posting.calls_of.Given as goal

abbrev pub invariant-loop-call : goal.invariant-loop-call
invariant-loop-call l = l.posted ≡ map (call_in l.service) (take l.call-index l.calls)
