-- The texts so far, and those of the calls that are left, are all.
use Rattle.std.proofs.Common.{◌≡◌, ◌++◌}
use Rattle.std.specs.Iterator.Adapters.{zip_first, zip_second}
use Rattle.std.specs.Slice.Iter.{iter_rest}
use Rattle.behaviour_tree.specs.PartsView.{parts_of}
use Rattle.jsonrpc_postings.specs.Told.{texts_told}
use Rattle.jsonrpc_postings.proofs.response.texts_told.Given as goal

abbrev pub invariant-loop-call : goal.invariant-loop-call
invariant-loop-call l =
    l.texts ++ texts_told (parts_of l.program) l.service (iter_rest (zip_first l.call-iterator)) (iter_rest (zip_second l.call-iterator))
    ≡ texts_told (parts_of l.program) l.service l.calls l.outcomes
