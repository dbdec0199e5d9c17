use Rattle.std.proofs.Common.{◌≡◌, ◌++◌, take, flat_map}
use Rattle.explain_notes.specs.Services.{socket_in}
use Rattle.explain_notes.proofs.sockets.add_service.Given as goal

abbrev pub invariant-loop-clause : goal.invariant-loop-clause
invariant-loop-clause l = l.names ≡ l.initial.names ++ flat_map socket_in (take l.clause-index l.clause-items)
