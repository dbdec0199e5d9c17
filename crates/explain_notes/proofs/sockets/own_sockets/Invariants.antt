use Rattle.std.proofs.Common.{◌≡◌, take}
use Rattle.explain_notes.specs.Services.{own_sockets}
use Rattle.explain_notes.proofs.sockets.own_sockets.Given as goal

abbrev pub invariant-loop-definition : goal.invariant-loop-definition
invariant-loop-definition l = l.names ≡ own_sockets (take l.definition-index l.file)
