use Rattle.std.specs.Io.KnownBytes.{Keeps}
use Rattle.outside_sockets.proofs.socket_wire.read_uninterrupted.Given as goal

abbrev pub invariant-loop : goal.invariant-loop
invariant-loop g l = Keeps (g.S.Read.remaining l.fn.stream) (g.S.Read.remaining l.stream)
