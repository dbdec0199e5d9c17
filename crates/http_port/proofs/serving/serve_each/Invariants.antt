use Rattle.std.proofs.Common.{◌≡◌, ◌-◌, ◌^◌, ◌≤◌, length, take}
use Rattle.http_port.specs.Walks.{AsksWhereGiven}
use Rattle.http_port.proofs.ServingLemmas.{Going}
use Rattle.http_port.proofs.serving.serve_each.Given as goal

abbrev pub invariant-loop-pieces : goal.invariant-loop-pieces
invariant-loop-pieces g l = record {
  asks : AsksWhereGiven l.fn.reader;
  within : l.count ≤ length l.chunk;
  going : Going l.fn.reader
      (record { given = (g.W.Wire.told l.fn.wire).read; left = (g.W.Wire.told l.fn.wire).unread; taken = (g.W.Wire.told l.fn.wire).written; calls = (g.W.Wire.told l.fn.wire).calls; heard = g.S.Serve.heard l.fn.serve; said = g.S.Serve.said l.fn.serve })
      l.reader
      (record { given = (g.W.Wire.told l.wire).read; left = (g.W.Wire.told l.wire).unread; taken = (g.W.Wire.told l.wire).written; calls = (g.W.Wire.told l.wire).calls; heard = g.S.Serve.heard l.serve; said = g.S.Serve.said l.serve })
      (take l.count l.chunk);
  lost : (g.W.Wire.told l.wire).read_failed ≡ (g.W.Wire.told l.fn.wire).read_failed;
  cut : (g.W.Wire.told l.wire).write_failed ≡ (g.W.Wire.told l.fn.wire).write_failed;
  closed : (g.W.Wire.told l.wire).closed ≡ (g.W.Wire.told l.fn.wire).closed;
}

-- Each turn notes how long its piece was, and memory has an end.
abbrev pub decreases-loop-pieces : goal.decreases-loop-pieces
decreases-loop-pieces g l = 2 ^ 63 - length l.pieces.items
