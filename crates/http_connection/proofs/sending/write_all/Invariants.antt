use Rattle.std.proofs.Common.{◌≡◌, ◌-◌, ◌≤◌, true, length, take}
use Rattle.std.specs.Io.KnownBytes.{Appends}
use Rattle.http_port.specs.Writing.{IsWritten}
use Rattle.http_connection.proofs.sending.write_all.Given as goal

abbrev pub invariant-loop-done : goal.invariant-loop-done
invariant-loop-done g l = record {
  within : l.done ≤ length l.bytes;
  written : Appends (g.W.Wire.told l.fn.wire).written (g.W.Wire.told l.wire).written (take l.done l.bytes);
  called : IsWritten (g.W.Wire.told l.fn.wire).calls (g.W.Wire.told l.wire).calls (take l.done l.bytes) true;
  lost : (g.W.Wire.told l.wire).read_failed ≡ (g.W.Wire.told l.fn.wire).read_failed;
  cut : (g.W.Wire.told l.wire).write_failed ≡ (g.W.Wire.told l.fn.wire).write_failed;
  given : (g.W.Wire.told l.wire).read ≡ (g.W.Wire.told l.fn.wire).read;
  left : (g.W.Wire.told l.wire).unread ≡ (g.W.Wire.told l.fn.wire).unread;
  closed : (g.W.Wire.told l.wire).closed ≡ (g.W.Wire.told l.fn.wire).closed;
  door : (g.W.Wire.told l.wire).door ≡ (g.W.Wire.told l.fn.wire).door;
}

abbrev pub decreases-loop-done : goal.decreases-loop-done
decreases-loop-done g l = length l.bytes - l.done
