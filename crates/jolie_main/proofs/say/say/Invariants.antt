use Rattle.std.proofs.Common.{◌≡◌, ◌-◌, ◌≤◌, length, take}
use Rattle.std.specs.Io.KnownBytes.{Appends}
use Rattle.jolie_main.proofs.say.say.Given as goal

abbrev pub invariant-loop-done : goal.invariant-loop-done
invariant-loop-done g l = record {
  within : l.done ≤ length l.text;
  written : Appends (g.K.Sink.told l.fn.output).written (g.K.Sink.told l.output).written (take l.done l.text);
  unfailed : (g.K.Sink.told l.output).faults ≡ (g.K.Sink.told l.fn.output).faults;
}

abbrev pub decreases-loop-done : goal.decreases-loop-done
decreases-loop-done g l = length l.text - l.done
