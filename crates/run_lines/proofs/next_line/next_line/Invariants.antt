use Rattle.std.proofs.Common.{◌-◌, ◌^◌}
use Rattle.run_lines.specs.FrontSteps.{reading, progress, IsIdle}
use Rattle.run_lines.proofs.next_line.next_line.Given as goal

abbrev pub invariant-loop-found : goal.invariant-loop-found
invariant-loop-found g l =
    IsIdle (reading l.fn.lines (g.S.Source.told l.fn.source).unread (g.S.Source.told l.fn.source).faults)
    (reading l.lines (g.S.Source.told l.source).unread (g.S.Source.told l.source).faults)

-- memory has an end, so that a reader comes no further than this
abbrev pub decreases-loop-found : goal.decreases-loop-found
decreases-loop-found g l = 2 ^ 64 - progress l.lines
