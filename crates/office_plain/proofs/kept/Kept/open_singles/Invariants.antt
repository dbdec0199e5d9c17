use Rattle.std.proofs.Common.{map, take}
use Rattle.behaviour_tree.specs.PartsView.{parts_of, service_view}
use Rattle.office_core.specs.Sessions.{singles_from}
use Rattle.office_plain.specs.Accepting.{OpensFirst}
use Rattle.office_plain.proofs.kept.Kept.open_singles.Given as goal

abbrev pub invariant-loop-number : goal.invariant-loop-number
invariant-loop-number l =
    OpensFirst (parts_of l.program)
    (take 4096 (singles_from 0 (map service_view (take l.number l.services)))) l.initial.self l.self
