use Rattle.std.proofs.Common.{◌≡◌, drop}
use Rattle.session_calculus.specs.Ready.{rising, ready_among}
use Rattle.handler_table.specs.View.{table_view}
use Rattle.session_forms.specs.View.{members_view}
use Rattle.session_faults.specs.Least.{first, lesser_of}
use Rattle.session_faults.proofs.ready.+ready.Given as goal

abbrev pub invariant-least_among-loop-member : goal.invariant-least_among-loop-member
invariant-least_among-loop-member l =
    lesser_of l.least (first (rising (ready_among l.installed.scope (table_view l.installed.table) (members_view (drop l.member-index l.strands)))))
    ≡ first (rising (ready_among l.installed.scope (table_view l.installed.table) (members_view l.strands)))
