use Rattle.std.proofs.Common.{◌≡◌, ◌≤◌, true, length}
use Rattle.session_calculus.specs.Tables as spec
use Rattle.handler_table.specs.Entries.{entries_in, entries_of}
use Rattle.handler_table.specs.Rows.{are_scopes, views_of}
use Rattle.handler_table.specs.View.{room, table_view}
use Rattle.behaviour_tree.specs.View.{handlers_view}
use Rattle.handler_table.proofs.table.Table.merge.Given as goal

abbrev pub invariant-loop-handler : goal.invariant-loop-handler
invariant-loop-handler l = record {
  faults : (table_view l.self).faults ≡ (table_view l.initial.self).faults;
  scopes : spec.over (entries_in (handlers_view l.fn.completed)) (table_view l.initial.self).scopes ≡ spec.over (entries_of l.list.items) (table_view l.self).scopes;
  keys : are_scopes (views_of l.list.items) ≡ true;
  short : length l.list.items ≤ room l.self;
}

abbrev pub decreases-loop-handler : goal.decreases-loop-handler
decreases-loop-handler l = length l.list.items
