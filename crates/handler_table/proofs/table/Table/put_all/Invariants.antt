use Rattle.std.proofs.Common.{◌≡◌, ◌≤◌, length, map}
use Rattle.std.specs.Vec.Iter.{into_iter_items, into_iter_len}
use Rattle.behaviour_tree.specs.View.{handler_view}
use Rattle.handler_table.specs.Filled.{with_all}
use Rattle.handler_table.specs.View.{room_of, table_view}
use Rattle.handler_table.proofs.table.Table.put_all.Given as goal

abbrev pub invariant-loop-handler : goal.invariant-loop-handler
invariant-loop-handler l = record {
  same : with_all l.scope (map handler_view l.fn.handlers.items) (table_view l.initial.self) ≡ with_all l.scope (map handler_view (into_iter_items l.handler-iterator)) (table_view l.self);
  faults : length (into_iter_items l.handler-iterator) ≤ room_of l.self.faults;
  scopes : length (into_iter_items l.handler-iterator) ≤ room_of l.self.scopes;
  left : into_iter_len l.handler-iterator ≡ length (into_iter_items l.handler-iterator);
}
