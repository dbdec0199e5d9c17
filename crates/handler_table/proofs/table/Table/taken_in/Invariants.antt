use Rattle.std.proofs.Common.{◌≡◌, map, take}
use Rattle.behaviour_tree.specs.View.{handler_view}
use Rattle.handler_table.specs.Filled.{taken}
use Rattle.handler_table.specs.View.{table_view}
use Rattle.handler_table.proofs.table.Table.taken_in.Given as goal

abbrev pub invariant-loop-handler : goal.invariant-loop-handler
invariant-loop-handler l = map handler_view l.list.items ≡ map (taken l.scope (table_view l.self)) (map handler_view (take l.handler-index l.handler-items))
