use Rattle.std.proofs.Common.{◌≡◌, drop, map}
use Rattle.behaviour_tree.specs.View.{handler_view, handlers_of}
use Rattle.session_calculus.specs.Tables as spec
use Rattle.handler_table.specs.View.{table_view}
use Rattle.handler_table.proofs.table.Table.fits.Given as goal

abbrev pub invariant-loop-handler : goal.invariant-loop-handler
invariant-loop-handler l = spec.fits l.scope (table_view l.self) (handlers_of (map handler_view l.handler-items)) ≡ spec.fits l.scope (table_view l.self) (handlers_of (map handler_view (drop l.handler-index l.handler-items)))
