use Rattle.std.proofs.Common.{◌≡◌, drop}
use Rattle.handler_table.specs.Entries.{entries_of}
use Rattle.handler_table.specs.Rows.{moved, searched}
use Rattle.handler_table.specs.View.{row_view}
use Rattle.handler_table.proofs.row.Row.search.Given as goal

abbrev pub invariant-loop-place : goal.invariant-loop-place
invariant-loop-place l = searched l.number (row_view l.self) ≡ moved l.place (searched l.number (entries_of (drop l.place l.self.list.items)))
