-- The table that a Rust table stands for.
use Rattle.std.specs.Prelude.{ℕ, ◌-◌}
use Rattle.std.specs.Vec.{vec_len, vec_capacity}
use Rattle.session_calculus.specs.Tables as spec
use Rattle.session_calculus.specs.Tables.{Entries}
use Rattle.handler_table.specs.Entries.{entries_of}
use Rattle.handler_table.specs.declared.row.Row.{Row}
use Rattle.handler_table.specs.declared.table.Table.{Table}

-- the entries of a row
abbrev pub row_view : Row → Entries
row_view r = entries_of r.list.items

-- how many handlers a row takes without memory
abbrev pub room_of : Row → ℕ
room_of r = vec_capacity r.list - vec_len r.list

-- the table that a Rust table stands for
abbrev pub table_view : Table → spec.Table
table_view t = record { faults = row_view t.faults; scopes = row_view t.scopes }

-- how many handlers of scopes a table takes without memory
abbrev pub room : Table → ℕ
room t = room_of t.scopes
