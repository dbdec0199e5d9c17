-- The entries of a history, and whether there is room for one more.
use Rattle.std.specs.Prelude.{◌+◌, ◌<◌, List}
use Rattle.std.specs.Vec.{vec_len, vec_capacity}
use Rattle.office_core.specs.declared.history.Entry.{Entry}
use Rattle.office_plain.specs.declared.log.Log.{Log}

-- the entries so far
abbrev pub entries_of : Log → List Entry
entries_of log = log.history.entries.items

-- there is room for an entry beside those for which room is kept
abbrev pub HasRoom : Log → Type 0
HasRoom log = vec_len log.history.entries + log.kept < vec_capacity log.history.entries
