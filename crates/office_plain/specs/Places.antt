-- For how many entries room is kept: for that of close and that of stop, until each is there.
use Rattle.std.specs.Prelude.{ℕ, ◌+◌, if◌then◌else◌}
use Rattle.office_core.specs.Past.{Past, some_entry, closes, stops}

-- the entries for which room is kept
abbrev pub places_kept : Past → ℕ
places_kept past = (if some_entry past closes then 0 else 1) + (if some_entry past stops then 0 else 1)
