-- What contracts see of an office: what it works by, and what happened so far.
use Rattle.std.specs.Prelude.{◌≡◌, ◌++◌, List, [], ◌∷◌, Option, None, Some}
use Rattle.behaviour_tree.specs.PartsView.{parts_of}
use Rattle.office_core.specs.declared.history.Entry.{Entry}
use Rattle.office_core.specs.Limits.{Setting}
use Rattle.office_core.specs.Past.{Past}
use Rattle.office_plain.specs.declared.office.Office.{Office}
use Rattle.office_plain.specs.Facts.{setting_by, past_by}
use Rattle.office_plain.specs.Logs as log

-- what an office works by
abbrev pub setting_of : Office → Setting
setting_of o = setting_by o.program

-- the history so far
abbrev pub entries_of : Office → List Entry
entries_of o = log.entries_of o.log

-- what happened so far
abbrev pub past_in : Office → Past
past_in o = past_by o.program o.log

-- entries with one more, where there is one
abbrev pub with_entry : List Entry → Option Entry → List Entry
with_entry es None = es
with_entry es (Some e) = es ++ e ∷ []

-- the history has an entry more, where there is one, and nothing else; the program stays
pub record Adds (more : Option Entry) (old new : Office) : Type 0 where
  pub program : parts_of new.program ≡ parts_of old.program
  pub entries : entries_of new ≡ with_entry (entries_of old) more
