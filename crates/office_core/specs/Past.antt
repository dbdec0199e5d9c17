-- What happened so far: the entries, and the messages that they accepted, each with the session that it went to.
use Rattle.std.specs.Prelude.{Bool, true, false, not, List, []}
use Rattle.std.specs.List.{list_any}
pub use Rattle.office_core.specs.declared.message.Message.{Message}
use Rattle.office_core.specs.declared.history.Entry.{Entry}
use Rattle.office_core.specs.declared.history.Act.TheVariants as act

-- what happened so far
pub record Past : Type 0 where
  pub entries : List Entry
  pub messages : List Message

-- nothing happened yet
abbrev pub nothing_yet : Past
nothing_yet = record { entries = []; messages = [] }

-- whether there is an entry of a kind
abbrev pub some_entry : Past → (Entry → Bool) → Bool
some_entry past is_it = list_any is_it past.entries

-- an entry by which the run stopped
abbrev pub stops : Entry → Bool
stops e = elim e.act [ act.Stop ↦ true | _ ↦ false ]

-- the run did not stop
abbrev pub is_running : Past → Bool
is_running past = not (some_entry past stops)

-- an entry that notes the end of input
abbrev pub closes : Entry → Bool
closes e = elim e.act [ act.Close ↦ true | _ ↦ false ]
