-- The lines that answer postings, by what their calls came to.
use Rattle.std.specs.Prelude.{ℕ, List, [], flat_map, None, Some, slice_get}
use Rattle.behaviour_tree.specs.Data.{ProgramParts}
use Rattle.behaviour_tree.specs.declared.words.Outcome.{Outcome}
use Rattle.run_theorem.specs.Exchange.{Told}
use Rattle.run_theorem.specs.Texts.{Came}
use Rattle.run_theorem.specs.Lines.{line_if}
use Rattle.jsonrpc_postings.specs.Told.{response_told}

-- the line that answers what came in, none where nothing is sent
abbrev pub line_to : ProgramParts → Came → List Outcome → List ℕ
line_to parts came outcomes = line_if (response_told parts came outcomes)

-- the line of what was told of a place, none where nothing came in there
abbrev pub line_told : ProgramParts → List Came → Told → List ℕ
line_told parts came t = elim (slice_get came t.place) [ None ↦ [] | Some c ↦ line_to parts c t.outcomes ]

-- the lines of all that was told, in the order in which it was
abbrev pub lines_told : ProgramParts → List Came → List Told → List ℕ
lines_told parts came told = flat_map (line_told parts came) told
