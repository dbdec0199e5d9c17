-- What a run over lines posts and writes.
use Rattle.std.specs.Prelude.{◌≡◌, ◌≢◌, ◌⊎◌, ℕ, zero, suc, ◌-◌, ◌^◌, ◌≤◌, Bool, true, false, MatchBool, List, [], ◌∷◌, ◌++◌}
use Rattle.std.specs.Prelude.{length, map, take, flat_map, nat_eq, Option, None, Some, slice_get}
use Rattle.std.specs.Io.KnownBytes.{IsAtEnd}
use Rattle.std.specs.Option.{option_map_or}
use Rattle.outside_traits.specs.Causes.{Rose}
use Rattle.outside_traits.specs.Told.{SourceTold}
use Rattle.jsonrpc_text.specs.Posted.{posted}
use Rattle.office_core.specs.declared.history.Act.TheVariants as act
use Rattle.office_core.specs.declared.history.Entry.{Entry}
use Rattle.office_core.specs.Limits.{Setting, first_worker}
use Rattle.office_core.specs.Past.{Past}
use Rattle.office_core.specs.Accepted.{past_of}
use Rattle.run_record.specs.Order.{numbers_from, until_posting, finished_there, order_alone, IsOrder}
use Rattle.run_record.specs.Outside.{notes}
use Rattle.run_record.specs.Run.{Hands, alone, workers}
use Rattle.run_theorem.specs.Texts.{Came, response}
use Rattle.run_theorem.specs.Split.{whole_lines, all_lines, sent_lines}
use Rattle.run_theorem.specs.Statuses.{Causes, halts}

-- the most postings of a front: what comes after them is passed over
abbrev pub most_postings : ℕ
most_postings = 4294967295

-- the most looks in a row that find nothing
abbrev pub most_waits : ℕ
most_waits = 1000000

-- the most looks of a run at which something moved and no posting came
abbrev pub most_moves : ℕ
most_moves = 2 ^ 64 - 1

-- ---- what comes in

-- a line for the first service
abbrev pub line_in : List ℕ → Came
line_in line = record { service = 0; read = posted line }

-- what lines bring in, in order
abbrev pub come_in : List (List ℕ) → List Came
come_in lines = take most_postings (map line_in lines)

-- a post is by the worker that has the lines
abbrev pub is_by_first : Entry → Bool
is_by_first e = elim e.act [ act.Post j i q r ↦ nat_eq e.actor first_worker | _ ↦ true ]

-- ---- what is written

-- a response with its line end, where there is one
abbrev pub line_if : Option (List ℕ) → List ℕ
line_if None = []
line_if (Some text) = text ++ 10 ∷ []

-- the line that answers the posting of a number, none where it is not there
abbrev pub line_of : Setting → Past → List Came → ℕ → List ℕ
line_of w past all j =
    option_map_or (λ came. line_if (response w past first_worker j came)) (slice_get all j) []

-- the lines that answer postings, in an order
abbrev pub lines_in : Setting → List Entry → List Came → List ℕ → List ℕ
lines_in w h all order = flat_map (line_of w (past_of w h) all) order

-- the postings, among so many, that are finished at one before posting j, in the order in which one worker answers them
abbrev pub finished_before : Setting → List Entry → ℕ → ℕ → List ℕ
finished_before w h count j = flat_map (finished_there w (past_of w h) first_worker count) (numbers_from 0 j)

-- the postings, among so many, that are finished before the end, in the order in which they are answered
abbrev pub finished_early : Setting → List Entry → ℕ → List ℕ
finished_early w h count = finished_before w h count count

-- what the history notes before posting j is asked for: nothing before the first
abbrev pub noted_before : Setting → List Entry → ℕ → List ℕ
noted_before w h zero = []
noted_before w h (suc j) = notes w (until_posting (past_of w h) first_worker j).entries

-- the order is one in which those who work may answer so many postings
abbrev pub IsOrderOf : Hands → Setting → List Entry → ℕ → List ℕ → Type 0
IsOrderOf alone w h count order = order ≡ order_alone w h first_worker count
IsOrderOf (workers n) w h count order = IsOrder w h first_worker count order

-- xs stands at the front of ys
abbrev pub IsPrefix : {A : Type 0} → List A → List A → Type 0
IsPrefix {A} xs ys = (rest : List A) × (xs ++ rest ≡ ys)

-- xs stands at the front of ys and is not all of it
abbrev pub IsProperPrefix : {A : Type 0} → List A → List A → Type 0
IsProperPrefix {A} xs ys = (rest : List A) × (rest ≢ []) × (xs ++ rest ≡ ys)

-- ---- a run over lines

-- the source was read to its end, or received as many postings as there may be
abbrev pub IsExhausted : Option (List ℕ) → List ℕ → Type 0
IsExhausted unread read = IsAtEnd unread ⊎ (most_postings ≤ length (sent_lines (all_lines read)))

-- Which of the lines that were read came in: all, where nothing failed and the source was exhausted; those that have
-- their end, where the source failed; and where a write failed the first of these, or of all once the source came to
-- its end without a failure.
pub data CameIn (c : Causes) (before now : SourceTold) (read : List ℕ) (came : List Came) : Type 0 where
  whole : now.faults ≡ before.faults → halts c ≡ false → IsExhausted now.unread read
      → came ≡ come_in (sent_lines (all_lines read)) → CameIn c before now read came
  cut : Rose before.faults now.faults → halts c ≡ false → came ≡ come_in (sent_lines (whole_lines read))
      → CameIn c before now read came
  halted : halts c ≡ true → IsPrefix came (come_in (sent_lines (whole_lines read))) → CameIn c before now read came
  halted_at_end : halts c ≡ true → now.faults ≡ before.faults → IsAtEnd now.unread
      → IsPrefix came (come_in (sent_lines (all_lines read))) → CameIn c before now read came

-- The lines that are due for what came in: those that answer its postings, each once, in the order of those who work.
pub record AreDue (hands : Hands) (w : Setting) (h : List Entry) (came : List Came) (due : List ℕ) : Type 0 where
  pub order : List ℕ
  pub in_order : IsOrderOf hands w h (length came) order
  pub lines : due ≡ lines_in w h came order

-- What was written of what is due: not all of it, where the output failed; a front of it, where a note failed; else
-- all.
abbrev pub IsWritten : Causes → List ℕ → List ℕ → Type 0
IsWritten c due written =
    MatchBool c.output (IsProperPrefix written due) (MatchBool c.notes (IsPrefix written due) (written ≡ due))

-- what answers the postings that are finished before the last one is asked for was written by then
abbrev pub WroteEarly : Setting → List Entry → List Came → List ℕ → Type 0
WroteEarly w h came written =
    (j : ℕ) → length came ≡ suc j → IsPrefix (lines_in w h came (finished_before w h (length came) j)) written
