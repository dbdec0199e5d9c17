-- What a front over lines read, and the postings that it received by then.
use Rattle.std.specs.Prelude.{◌≡◌, ℕ, ◌≤◌, Bool, true, false, List, map, length, Option, None}
use Rattle.std.specs.Io.KnownBytes.{Consumes, IsAtEnd}
use Rattle.outside_traits.specs.Causes.{Rose}
use Rattle.jsonrpc_text.specs.declared.message.Read.{Read}
use Rattle.run_theorem.specs.Exchange.{Asked, Received}
use Rattle.run_theorem.specs.Calls.{most_postings}
use Rattle.run_record.specs.Order.{numbers_from}
use Rattle.run_theorem.specs.Split.{whole_lines, all_lines, sent_lines}
use Rattle.run_theorem.specs.Texts.{Came, posting_of}
use Rattle.run_theorem.specs.Lines.{come_in}
use Rattle.run_lines.specs.Passing.{Passing, read_in, IsNear}

-- The input of a front: what was read, and how far its lines were passed; what the lines sent that were not blank;
-- whether nothing more is read; what the source has left, where that is told, and how often it failed.
pub record Input : Type 0 where
  pub passing : Passing
  pub reads : List Read
  pub over : Bool
  pub left : Option (List ℕ)
  pub faults : ℕ

-- the same by its parts
abbrev pub input_of : Passing → List Read → Bool → Option (List ℕ) → ℕ → Input
input_of passing reads over left faults =
    record { passing = passing; reads = reads; over = over; left = left; faults = faults }

-- what a line sent, to the first service
abbrev pub came_by : Read → Came
came_by read = record { service = 0; read = read }

-- what came in
abbrev pub came_in : Input → List Came
came_in now = map came_by now.reads

-- the requests of one list of lines, the only traffic of its run
abbrev pub asked_of : ℕ → List Asked
asked_of count = map (λ n. record { traffic = 0; request = n }) (numbers_from 0 count)

-- a source that had failed so often before failed since then, or did not
abbrev pub Fails : Bool → ℕ → ℕ → Type 0
Fails false before now = now ≡ before
Fails true before now = Rose before now

-- What came in, until the front has no posting any more and then: of the lines that were passed; of all lines, the last
-- of which needs no end, once the source is at its end; of those that were passed, where there were the most postings;
-- and of all that have their end, once the source failed.
pub data HasPassed (first now : Input) (ended : Bool) : Type 0 where
  some : ended ≡ false → now.over ≡ false → now.faults ≡ first.faults
      → came_in now ≡ come_in (sent_lines (whole_lines now.passing.passed)) → HasPassed first now ended
  last : ended ≡ false → now.over ≡ true → now.faults ≡ first.faults → IsAtEnd now.left
      → came_in now ≡ come_in (sent_lines (all_lines (read_in now.passing))) → HasPassed first now ended
  whole : ended ≡ true → now.faults ≡ first.faults → IsAtEnd now.left
      → came_in now ≡ come_in (sent_lines (all_lines (read_in now.passing))) → HasPassed first now ended
  full : ended ≡ true → now.faults ≡ first.faults → most_postings ≤ length now.reads
      → came_in now ≡ come_in (sent_lines (whole_lines now.passing.passed)) → HasPassed first now ended
  cut : ended ≡ true → Rose first.faults now.faults
      → came_in now ≡ come_in (sent_lines (whole_lines (read_in now.passing))) → HasPassed first now ended

-- What a front received, since its input was the first: the postings of what came in, which is what the lines say of the
-- bytes that the source gave. It read on for the next line alone, a piece at a time.
pub record HasReceived (first now : Input) (b : Received) : Type 0 where
  pub read : Consumes first.left now.left (read_in now.passing)
  pub near : IsNear now.passing
  pub passed : HasPassed first now b.ended
  pub given : b.given ≡ map posting_of (came_in now)
  pub asked : b.asked ≡ asked_of (length now.reads)
  pub left : b.left ≡ None
  pub waits : b.waits ≡ 0
  pub moves : b.moves ≡ 0
  pub faults : b.faults ≡ now.faults
