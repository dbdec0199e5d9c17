-- What passed between a front over lines and its run.
use Rattle.std.specs.Prelude.{◌≡◌, ℕ, ◌≤◌, true, Some, nat_lt, length, take, slice_get}
use Rattle.std.specs.List.{list_all}
use Rattle.behaviour_tree.specs.Data.{ProgramParts}
use Rattle.run_theorem.specs.Exchange.{Told, Exchange}
use Rattle.run_theorem.specs.Lines.{IsPrefix}
use Rattle.run_lines.specs.Reading.{Input, came_in, HasReceived}
use Rattle.run_lines.specs.Told.{lines_told}
use Rattle.run_lines.specs.Writing.{Output, HasSent}

-- the two sides of a front over lines
pub record Sides : Type 0 where
  pub input : Input
  pub output : Output

-- the same by its parts
abbrev pub sides_of : Input → Output → Sides
sides_of input output = record { input = input; output = output }

-- what it had been told of when a posting was asked for was written, whether it halted later or not
abbrev pub WroteByThen : ProgramParts → Sides → Exchange → Type 0
WroteByThen parts now d = (j n : ℕ) → slice_get d.received.seens j ≡ Some n → (n ≤ length d.sent.told)
    × IsPrefix (lines_told parts (came_in now.input) (take n d.sent.told)) now.output.written

-- What a front over lines received and what was sent to it, since its sides were the first: each place that it was told
-- of was given; what it had been told of when a posting was asked for was written, and what had been noted when it was
-- asked last was taken by the sink of the notes.
pub record HasExchanged (parts : ProgramParts) (first now : Sides) (d : Exchange) : Type 0 where
  pub received : HasReceived first.input now.input d.received
  pub sent : HasSent parts (came_in now.input) first.output now.output d.sent
  pub places : list_all (λ (t : Told). nat_lt t.place (length now.input.reads)) d.sent.told ≡ true
  pub by_then : WroteByThen parts now d
  pub noted_by_then : IsPrefix d.received.noted sent.notes
