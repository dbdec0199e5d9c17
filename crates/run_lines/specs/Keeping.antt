-- What a front over lines keeps, as its two sides.
use Rattle.std.specs.Prelude.{◌≡◌, ℕ, false, List, [], Option}
use Rattle.run_lines.specs.declared.kept.Kept.{Kept}
use Rattle.run_lines.specs.Passing.{nothing_read}
use Rattle.run_lines.specs.Reading.{input_of}
use Rattle.outside_traits.specs.Told.{SinkTold}
use Rattle.run_lines.specs.Writing.{output_of}
use Rattle.run_lines.specs.Exchanged.{Sides, sides_of}

-- Nothing was read or written, nothing failed, and memory did not run out.
pub record IsEmpty (kept : Kept) : Type 0 where
  pub lines : kept.reader.lines ≡ nothing_read
  pub reads : kept.reader.reads ≡ []
  pub over : kept.reader.over ≡ false
  pub failed : kept.reader.failed ≡ false
  pub written : kept.written.items ≡ []
  pub halted : kept.halted ≡ false
  pub spent : kept.spent ≡ false

-- the sides of a front by what it keeps, what its source has left and how often it failed, and its sinks
abbrev pub sides_in : Kept → Option (List ℕ) → ℕ → SinkTold → SinkTold → Sides
sides_in kept left faults lines notes =
    sides_of (input_of kept.reader.lines kept.reader.reads kept.reader.over left faults)
    (output_of lines notes kept.written.items kept.halted)
