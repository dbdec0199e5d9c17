-- What a front over lines wrote, by what it was told and what was noted.
use Rattle.std.specs.Prelude.{◌≡◌, ℕ, ◌+◌, ◌-◌, ◌^◌, min, Bool, true, false, List}
use Rattle.std.specs.Io.KnownBytes.{Appends}
use Rattle.outside_traits.specs.Causes.{Rose}
use Rattle.outside_traits.specs.Told.{SinkTold}
use Rattle.behaviour_tree.specs.Data.{ProgramParts}
use Rattle.run_theorem.specs.Exchange.{Sent}
use Rattle.run_theorem.specs.Texts.{Came}
use Rattle.run_theorem.specs.Lines.{IsPrefix, IsProperPrefix}
use Rattle.run_lines.specs.Told.{lines_told}

-- The output of a front: its two sinks; what was written to the first of them; and whether nothing more is written.
pub record Output : Type 0 where
  pub lines : SinkTold
  pub notes : SinkTold
  pub written : List ℕ
  pub halted : Bool

-- the same by its parts
abbrev pub output_of : SinkTold → SinkTold → List ℕ → Bool → Output
output_of lines notes written halted = record { lines = lines; notes = notes; written = written; halted = halted }

-- how often one of the two sinks failed, as a number of 64 bits
abbrev pub faults_of : Output → ℕ
faults_of o = min (o.lines.faults + o.notes.faults) (2 ^ 64 - 1)

-- lines that were to be written, and notes
pub record Due : Type 0 where
  pub lines : List ℕ
  pub notes : List ℕ

-- Of what was due all was written, and neither of the two sinks failed. Or it halted since one of them did: where it
-- was that of the lines they were cut, and all was noted; where a note failed the notes were cut, and the other sink
-- did not fail.
pub data HasWritten (first now : Output) (notes_failed : Bool) (noted : List ℕ) (due : Due) : Type 0 where
  entire : now.halted ≡ false → notes_failed ≡ false → now.lines.faults ≡ first.lines.faults
      → now.notes.faults ≡ first.notes.faults → now.written ≡ due.lines → noted ≡ due.notes
      → HasWritten first now notes_failed noted due
  in_lines : now.halted ≡ true → notes_failed ≡ false → Rose first.lines.faults now.lines.faults
      → now.notes.faults ≡ first.notes.faults → noted ≡ due.notes → IsProperPrefix now.written due.lines
      → HasWritten first now notes_failed noted due
  in_notes : now.halted ≡ true → notes_failed ≡ true → Rose first.notes.faults now.notes.faults
      → now.lines.faults ≡ first.lines.faults → IsPrefix now.written due.lines → IsProperPrefix noted due.notes
      → HasWritten first now notes_failed noted due

-- What was sent to a front, since its output was the first: the lines of what it was told, in the order in which it
-- was, and the notes are what its sinks took, unless it halted.
pub record HasSent (parts : ProgramParts) (came : List Came) (first now : Output) (s : Sent) : Type 0 where
  pub written : Appends first.lines.written now.lines.written now.written
  pub notes : List ℕ
  pub noted : Appends first.notes.written now.notes.written notes
  pub halted : s.halted ≡ now.halted
  pub wrote : HasWritten first now s.notes_failed notes (record { lines = lines_told parts came s.told; notes = s.noted })
  pub faults : s.faults ≡ faults_of now
