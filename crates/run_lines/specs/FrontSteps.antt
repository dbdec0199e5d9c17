-- These definitions serve the proofs alone: no promise speaks of them.
-- How a front over lines comes to its next line, and what a sink takes.
use Rattle.std.specs.Prelude.{◌≡◌, ◌≤◌, ◌<◌, ◌+◌, ℕ, List, [], ◌∷◌, ◌++◌, length, take, Option, None, Some}
use Rattle.std.specs.Prelude.{true, false, if◌then◌else◌}
use Rattle.std.specs.Io.KnownBytes.{Consumes, IsAtEnd}
use Rattle.outside_traits.specs.Causes.{Rose}
use Rattle.jsonrpc_text.specs.Posted.{posted}
use Rattle.jsonrpc_text.specs.declared.message.Read.{Read}
use Rattle.run_theorem.specs.declared.front.Next.{Next}
use Rattle.run_theorem.specs.declared.front.Next.TheVariants as next
use Rattle.run_theorem.specs.Texts.{posting_of}
use Rattle.run_theorem.specs.Lines.{line_in}
use Rattle.run_theorem.specs.Split.{IsOpen, split, whole_lines, is_blank, sent_lines}
use Rattle.run_lines.specs.Passing.{Passing, read_in, IsNear, IsLine}
use Rattle.run_lines.specs.declared.piece.Piece.{Piece}
use Rattle.run_lines.specs.declared.piece.Piece.TheVariants as piece
use Rattle.run_lines.specs.declared.next_line.Step.{Step}
use Rattle.run_lines.specs.declared.next_line.Step.TheVariants as step

-- what was read and passed, what the source has left, where that is told, and how often it failed
pub record Reading : Type 0 where
  pub passing : Passing
  pub left : Option (List ℕ)
  pub faults : ℕ

-- the same by its parts
abbrev pub reading : Passing → Option (List ℕ) → ℕ → Reading
reading passing left faults = record { passing = passing; left = left; faults = faults }

-- what was read grew by what the source gave, and the source may have failed
pub record Grows (before now : Reading) : Type 0 where
  pub bytes : List ℕ
  pub read : read_in now.passing ≡ read_in before.passing ++ bytes
  pub given : Consumes before.left now.left bytes
  pub later : before.faults ≤ now.faults

-- how the read of a piece ended
abbrev pub EndsSo : Piece → Reading → Reading → Type 0
EndsSo piece.More before now = now.faults ≡ before.faults
EndsSo piece.End before now = (now.faults ≡ before.faults) × (now.passing ≡ before.passing) × IsAtEnd now.left
EndsSo piece.Failed before now = Rose before.faults now.faults × (now.passing ≡ before.passing)

-- a piece was read after what was there
pub record ReadsPiece (which : Piece) (before now : Reading) : Type 0 where
  pub grows : Grows before now
  pub passed : now.passing.passed ≡ before.passing.passed
  pub ends : EndsSo which before now

-- More may have been read, as far as the next line asks for it, and blank lines passed, and no other.
pub record IsAsBefore (before now : Reading) : Type 0 where
  pub grows : Grows before now
  pub near : IsNear before.passing → IsNear now.passing
  pub lines : sent_lines (whole_lines now.passing.passed) ≡ sent_lines (whole_lines before.passing.passed)

-- what comes next after the lines that were passed
abbrev pub IsNext : Step → Reading → Reading → Type 0
IsNext (step.Line n) before now =
    (now.faults ≡ before.faults) × IsLine n now.passing.rest × (is_blank (take n now.passing.rest) ≡ false)
IsNext step.Last before now =
    (now.faults ≡ before.faults) × IsOpen now.passing.rest × (is_blank now.passing.rest ≡ false) × IsAtEnd now.left
IsNext step.End before now =
    (now.faults ≡ before.faults) × IsOpen now.passing.rest × (is_blank now.passing.rest ≡ true) × IsAtEnd now.left
IsNext step.Cut before now = Rose before.faults now.faults × IsOpen now.passing.rest

-- The next line that is not blank was looked for.
pub record Looks (which : Step) (before now : Reading) : Type 0 where
  pub same : IsAsBefore before now
  pub ended : (split now.passing.passed).1 ≡ []
  pub found : IsNext which before now

-- nothing came, and the source did not fail
abbrev pub IsIdle : Reading → Reading → Type 0
IsIdle before now = IsAsBefore before now × (now.faults ≡ before.faults)

-- what a look comes to: what comes next, or nothing yet
abbrev pub Comes : Option Step → Reading → Reading → Type 0
Comes None before now = IsIdle before now
Comes (Some which) before now = Looks which before now

-- how far a reader came: each byte counts once when it is read, and once more when its line is passed
abbrev pub progress : Passing → ℕ
progress p = length p.passed + length p.passed + length p.rest

-- where nothing came yet a reader came further
abbrev pub ComesFurther : Option Step → Passing → Passing → Type 0
ComesFurther None before now = progress before < progress now
ComesFurther (Some which) before now = Unit {0}

-- there is more after a piece that was read, or there need not be
abbrev pub IsMore : Piece → Passing → Passing → Type 0
IsMore piece.More before now = length before.rest < length now.rest
IsMore piece.End before now = Unit {0}
IsMore piece.Failed before now = Unit {0}

-- what the rest is once the source is at its end: the last line, unless it is blank
abbrev pub last_step : List ℕ → Step
last_step rest = if is_blank rest then step.End else step.Last

-- how the lines end after a piece
abbrev pub step_after : Piece → List ℕ → Option Step
step_after piece.More rest = None
step_after piece.End rest = Some (last_step rest)
step_after piece.Failed rest = Some step.Cut

-- What a line says was kept, and its posting is given.
pub record GivesLine (line : List ℕ) (which : Next) (before now : List Read) : Type 0 where
  pub given : which ≡ next.Posting (posting_of (line_in line))
  pub kept : now ≡ before ++ posted line ∷ []
