-- What the outside tells, and what went out.
use Rattle.std.specs.Prelude.{◌≡◌, ◌⊎◌, ℕ, List, [], ◌∷◌, take, Option, IfSome, Bool, MatchBool}
use Rattle.std.specs.Io.KnownBytes.{Appends}
use Rattle.outside_traits.specs.Causes.{Rose}
use Rattle.outside_traits.specs.Told.{FilesTold, Lists, SinkTold, SourceTold}
use Rattle.run_theorem.specs.Lines.{IsProperPrefix}
use Rattle.outside_links.specs.Trips.{LinkTold}
use Rattle.outside_doors.specs.Returns.{DoorsTold}
use Rattle.run_theorem.specs.Theorem.{Outside as Meets, Around as Meeting}

-- what the outside of a call tells at a moment: the files; the input, the output and the notes; the doors; and of each
-- link its trips
pub record Outside : Type 0 where
  pub files : FilesTold
  pub input : SourceTold
  pub output : SinkTold
  pub notes : SinkTold
  pub doors : DoorsTold
  pub links : List LinkTold

-- the outside before a call and after it
pub record Around : Type 0 where
  pub before : Outside
  pub now : Outside

-- ---- files

-- the part of a file that is read
abbrev pub program_bytes : List ℕ → List ℕ
program_bytes file = take 1048577 file

-- the text is what is read of a file, where the outside tells what it holds
abbrev pub IsReadOf : Option (List ℕ) → List ℕ → Type 0
IsReadOf told text = IfSome told (λ file. text ≡ program_bytes file)

-- of all files the one of this name was asked for, once, where it is told
abbrev pub HasAskedFor : List ℕ → FilesTold → FilesTold → Type 0
HasAskedFor name before now = Lists before.asked now.asked (name ∷ [])

-- ---- outputs

-- All of the text went out.
pub record IsWhole (text : List ℕ) (before now : SinkTold) : Type 0 where
  pub bytes : Appends before.written now.written text
  pub unfailed : now.faults ≡ before.faults

-- The output failed, and a part of the text went out before.
pub record IsCut (text : List ℕ) (before now : SinkTold) : Type 0 where
  pub piece : List ℕ
  pub part : IsProperPrefix piece text
  pub bytes : Appends before.written now.written piece
  pub cause : Rose before.faults now.faults

-- the text went out, whole or cut
abbrev pub IsWritten : List ℕ → SinkTold → SinkTold → Type 0
IsWritten text before now = IsWhole text before now ⊎ IsCut text before now

-- and which of the two it was
abbrev pub IsSaid : Bool → List ℕ → SinkTold → SinkTold → Type 0
IsSaid all text before now = MatchBool all (IsWhole text before now) (IsCut text before now)

-- ---- links

-- the outside of a run that has this link
abbrev pub with_link : Outside → LinkTold → Meets
with_link o link = record { source = o.input; output = o.output; notes = o.notes; doors = o.doors; link = link }

-- it happened to the first of the links, and the others made no trips
abbrev pub AtFirst : (LinkTold → LinkTold → Type 0) → List LinkTold → List LinkTold → Type 0
AtFirst Happened (before ∷ others) (now ∷ same) = Happened before now × (same ≡ others)
AtFirst Happened before now = ⊥

-- a run has this outside, with the first of the links
abbrev pub ByFirst : (Meeting → Type 0) → Around → Type 0
ByFirst IsRun a =
    AtFirst (λ before now. IsRun (record { before = with_link a.before before; now = with_link a.now now })) a.before.links a.now.links
