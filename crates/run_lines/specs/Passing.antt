-- What was read, and how far its lines were passed.
use Rattle.std.specs.Prelude.{◌≡◌, ℕ, ◌+◌, ◌-◌, List, ◌∷◌, ◌++◌, [], length, take, drop}
use Rattle.run_theorem.specs.Split.{IsOpen}

-- the bytes whose lines were passed, and those after them
pub record Passing : Type 0 where
  pub passed : List ℕ
  pub rest : List ℕ

-- nothing was read
abbrev pub nothing_read : Passing
nothing_read = record { passed = []; rest = [] }

-- all bytes that were read
abbrev pub read_in : Passing → List ℕ
read_in p = p.passed ++ p.rest

-- the most bytes that are read at a time
abbrev pub longest_piece : ℕ
longest_piece = 4096

-- No more was read than the next line asks for: in what stands after the lines that were passed no line ends but in
-- the last piece of it.
abbrev pub IsNear : Passing → Type 0
IsNear p = IsOpen (take (length p.rest - longest_piece) p.rest)

-- So many bytes are the first line of others, whose end stands after it.
pub record IsLine (n : ℕ) (bytes : List ℕ) : Type 0 where
  pub inside : IsOpen (take n bytes)
  pub whole : bytes ≡ take n bytes ++ 10 ∷ drop (n + 1) bytes
