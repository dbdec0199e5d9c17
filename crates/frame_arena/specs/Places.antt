-- These definitions serve the proofs: no promise speaks of them, but what an `Arena` keeps of its rows is made of them.
-- Where a strand's row stands.
use Rattle.std.specs.Prelude.{◌≡◌, ◌<◌, ◌≤◌, ℕ, suc, true, List, [], ◌∷◌, length, slice_index_or}
use Rattle.frame_arena.specs.Lines.{no_line, IsOrdered}
use Rattle.frame_arena.specs.Entries.{Entry, numbers, line_of, lines_from}

-- the numbers rise, from one on and to another
abbrev pub Rises : ℕ → List ℕ → ℕ → Type 0
Rises from [] next = from ≤ next
Rises from (n ∷ ns) next = (from ≤ n) × Rises (suc n) ns next

-- the numbers rise
abbrev pub IsRising : List ℕ → Type 0
IsRising ns = (next : ℕ) × Rises 0 ns next

-- the place of a number among numbers that rise: those before it are lower, and the others are not
pub record IsPlace (ns : List ℕ) (n k : ℕ) : Type 0 where
  pub within : k ≤ length ns
  pub before : (i : ℕ) → i < k → slice_index_or ns i 0 < n
  pub after : (i : ℕ) → k ≤ i → i < length ns → n ≤ slice_index_or ns i 0

-- the row at a place is that of the strand of a number, which is there
pub record IsRowOf {F K : Type 0} (es : List (Entry F K)) (n k : ℕ) : Type 0 where
  pub within : k < length es
  pub number : (d : Entry F K) → (slice_index_or es k d).number ≡ n
  pub live : (line_of es n).is_live ≡ true
  pub line : (d : Entry F K) → line_of es n ≡ (slice_index_or es k d).line

-- the row at a place is that of the first strand that is there, from a number on
pub record IsNextRow {F K : Type 0} (es : List (Entry F K)) (from k : ℕ) : Type 0 where
  pub within : k < length es
  pub above : (d : Entry F K) → from ≤ (slice_index_or es k d).number
  pub live : (d : Entry F K) → (slice_index_or es k d).line.is_live ≡ true
  pub none_before : (d : Entry F K) (n : ℕ) → from ≤ n → n < (slice_index_or es k d).number → line_of es n ≡ no_line

-- the rows of an arena whose next number is `next`
pub record IsSound {F K : Type 0} (es : List (Entry F K)) (next : ℕ) : Type 0 where
  pub rises : Rises 0 (numbers es) next
  pub ordered : IsOrdered (lines_from es 0 next)
