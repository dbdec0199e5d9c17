-- These definitions serve the proofs: no promise speaks of them, but what an `Arena` shows is made of them.
-- Rows, and the strands that they hold.
use Rattle.std.specs.Prelude.{ℕ, zero, suc, Bool, ◌&&◌, nat_eq, if◌then◌else◌, List, [], ◌∷◌, map, Option}
use Rattle.frame_arena.specs.Line.{Line}
use Rattle.frame_arena.specs.Lines.{no_line, new_line}
use Rattle.frame_arena.specs.declared.row.Row.{Row}

-- a row: the number, and the strand that has it
pub record Entry (F K : Type 0) : Type 0 where
  pub number : ℕ
  pub line : Line F K

-- what a row of the arena is as an entry
abbrev pub entry : {F K : Type 0} → Row F K → Entry F K
entry r = record {
  number = r.number;
  line = record {
    is_live = r.is_live;
    parent = r.parent;
    first = r.first;
    count = r.count;
    undone = r.undone;
    frames = r.frames.items;
    kept = r.kept.items;
  };
}

-- what each of them is, in order
abbrev pub entries : {F K : Type 0} → List (Row F K) → List (Entry F K)
entries rows = map entry rows

-- the numbers of the rows
abbrev pub numbers : {F K : Type 0} → List (Entry F K) → List ℕ
numbers es = map (λ e. e.number) es

-- whether it is the row of a strand that is there
abbrev pub is_used : {F K : Type 0} → Entry F K → Bool
is_used e = e.line.is_live

-- whether it is the row of the strand of a number, which is there
abbrev pub has_number : {F K : Type 0} → ℕ → Entry F K → Bool
has_number n e = nat_eq e.number n && e.line.is_live

-- what a row shows: its strand, if that is there
abbrev pub shown : {F K : Type 0} → Entry F K → Line F K
shown e = if e.line.is_live then e.line else no_line

-- the strand of a number
abbrev pub line_of : {F K : Type 0} → List (Entry F K) → ℕ → Line F K
line_of [] n = no_line
line_of (e ∷ es) n = if has_number n e then e.line else line_of es n

-- the strands of so many numbers, from one on
abbrev pub lines_from : {F K : Type 0} → List (Entry F K) → ℕ → ℕ → List (Line F K)
lines_from es from zero = []
lines_from es from (suc count) = line_of es from ∷ lines_from es (suc from) count

-- a row with its strand changed
abbrev pub over : {F K : Type 0} → (Line F K → Line F K) → Entry F K → Entry F K
over f e = record { number = e.number; line = f e.line }

-- the row of a strand that has nothing yet
abbrev pub new_entry : {F K : Type 0} → Option ℕ → ℕ → Entry F K
new_entry parent n = record { number = n; line = new_line parent }

-- so many of them, from a number on
abbrev pub new_entries : {F K : Type 0} → Option ℕ → ℕ → ℕ → List (Entry F K)
new_entries parent from zero = []
new_entries parent from (suc count) = new_entry parent from ∷ new_entries parent (suc from) count
