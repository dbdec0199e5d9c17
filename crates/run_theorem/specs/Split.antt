-- Which lines bytes have: those that have their end, all of them, and those that are not blank.
use Rattle.std.specs.Prelude.{◌≢◌, ℕ, ◌==◌, ◌||◌, List, [], ◌∷◌, ◌++◌, Bool, not, if◌then◌else◌}
use Rattle.std.specs.List.{filter, list_all}

-- a byte at the front of the first of the lines, or of the rest where there is none
abbrev pub onto : ℕ → List (List ℕ) → List ℕ → List (List ℕ) × List ℕ
onto b [] rest = ([], b ∷ rest)
onto b (l ∷ ls) rest = ((b ∷ l) ∷ ls, rest)

-- a byte before lines and a rest: LF ends a line
abbrev pub before : ℕ → List (List ℕ) × List ℕ → List (List ℕ) × List ℕ
before b p = if b == 10 then ([] ∷ p.0, p.1) else onto b p.0 p.1

-- the lines that have their end, without it, and what stands after the last end
unfoldable pub split : List ℕ → List (List ℕ) × List ℕ
split [] = ([], [])
split (b ∷ bs) = before b (split bs)

-- the lines that have their end
abbrev pub whole_lines : List ℕ → List (List ℕ)
whole_lines bytes = (split bytes).0

-- all lines, the last of which needs no end
abbrev pub all_lines : List ℕ → List (List ℕ)
all_lines bytes = (split bytes).0 ++ (split bytes).1 ∷ []

-- no line's end is in it
abbrev pub IsOpen : List ℕ → Type 0
IsOpen [] = Unit {0}
IsOpen (b ∷ bs) = (b ≢ 10) × IsOpen bs

-- blanks alone: space, tab and CR
abbrev pub is_blank : List ℕ → Bool
is_blank line = list_all (λ b. b == 32 || b == 9 || b == 13) line

-- the lines that are not blank
abbrev pub sent_lines : List (List ℕ) → List (List ℕ)
sent_lines lines = filter (λ line. not (is_blank line)) lines
