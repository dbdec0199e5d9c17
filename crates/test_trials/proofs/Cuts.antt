-- What was written where a write failed, and what no run writes.
use Rattle.std.proofs.Common.{◌≡◌, ◌≢◌, ℕ, List, [], ◌∷◌, true, false, refl}
use Rattle.run_theorem.specs.Lines.{IsWritten}
use Rattle.run_theorem.specs.Statuses.{Causes}

-- two lines were due
abbrev due : List ℕ
due = 1 ∷ 10 ∷ 2 ∷ 10 ∷ []

-- nothing failed, the output did, or a note did
abbrev unfailed : Causes
unfailed = record { source = false; output = false; notes = false; doors = false; spent = false }

abbrev output_failed : Causes
output_failed = record { source = false; output = true; notes = false; doors = false; spent = false }

abbrev note_failed : Causes
note_failed = record { source = false; output = false; notes = true; doors = false; spent = false }

not_nothing : (x : ℕ) (xs : List ℕ) → x ∷ xs ≢ []
not_nothing x xs e = cc

-- ---- what runs write

pub all_written : IsWritten unfailed due due
all_written = refl

-- the output failed behind the first line
pub lines_cut : IsWritten output_failed due (1 ∷ 10 ∷ [])
lines_cut = (2 ∷ 10 ∷ [], not_nothing 2 (10 ∷ []), refl)

-- a note failed, behind the first line or behind all
pub note_cut : IsWritten note_failed due (1 ∷ 10 ∷ [])
note_cut = (2 ∷ 10 ∷ [], refl)

pub last_note_cut : IsWritten note_failed due due
last_note_cut = ([], refl)

-- ---- what they do not write

-- nothing failed, and a line was left out
pub spoilt_line_left_out : IsWritten unfailed due (1 ∷ 10 ∷ []) → ⊥
spoilt_line_left_out all = let clash : 1 ∷ 10 ∷ [] ≡ 1 ∷ 10 ∷ 2 ∷ 10 ∷ [] = all in cc

-- the output failed, and all was written
pub spoilt_all_written : IsWritten output_failed due due → ⊥
spoilt_all_written part = part.1 (nothing_left part.0 part.2)
  where
    nothing_left : (rest : List ℕ) → 1 ∷ 10 ∷ 2 ∷ 10 ∷ rest ≡ 1 ∷ 10 ∷ 2 ∷ 10 ∷ [] → rest ≡ []
    nothing_left rest e = cc

-- a note failed, and the second line was written before the first
pub spoilt_other_line_first : IsWritten note_failed due (2 ∷ 10 ∷ []) → ⊥
spoilt_other_line_first front = other front.0 front.1
  where
    other : (rest : List ℕ) → 2 ∷ 10 ∷ rest ≡ 1 ∷ 10 ∷ 2 ∷ 10 ∷ [] → ⊥
    other rest e = cc
