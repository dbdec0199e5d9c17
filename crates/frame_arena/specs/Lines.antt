-- The strands of an arena by number: what a strand is, and the list with one of them changed.
use Rattle.std.specs.Prelude.{◌≡◌, ◌<◌, ◌≤◌, ◌+◌, ℕ, Bool, true, false, List, [], ◌++◌, length, replicate, Option, Some, None, slice_index_or, slice_set, IfSome}
use Rattle.frame_arena.specs.Line.{Line}

-- a strand that is not there
abbrev pub no_line : {F K : Type 0} → Line F K
no_line = record { is_live = false; parent = None; first = 0; count = 0; undone = 0; frames = []; kept = [] }

-- a strand that has nothing yet, beside the one that it is a member of
abbrev pub new_line : {F K : Type 0} → Option ℕ → Line F K
new_line parent = record { is_live = true; parent = parent; first = 0; count = 0; undone = 0; frames = []; kept = [] }

-- the strand of a number
abbrev pub line_at : {F K : Type 0} → List (Line F K) → ℕ → Line F K
line_at ls n = slice_index_or ls n no_line

-- whether it is there
abbrev pub is_live : {F K : Type 0} → List (Line F K) → ℕ → Bool
is_live ls n = (line_at ls n).is_live

-- its frames
abbrev pub frames_of : {F K : Type 0} → List (Line F K) → ℕ → List F
frames_of ls n = (line_at ls n).frames

-- what it keeps
abbrev pub kept_of : {F K : Type 0} → List (Line F K) → ℕ → List K
kept_of ls n = (line_at ls n).kept

-- a strand with other frames
abbrev pub with_frames : {F K : Type 0} → List (Line F K) → ℕ → List F → List (Line F K)
with_frames ls n fs = slice_set ls n (record (line_at ls n) { frames = fs })

-- a strand that keeps something else
abbrev pub with_kept : {F K : Type 0} → List (Line F K) → ℕ → List K → List (Line F K)
with_kept ls n ks = slice_set ls n (record (line_at ls n) { kept = ks })

-- a strand with another number of members that are not done
abbrev pub with_undone : {F K : Type 0} → List (Line F K) → ℕ → ℕ → List (Line F K)
with_undone ls n left = slice_set ls n (record (line_at ls n) { undone = left })

-- a strand with other members, none of which is done
abbrev pub with_members : {F K : Type 0} → List (Line F K) → ℕ → ℕ → ℕ → List (Line F K)
with_members ls n first count =
    slice_set ls n (record (line_at ls n) { first = first; count = count; undone = count })

-- without a strand
abbrev pub without : {F K : Type 0} → List (Line F K) → ℕ → List (Line F K)
without ls n = slice_set ls n no_line

-- so many new strands as the members of one
abbrev pub forked : {F K : Type 0} → List (Line F K) → ℕ → ℕ → List (Line F K)
forked ls n count = with_members ls n (length ls) count ++ replicate count (new_line (Some n))

-- the members of each strand were given numbers after its own, and the strand that it is a member of one before
pub record IsOrdered {F K : Type 0} (ls : List (Line F K)) : Type 0 where
  pub members : (n : ℕ) → 0 < (line_at ls n).count
      → (n < (line_at ls n).first) × ((line_at ls n).first + (line_at ls n).count ≤ length ls)
  pub parents : (n : ℕ) → IfSome (line_at ls n).parent (λ p. p < n)

-- the first strand that is there, from a number on
pub record IsNext {F K : Type 0} (ls : List (Line F K)) (from n : ℕ) : Type 0 where
  pub from_there : from ≤ n
  pub there : is_live ls n ≡ true
  pub none_before : (m : ℕ) → from ≤ m → m < n → is_live ls m ≡ false
