-- The definitions, computed.
use Rattle.std.proofs.Common.{◌≡◌, ℕ, true, false, List, [], ◌∷◌, Some, None, refl}
use Rattle.frame_arena.specs.Line.{Line}
use Rattle.frame_arena.specs.Lines.{no_line, new_line, line_at, is_live, frames_of, with_frames, without, forked}
use Rattle.frame_arena.specs.Entries.{Entry, new_entry, lines_from}

-- a root with one frame, which keeps one thing
abbrev root : ℕ → ℕ → ℕ → Line ℕ ℕ
root first count undone =
    record { is_live = true; parent = None; first = first; count = count; undone = undone; frames = 7 ∷ []; kept = 3 ∷ [] }

-- a strand that has nothing yet, in the root
abbrev member : Line ℕ ℕ
member = new_line (Some 0)

-- the root with two members
abbrev both : List (Line ℕ ℕ)
both = root 1 2 2 ∷ member ∷ member ∷ []

-- two new members come after all strands
forks : forked (root 0 0 0 ∷ []) 0 2 ≡ both
forks = refl

-- a member that is freed is not there, and has no frame; the other stays
freed : is_live (without both 1) 1 ≡ false
freed = refl

bare : frames_of (without both 1) 1 ≡ []
bare = refl

stays : line_at (without both 1) 2 ≡ member
stays = refl

-- a number that was not given yet is nobody's
nobody : line_at both 3 ≡ no_line
nobody = refl

-- frames of one strand alone change
changed : with_frames both 2 (4 ∷ 5 ∷ []) ≡ root 1 2 2 ∷ member ∷ record member { frames = 4 ∷ 5 ∷ [] } ∷ []
changed = refl

-- rows without the one of a freed strand show all strands by their numbers
abbrev rows : List (Entry ℕ ℕ)
rows = new_entry None 0 ∷ new_entry (Some 0) 2 ∷ []

shows : lines_from rows 0 3 ≡ new_line None ∷ no_line ∷ member ∷ []
shows = refl

-- so does a row that is not in use
unused : lines_from (new_entry None 0 ∷ record { number = 1; line = record member { is_live = false } } ∷ new_entry (Some 0) 2 ∷ []) 0 3
    ≡ lines_from rows 0 3
unused = refl
