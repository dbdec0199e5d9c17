-- The boxes of the sessions, each a list with the oldest message first.
use Rattle.std.specs.Prelude.{◌≡◌, ◌≢◌, ℕ, List, [], slice_get, None, Some}
use Rattle.post_box.specs.declared.mailbox.Waiting.{Waiting}
use Rattle.post_box.specs.declared.mailbox.Mailbox.{Mailbox}
use Rattle.post_box.specs.declared.boxes.Boxes.{Boxes}

-- what waits in the box of a number among some
abbrev pub box_in : List Mailbox → ℕ → List Waiting
box_in boxes s = elim (slice_get boxes s) [ None ↦ [] | Some box ↦ box.list.items ]

-- what waits for a session, the oldest first; nothing where nothing was put for it
abbrev pub box_of : Boxes → ℕ → List Waiting
box_of boxes s = box_in boxes.list.items s

-- what waits for each session stays
abbrev pub AreSame : Boxes → Boxes → Type 0
AreSame old new = (s : ℕ) → box_of new s ≡ box_of old s

-- one session's box becomes this, and all others stay
pub record ChangesOnly (session : ℕ) (box : List Waiting) (old new : Boxes) : Type 0 where
  pub changed : box_of new session ≡ box
  pub others : (s : ℕ) → s ≢ session → box_of new s ≡ box_of old s
