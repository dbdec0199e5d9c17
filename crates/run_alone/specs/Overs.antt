-- Why a run asks its front for no posting any more.
use Rattle.std.specs.Prelude.{◌≡◌, ◌⊎◌, ℕ, ◌<◌, ◌≤◌, Bool, true, not, ◌&&◌, List, [], length, nat_lt, Some}
use Rattle.outside_traits.specs.Causes.{Rose}
use Rattle.office_core.specs.declared.front.Posting.{Posting}
use Rattle.run_theorem.specs.Lines.{most_postings}
pub use Rattle.run_theorem.specs.Lines.{most_waits, most_moves}
use Rattle.run_theorem.specs.Exchange.{Exchange}

-- why no posting was asked for any more: the front had none, it halted, it found nothing for too long, something moved
-- for too long while it had none, or there were the most
abbrev pub IsOver : Exchange → Type 0
IsOver d =
    (d.received.ended ≡ true) ⊎ (d.sent.halted ≡ true) ⊎ (d.received.waits ≡ most_waits)
    ⊎ (d.received.moves ≡ most_moves) ⊎ (most_postings ≤ length d.received.given)

-- Of the postings that a front tells to be left there is none at the end, unless it halted, it found nothing or
-- something moved for too long, it gave the most, or what it reads failed since it was new.
abbrev pub LeavesNone : Exchange → Exchange → Type 0
LeavesNone new d =
    (ps : List Posting) → d.received.left ≡ Some ps
    → (ps ≡ []) ⊎ (d.sent.halted ≡ true) ⊎ (d.received.waits ≡ most_waits) ⊎ (d.received.moves ≡ most_moves)
    ⊎ (most_postings ≤ length d.received.given) ⊎ Rose new.received.faults d.received.faults

-- the front had none any more, or found nothing, when it was asked last
abbrev pub GaveNone : Exchange → Type 0
GaveNone d = (d.received.ended ≡ true) ⊎ (0 < d.received.waits)

-- whether a posting is asked for: the run is unfailed, the front did not halt, it may be looked at once more, and there may
-- be one more
abbrev pub asks : Bool → Bool → ℕ → ℕ → ℕ → Bool
asks unfailed halted looks moves postings =
    unfailed && not halted && nat_lt looks most_waits && nat_lt moves most_moves && nat_lt postings most_postings
