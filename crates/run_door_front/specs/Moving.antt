-- What moves on connections, and what their wires count where nothing does.
use Rattle.std.specs.Prelude.{◌≡◌, ◌⊎◌, ℕ, ◌≤◌, Bool, true, false, not, ◌||◌, List, [], ◌∷◌, length, nat_eq, Some, slice_get}
use Rattle.std.specs.List.{list_any}
use Rattle.outside_doors.specs.Counts.{added}
use Rattle.conn_future.specs.Stages.{IsOver, IsUnanswered}
use Rattle.run_door_front.specs.Keeping.{ClientTold, stage_at}

-- how many bytes were read on a connection
abbrev pub read_on : ClientTold → ℕ
read_on link = length link.seen.kept.read.items

-- how many bytes were written on it
abbrev pub written_on : ClientTold → ℕ
written_on link = length link.seen.kept.written.items

-- bytes moved on a connection: not so many were read as before, or not so many were written
abbrev pub has_moved : ClientTold → ClientTold → Bool
has_moved before now =
    not (nat_eq (read_on now) (read_on before)) || not (nat_eq (written_on now) (written_on before))

-- bytes moved on one of these connections, or there are not so many as before
abbrev pub any_moved : List ClientTold → List ClientTold → Bool
any_moved [] [] = false
any_moved [] (m ∷ ms) = true
any_moved (l ∷ ls) [] = true
any_moved (l ∷ ls) (m ∷ ms) = has_moved l m || any_moved ls ms

-- Where no bytes moved on a connection, a request of it has no answer yet, it is over, or its wire could move nothing
-- yet once more, and once more in a row.
abbrev pub HasWaited : ClientTold → ClientTold → Type 0
HasWaited before now = has_moved before now ≡ false
    → IsUnanswered (stage_at now) ⊎ (IsOver (stage_at now)
    ⊎ ((added before.waits 1 ≤ now.waits) × (added before.in_a_row 1 ≤ now.in_a_row)))

-- the same of each
abbrev pub HaveWaited : List ClientTold → List ClientTold → Type 0
HaveWaited [] [] = Unit {0}
HaveWaited [] (m ∷ ms) = ⊥
HaveWaited (l ∷ ls) [] = ⊥
HaveWaited (l ∷ ls) (m ∷ ms) = HasWaited l m × HaveWaited ls ms

-- the same of the connection of a number
abbrev pub HasWaitedAt : List ClientTold → List ClientTold → ℕ → Type 0
HasWaitedAt before now number = (link later : ClientTold) → slice_get before number ≡ Some link
    → slice_get now number ≡ Some later → HasWaited link later

-- the same of the connections of these numbers
abbrev pub HaveWaitedAt : List ℕ → List ClientTold → List ClientTold → Type 0
HaveWaitedAt numbers before now = (number : ℕ) → list_any (nat_eq number) numbers ≡ true
    → HasWaitedAt before now number
