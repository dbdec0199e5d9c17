-- The oldest message of some operations among those that wait in a box, the oldest of all first.
use Rattle.std.specs.Prelude.{ℕ, Bool, List, [], ◌∷◌, nat_eq, if◌then◌else◌, Option, None, Some}
use Rattle.std.specs.List.{list_any}
use Rattle.post_box.specs.declared.mailbox.Waiting.{Waiting}

-- a message that waits, with its operation
abbrev pub waiting : ℕ → ℕ → Waiting
waiting op message = record { op = op; message = message }

-- whether a message is of one of the operations
abbrev pub is_of : List ℕ → Waiting → Bool
is_of ops w = list_any (nat_eq w.op) ops

-- the oldest message of one of the operations
abbrev pub oldest : List ℕ → List Waiting → Option ℕ
oldest ops [] = None
oldest ops (w ∷ ws) = if is_of ops w then Some w.message else oldest ops ws

-- the oldest message of all
abbrev pub oldest_of_all : List Waiting → Option ℕ
oldest_of_all [] = None
oldest_of_all (w ∷ ws) = Some w.message

-- a box without the oldest message of one of the operations
abbrev pub without_oldest : List ℕ → List Waiting → List Waiting
without_oldest ops [] = []
without_oldest ops (w ∷ ws) = if is_of ops w then ws else w ∷ without_oldest ops ws
