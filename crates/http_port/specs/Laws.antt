-- What holds of every way in which the bytes of a connection come.
use Rattle.std.specs.Prelude.{◌≡◌, List, [], ◌++◌, ℕ, false}
use Rattle.std.specs.List.{concat}
use Rattle.http_port.specs.Feeding.{Place, Open, Feeds}
use Rattle.http_port.specs.Connections.{Reading, given, Run, without_waits}
use Rattle.http_port.specs.declared.head_reader.Fed.{Fed}
use Rattle.http_port.specs.declared.head_reader.Fed.TheVariants.{NotYet}

-- what is given of the bytes so far is a front of what they hold, whatever the pieces in which they came
abbrev pub GivesAFront : Type 0
GivesAFront = (pieces : List (List ℕ)) (feds : List Fed) (place : Place) → Run (Open [] false) pieces feds place
    → (reading : Reading (concat pieces))
    → ∥ ((rest : List Fed) × (given (concat pieces) reading ≡ without_waits feds ++ rest)) ∥₁

-- and all of it, where the last piece, which may be empty, brought nothing
abbrev pub GivesAll : Type 0
GivesAll = (pieces : List (List ℕ)) (feds : List Fed) (mid place : Place) (piece : List ℕ)
    → Run (Open [] false) pieces feds mid → Feeds mid piece NotYet place
    → (reading : Reading (concat pieces ++ piece))
    → ∥ (given (concat pieces ++ piece) reading ≡ without_waits feds) ∥₁
