-- What a contract sees of the wires in memory that do not wait.
use Rattle.std.specs.Prelude.{◌≡◌, ℕ, List}
use Rattle.outside_polling.specs.Polls.{once_more}

-- A wire whose calls of these numbers, from 0, come too early while it is open; how many calls it has had while it was,
-- how many of them came too early, how many in a row up to now, and how many in the longest row that a write came to.
pub record Hasty (W : Type 0) : Type 0 where
  pub wire : W
  pub early : List ℕ
  pub calls : ℕ
  pub waits : ℕ
  pub in_a_row : ℕ
  pub longest : ℕ

-- a wire that was not called yet
abbrev pub hasty : {W : Type 0} → W → List ℕ → Hasty W
hasty wire early = record { wire = wire; early = early; calls = 0; waits = 0; in_a_row = 0; longest = 0 }

-- one call further on; its number stops at the last value of its type
pub record IsCalled {W : Type 0} (before now : Hasty W) : Type 0 where
  pub early : now.early ≡ before.early
  pub calls : now.calls ≡ once_more before.calls
