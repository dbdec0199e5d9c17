-- The status of a run by its causes.
use Rattle.std.specs.Prelude.{◌≡◌, ℕ, Bool, ◌||◌, if◌then◌else◌, MatchBool}
use Rattle.outside_traits.specs.Causes.{Rose}

-- what may have come in a run: its source, its output, its notes or one of its doors failed, or a session used its
-- whole budget of events and could act all the same
pub record Causes : Type 0 where
  pub source : Bool
  pub output : Bool
  pub notes : Bool
  pub doors : Bool
  pub spent : Bool

-- the output or the notes failed: then a front writes no more
abbrev pub halts : Causes → Bool
halts c = c.output || c.notes

-- The status of a run over a program that was accepted: that of the first of these that came, and 0 where none did.
abbrev pub status_of : Causes → ℕ
status_of c = if c.source then 4 else (if halts c then 5 else (if c.doors then 7 else (if c.spent then 6 else 0)))

-- it failed, and its count of faults rose, or it did not, and the count is as it was
abbrev pub Failed : Bool → ℕ → ℕ → Type 0
Failed did before now = MatchBool did (Rose before now) (now ≡ before)
