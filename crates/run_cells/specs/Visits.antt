-- These definitions serve the proofs alone: no promise speaks of them.
-- How a round goes from one session that is awake to the next.
use Rattle.std.specs.Prelude.{◌≡◌, ℕ, ◌-◌, ◌≤◌, ◌<◌, length, drop, Some, slice_get}
use Rattle.run_cells.specs.Awake.{HasNoneFrom, IsFirstFrom, IsOn}
use Rattle.run_cells.specs.RunStates.{Rests, RunState, Stand, State}

-- a session is awake, or is born next
pub data IsNext (c : RunState) (n : ℕ) : Type 0 where
  awake : IsOn c.told.awake n → IsNext c n
  unborn : n ≡ length c.stands → IsNext c n

-- a session is the first from a number on that is awake; or none is, and it is born next
pub data IsNextFrom (c : RunState) (number n : ℕ) : Type 0 where
  first_awake : IsFirstFrom number c.told.awake n → IsNextFrom c number n
  none_awake : HasNoneFrom number c.told.awake → n ≡ length c.stands → IsNextFrom c number n

-- a state after so many picks
abbrev pub past_picks : ℕ → State → State
past_picks count s = record {
  setting = s.setting;
  budget = s.budget;
  history = s.history;
  stands = s.stands;
  picks = drop count s.picks;
}

-- The sessions from n on that are below m do nothing, and the picks for their turns were dropped.
pub record Skips (n m : ℕ) (old new : State) : Type 0 where
  pub rising : n ≤ m
  pub there : m ≤ length old.stands
  pub rest : (k : ℕ) (st : Stand) → n ≤ k → k < m → slice_get old.stands k ≡ Some st → Rests old k st old.history
  pub same : new ≡ past_picks (m - n) old
