-- When a call of the outside may answer that it failed: only where that object's count of faults rose in the call.
use Rattle.std.specs.Prelude.{◌≡◌, ℕ, ◌+◌, ◌-◌, ◌^◌, ◌≤◌, min}
use Rattle.std.specs.Prelude.{Result, OnErr, OnOk, IsErrOf, alloc_error}
use Rattle.outside_traits.specs.declared.errors.CallError.{CallError}
use Rattle.outside_traits.specs.declared.errors.CallError.TheVariants.{Failed, Memory}

-- the count is higher than before, or stood at the last value of its type
abbrev pub Rose : ℕ → ℕ → Type 0
Rose before now = min (before + 1) (2 ^ 64 - 1) ≤ now

-- the count never falls, an error comes only where it rose, and a call that succeeds leaves it as it was
pub record HasCause {T E : Type 0} (before now : ℕ) (result : Result T E) : Type 0 where
  pub later : before ≤ now
  pub failed : OnErr result (Rose before now)
  pub unfailed : OnOk result (now ≡ before)

-- the same for a call that takes memory: `Failed` comes only where the count rose, and want of memory leaves it as it
-- was
pub record HasCallCause {T : Type 0} (before now : ℕ) (result : Result T CallError) : Type 0 where
  pub later : before ≤ now
  pub failed : IsErrOf result Failed → Rose before now
  pub unfailed : OnOk result (now ≡ before)
  pub memory : IsErrOf result (Memory alloc_error) → now ≡ before
