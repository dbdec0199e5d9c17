-- The faults of places.
use Rattle.std.proofs.Common.{◌≡◌, Option, Some, None, ℕ, refl}
use Rattle.std.specs.Prelude.{option_map, is_some, if◌then◌else◌}
use Rattle.session_calculus.specs.Effects.{Effect, faults, stores}
use Rattle.session_calculus.specs.Faults.{fault_of_effect, fault_of_missing}
use Rattle.session_calculus.specs.Names.{expr_fault}
use Rattle.session_calculus.specs.Terms.{bare}
use Rattle.session_values.specs.Effects.{fault_in}

-- the fault of an effect
pub effect_faults : (e : Effect) (f : Option ℕ) → f ≡ fault_in e → option_map bare f ≡ fault_of_effect e
effect_faults (faults x) f h = rw h refl
effect_faults (stores t) f h = rw h refl

-- the fault of a form that asks for a value
pub missing : {A : Type 0} (v : Option A) → (if is_some v then None else Some (bare expr_fault)) ≡ fault_of_missing v
missing None = refl
missing (Some x) = refl
