-- Actions on the store, by what they left.
use Rattle.std.proofs.Common.{◌≡◌, Some, None, ℕ, refl}
use Rattle.behaviour_tree.specs.declared.words.Given.TheVariants as given
use Rattle.behaviour_tree.specs.declared.words.Kind.TheVariants as kind
use Rattle.session_calculus.specs.After.{changes}
use Rattle.session_calculus.specs.Effects.{Effect, faults, stores}
use Rattle.session_calculus.specs.Faults.{fault_of_effect}
use Rattle.session_calculus.specs.Moves.{moved_to, quietly}
use Rattle.session_calculus.specs.Terms.{bare, done}
use Rattle.session_values.specs.Effects.{fault_in, left_by}
use Rattle.session_values.specs.Kept.{Keeps}
use Rattle.session_values.specs.declared.memory.Memory.{Memory}
use Rattle.session_events.specs.Came.{came, faulted, moved}
use Rattle.session_events.specs.Seen.{seen_in}
use Rattle.session_events.specs.declared.scene.Scene.{Scene}

-- an action on the store that has a fault leaves the store
pub effect_faulted : (p : Scene) (old new : Memory) (e : Effect) (f : ℕ) → Some f ≡ fault_in e → new.store ≡ left_by e old.store → Keeps old new
    → faulted (bare f) (seen_in p given.Nothing new) ≡ came (seen_in p given.Nothing old) (fault_of_effect e) (changes (seen_in p given.Nothing old) e)
effect_faulted p old new (faults x) f i j k = let same : f ≡ x = cc in rw (same, j, k.next, k.call) refl
effect_faulted p old new (stores t) f i j k = cc

-- one that has none is done
pub effect_done : (p : Scene) (old new : Memory) (e : Effect) → None ≡ fault_in e → new.store ≡ left_by e old.store → Keeps old new
    → moved (moved_to done (quietly (seen_in p given.Nothing new) kind.Local)) ≡ came (seen_in p given.Nothing old) (fault_of_effect e) (changes (seen_in p given.Nothing old) e)
effect_done p old new (faults x) i j k = cc
effect_done p old new (stores t) i j k = rw (j, k.next, k.call) refl
