-- What changes of the store come to.
use Rattle.std.proofs.Common.{◌≡◌, Bool, true, false, ℕ, List, Option, Some, None, refl}
use Rattle.std.specs.Prelude.{if◌then◌else◌}
use Rattle.jolie_trees.specs.declared.path.Step.{Step}
use Rattle.jolie_trees.specs.declared.root.Root.{Root}
use Rattle.jolie_trees.specs.Data.{Tree}
use Rattle.jolie_trees.specs.Trees.{root_of, set, set_root, undef}
use Rattle.jolie_trees.specs.Limits.{is_store}
use Rattle.jolie_trees.proofs.Lessened.{undef-keeps_limits}
use Rattle.session_calculus.specs.Effects.{faults, stores, stored, assigned, put, taken_away as removed}
use Rattle.session_calculus.specs.Names.{expr_fault, store_too_large}
use Rattle.session_values.specs.Effects.{fault_in, left_by, together}

-- the fault that is left where a change was not done
abbrev pub too_large_unless : Bool → Option ℕ
too_large_unless done = if done then None else Some store_too_large

-- without a path or a value, an assignment and a copy fault
pub assigned_nowhere : (store : Tree) (path : Option (List Step)) (v : Option Tree) → None ≡ together path v → assigned store path v ≡ faults expr_fault
assigned_nowhere store None v h = refl
assigned_nowhere store (Some path) None h = refl
assigned_nowhere store (Some path) (Some v) h = cc

pub put_nowhere : (store : Tree) (path : Option (List Step)) (v : Option Tree) → None ≡ together path v → put store path v ≡ faults expr_fault
put_nowhere store None v h = refl
put_nowhere store (Some path) None h = refl
put_nowhere store (Some path) (Some v) h = cc

-- else they put the root or the whole of the value at the path
pub assigned_there : (store : Tree) (path : Option (List Step)) (v : Option Tree) (q : List Step × Tree) → Some q ≡ together path v → assigned store path v ≡ stored (set_root q.0 (root_of q.1) store)
assigned_there store None v q h = cc
assigned_there store (Some path) None q h = cc
assigned_there store (Some path) (Some v) q h = let e : q ≡ (path, v) = cc in rw e refl

pub put_there : (store : Tree) (path : Option (List Step)) (v : Option Tree) (q : List Step × Tree) → Some q ≡ together path v → put store path v ≡ stored (set q.0 q.1 store)
put_there store None v q h = cc
put_there store (Some path) None q h = cc
put_there store (Some path) (Some v) q h = let e : q ≡ (path, v) = cc in rw e refl

-- the fault of a change that was done where it passes no limit
pub fault_stored : (t : Tree) (done : Bool) → done ≡ is_store t → too_large_unless done ≡ fault_in (stored t)
fault_stored t true h = rw (← h) refl
fault_stored t false h = rw (← h) refl

-- the store that it leaves
pub left_stored : (t old : Tree) (done : Bool) → done ≡ is_store t → (if done then t else old) ≡ left_by (stored t) old
left_stored t old true h = rw (← h) refl
left_stored t old false h = rw (← h) refl

-- what is taken away from a store leaves a store
pub taken_away : (store : Tree) (path : Option (List Step)) (q : List Step) → is_store store ≡ true → Some q ≡ path → removed store path ≡ stores (undef q store)
taken_away store None q h e = cc
taken_away store (Some p) q h e = let same : q ≡ p = cc in let kept = undef-keeps_limits p store h in rw (same, kept) refl

-- an assignment that was done where it passes no limit
pub assign_faults : (store : Tree) (path : Option (List Step)) (v : Option Tree) (q : List Step × Tree) (r : Root) (done : Bool) → Some q ≡ together path v → r ≡ root_of q.1
    → done ≡ is_store (set_root q.0 r store) → too_large_unless done ≡ fault_in (assigned store path v)
assign_faults store path v q r done h i j = rw (assigned_there store path v q h, ← i) (fault_stored (set_root q.0 r store) done j)

-- an assignment that would be done
pub fits_faults : (store : Tree) (path : Option (List Step)) (v : Option Tree) (q : List Step × Tree) (fits : Bool) → Some q ≡ together path v
    → ((r : Root) → fits ≡ is_store (set_root q.0 r store)) → too_large_unless fits ≡ fault_in (assigned store path v)
fits_faults store path v q fits h i = rw (assigned_there store path v q h) (fault_stored (set_root q.0 (root_of q.1) store) fits (i (root_of q.1)))
