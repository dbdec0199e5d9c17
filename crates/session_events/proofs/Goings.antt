-- How a message goes on in a branch, by what it left.
use Rattle.std.proofs.Common.{◌≡◌, ℕ, Option, Some, None, refl, ap}
use Rattle.jolie_trees.specs.Data.{Tree}
use Rattle.behaviour_tree.specs.Data.{Proc}
use Rattle.session_calculus.specs.Effects.{Effect, faults, stores}
use Rattle.session_calculus.specs.Inputs.{Coming, taken, goes_on}
use Rattle.session_calculus.specs.Moves.{Seen, moved_to}
use Rattle.session_calculus.specs.Start.{begun, start}
use Rattle.session_calculus.specs.Terms.{Term}
use Rattle.session_values.specs.Effects.{fault_in, left_by}
use Rattle.session_events.specs.Goes.{goes}

-- the behaviour starts, or the fault of what came stands in its place
pub goes_by : (s : Seen) (c : Coming) (p : Proc) (e : Effect) (f : Option ℕ) (t : Term) (next : ℕ) (store : Tree) → f ≡ fault_in e → store ≡ left_by e s.store
    → begun t next ≡ goes f p s.next → moved_to t (record (taken s c) { store = store; next = next }) ≡ goes_on s c p e
goes_by s c p (faults x) f t next store h i j =
    let e : begun t next ≡ goes (Some x) p s.next = rw h at j in
    rw (i, ap (λ b. b.form) e, ap (λ b. b.next) e) refl
goes_by s c p (stores u) f t next store h i j =
    let e : begun t next ≡ start p s.next = rw h at j in
    rw (i, ← e) refl
