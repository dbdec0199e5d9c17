-- What stands in a context, and what is seen in it.
use Rattle.std.proofs.Common.{◌≡◌, ℕ, true, false, List, [], ◌∷◌, ◌++◌, sym, ap, ◌∙◌, refl}
use Rattle.std.proofs.lemmas.Bool.{false≢true}
use Rattle.std.proofs.lemmas.List.{append-nil, append_assoc}
use Rattle.behaviour_tree.specs.Data.{no_procs, proc}
use Rattle.session_calculus.specs.Tables.{Table}
use Rattle.session_calculus.specs.Terms.{Term, done, place, thrown, seq, par, in_scope, exec, fail, wait, dead_wait, prot, strand, State, prot_of, is_within}
use Rattle.session_calculus.specs.Ready.{ready_in}
use Rattle.session_calculus.specs.Faults.{fault_in}
use Rattle.session_calculus.specs.Moves.{Seen, inside}
use Rattle.session_calculus.specs.Reached.{Passed, scopes_around}
use Rattle.session_contexts.specs.Contexts.{Layer, rests, scoped, asked, failed, kept, around_of, plug, are_open}
use Rattle.session_contexts.specs.Walks.{seen_within, looked_within, passed_within}

-- what is kept holds the same strands
kept-within : (n : ℕ) (t : Term) → is_within n (prot_of t) ≡ is_within n t
kept-within n done = refl
kept-within n (place zp) = refl
kept-within n (thrown zf) = refl
kept-within n (seq zt zr) = refl
kept-within n (par zts) = refl
kept-within n (in_scope zq zt zh zu) = refl
kept-within n (exec zm zo zy zt) = refl
kept-within n (fail zm zf zt) = refl
kept-within n (wait zc za zb zx zl) = refl
kept-within n (dead_wait zc za zb zl) = refl
kept-within n (prot zt) = refl

-- the strands in a form in layers
pub strands_inside : (ls : List Layer) (t : Term) (n : ℕ) → is_within n (plug ls t) ≡ is_within n t
strands_inside [] t n = refl
strands_inside (rests no_procs ∷ ls) t n = strands_inside ls t n
strands_inside (rests (proc p ps) ∷ ls) t n = strands_inside ls t n
strands_inside (scoped q h u ∷ ls) t n = strands_inside ls t n
strands_inside (asked m o y ∷ ls) t n = strands_inside ls t n
strands_inside (failed m f ∷ ls) t n = strands_inside ls t n
strands_inside (kept ∷ ls) t n = kept-within n (plug ls t) ∙ strands_inside ls t n

-- its fault
kept-fault : (s : Seen) (k : ℕ) (t : Term) → fault_in s k (prot_of t) ≡ fault_in s k t
kept-fault s k done = refl
kept-fault s k (place zp) = refl
kept-fault s k (thrown zf) = refl
kept-fault s k (seq zt zr) = refl
kept-fault s k (par zts) = refl
kept-fault s k (in_scope zq zt zh zu) = refl
kept-fault s k (exec zm zo zy zt) = refl
kept-fault s k (fail zm zf zt) = refl
kept-fault s k (wait zc za zb zx zl) = refl
kept-fault s k (dead_wait zc za zb zl) = refl
kept-fault s k (prot zt) = refl

-- the fault of a form in layers
pub faults_inside : (ls : List Layer) (s : Seen) (k : ℕ) (t : Term) → are_open ls ≡ true
    → fault_in s k (plug ls t) ≡ fault_in (seen_within ls s) k t
faults_inside [] s k t o = refl
faults_inside (rests no_procs ∷ ls) s k t o = faults_inside ls s k t o
faults_inside (rests (proc p ps) ∷ ls) s k t o = faults_inside ls s k t o
faults_inside (scoped q h u ∷ ls) s k t o = faults_inside ls (inside s q h) k t o
faults_inside (asked m o' y ∷ ls) s k t o = faults_inside ls s k t o
faults_inside (failed m f ∷ ls) s k t o = absurd (false≢true o)
faults_inside (kept ∷ ls) s k t o = kept-fault s k (plug ls t) ∙ faults_inside ls s k t o

-- the scopes around a place in it
kept-scopes : (n s : ℕ) (t : Term) → scopes_around n s (prot_of t) ≡ scopes_around n s t
kept-scopes n s done = refl
kept-scopes n s (place zp) = refl
kept-scopes n s (thrown zf) = refl
kept-scopes n s (seq zt zr) = refl
kept-scopes n s (par zts) = refl
kept-scopes n s (in_scope zq zt zh zu) = refl
kept-scopes n s (exec zm zo zy zt) = refl
kept-scopes n s (fail zm zf zt) = refl
kept-scopes n s (wait zc za zb zx zl) = refl
kept-scopes n s (dead_wait zc za zb zl) = refl
kept-scopes n s (prot zt) = refl

-- the scopes around a place in a form in layers
pub scopes_outward : (ls : List Layer) (n s : ℕ) (t : Term) → are_open ls ≡ true
    → scopes_around n s (plug ls t) ≡ scopes_around n s t ++ passed_within ls s t
scopes_outward [] n s t o = sym (append-nil (scopes_around n s t))
scopes_outward (rests no_procs ∷ ls) n s t o = scopes_outward ls n s t o
scopes_outward (rests (proc p ps) ∷ ls) n s t o = scopes_outward ls n s t o
scopes_outward (scoped q h u ∷ ls) n s t o =
    let mine : List Passed = record { name = q; table = h; state = u; strand = s; body = plug ls t } ∷ [] in
    ap (λ l. l ++ mine) (scopes_outward ls n s t o) ∙ append_assoc (scopes_around n s t) (passed_within ls s t) mine
scopes_outward (asked m o' y ∷ ls) n s t o = scopes_outward ls n s t o
scopes_outward (failed m f ∷ ls) n s t o = absurd (false≢true o)
scopes_outward (kept ∷ ls) n s t o = kept-scopes n s (plug ls t) ∙ scopes_outward ls n s t o

-- what is not done is not done in a layer
kept_done : (t : Term) → prot_of t ≡ done → t ≡ done
kept_done done e = refl
kept_done (place zp) e = cc
kept_done (thrown zf) e = cc
kept_done (seq zt zr) e = cc
kept_done (par zts) e = cc
kept_done (in_scope zq zt zh zu) e = cc
kept_done (exec zm zo zy zt) e = cc
kept_done (fail zm zf zt) e = cc
kept_done (wait zc za zb zx zl) e = cc
kept_done (dead_wait zc za zb zl) e = cc
kept_done (prot zt) e = cc

in_layer : (l : Layer) (t : Term) → (t ≡ done → ⊥) → around_of l t ≡ done → ⊥
in_layer (rests no_procs) t out e = out e
in_layer (rests (proc p ps)) t out e = cc
in_layer (scoped q h u) t out e = cc
in_layer (asked m o y) t out e = cc
in_layer (failed m f) t out e = cc
in_layer kept t out e = out (kept_done t e)

-- nor in layers
pub in_layers : (ls : List Layer) (t : Term) → (t ≡ done → ⊥) → plug ls t ≡ done → ⊥
in_layers [] t out = out
in_layers (l ∷ ls) t out = in_layer l (plug ls t) (in_layers ls t out)

-- no strand goes first in what is kept
kept-ready : (q : ℕ) (h : Table) (n : ℕ) (t : Term) → ready_in q h n (prot_of t) ≡ []
kept-ready q h n done = refl
kept-ready q h n (place zp) = refl
kept-ready q h n (thrown zf) = refl
kept-ready q h n (seq zt zr) = refl
kept-ready q h n (par zts) = refl
kept-ready q h n (in_scope zq zt zh zu) = refl
kept-ready q h n (exec zm zo zy zt) = refl
kept-ready q h n (fail zm zf zt) = refl
kept-ready q h n (wait zc za zb zx zl) = refl
kept-ready q h n (dead_wait zc za zb zl) = refl
kept-ready q h n (prot zt) = refl

-- nor in a scope whose body is not done
scope-ready : (q : ℕ) (h : Table) (n r : ℕ) (g : Table) (u : State) (t : Term) → (t ≡ done → ⊥) → ready_in q h n (in_scope r t g u) ≡ []
scope-ready q h n r g u done out = absurd (out refl)
scope-ready q h n r g u (place zp) out = refl
scope-ready q h n r g u (thrown zf) out = refl
scope-ready q h n r g u (seq zt zr) out = refl
scope-ready q h n r g u (par zts) out = refl
scope-ready q h n r g u (in_scope zq zt zh zu) out = refl
scope-ready q h n r g u (exec zm zo zy zt) out = refl
scope-ready q h n r g u (fail zm zf zt) out = refl
scope-ready q h n r g u (wait zc za zb zx zl) out = refl
scope-ready q h n r g u (dead_wait zc za zb zl) out = refl
scope-ready q h n r g u (prot zt) out = refl

-- the strands that go first in a form in layers
pub ready_inside : (ls : List Layer) (q : ℕ) (h : Table) (n : ℕ) (t : Term) → (t ≡ done → ⊥)
    → ready_in q h n (plug ls t) ≡ looked_within ls (ready_in q h n t)
ready_inside [] q h n t out = refl
ready_inside (rests no_procs ∷ ls) q h n t out = ready_inside ls q h n t out
ready_inside (rests (proc p ps) ∷ ls) q h n t out = ready_inside ls q h n t out
ready_inside (scoped r g u ∷ ls) q h n t out = scope-ready q h n r g u (plug ls t) (in_layers ls t out)
ready_inside (asked m o y ∷ ls) q h n t out = ready_inside ls q h n t out
ready_inside (failed m f ∷ ls) q h n t out = refl
ready_inside (kept ∷ ls) q h n t out = kept-ready q h n (plug ls t)
