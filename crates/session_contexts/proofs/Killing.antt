-- Kills in a context.
use Rattle.std.proofs.Common.{◌≡◌, ℕ, List, [], ◌∷◌, ap, ◌∙◌, refl}
use Rattle.behaviour_tree.specs.Data.{no_procs, proc}
use Rattle.session_calculus.specs.Tables.{Table}
use Rattle.session_calculus.specs.Terms.{Fault, Term, done, place, thrown, seq, par, in_scope, exec, fail, wait, dead_wait, prot, live, caught, term, last, zombie, prot_of}
use Rattle.session_calculus.specs.Kill.{kill}
use Rattle.session_contexts.specs.Contexts.{Layer, rests, scoped, asked, failed, kept, around_of, plug}
use Rattle.session_contexts.specs.Walks.{killed_in, killed_within}

killed_live : (f : Fault) (q : ℕ) (h : Table) (t : Term) → kill f (in_scope q t h live) ≡ killed_in (scoped q h live) f t (kill f t)
killed_live f q h done = refl
killed_live f q h (place zp) = refl
killed_live f q h (thrown zf) = refl
killed_live f q h (seq zt zr) = refl
killed_live f q h (par zts) = refl
killed_live f q h (in_scope zq zt zh zu) = refl
killed_live f q h (exec zm zo zy zt) = refl
killed_live f q h (fail zm zf zt) = refl
killed_live f q h (wait zc za zb zx zl) = refl
killed_live f q h (dead_wait zc za zb zl) = refl
killed_live f q h (prot zt) = refl

killed_caught : (g : Fault) (f : Fault) (q : ℕ) (h : Table) (t : Term) → kill f (in_scope q t h (caught g)) ≡ killed_in (scoped q h (caught g)) f t (kill f t)
killed_caught g f q h done = refl
killed_caught g f q h (place zp) = refl
killed_caught g f q h (thrown zf) = refl
killed_caught g f q h (seq zt zr) = refl
killed_caught g f q h (par zts) = refl
killed_caught g f q h (in_scope zq zt zh zu) = refl
killed_caught g f q h (exec zm zo zy zt) = refl
killed_caught g f q h (fail zm zf zt) = refl
killed_caught g f q h (wait zc za zb zx zl) = refl
killed_caught g f q h (dead_wait zc za zb zl) = refl
killed_caught g f q h (prot zt) = refl

killed_term : (f : Fault) (q : ℕ) (h : Table) (t : Term) → kill f (in_scope q t h term) ≡ killed_in (scoped q h term) f t (kill f t)
killed_term f q h done = refl
killed_term f q h (place zp) = refl
killed_term f q h (thrown zf) = refl
killed_term f q h (seq zt zr) = refl
killed_term f q h (par zts) = refl
killed_term f q h (in_scope zq zt zh zu) = refl
killed_term f q h (exec zm zo zy zt) = refl
killed_term f q h (fail zm zf zt) = refl
killed_term f q h (wait zc za zb zx zl) = refl
killed_term f q h (dead_wait zc za zb zl) = refl
killed_term f q h (prot zt) = refl

killed_last : (f : Fault) (q : ℕ) (h : Table) (t : Term) → kill f (in_scope q t h last) ≡ killed_in (scoped q h last) f t (kill f t)
killed_last f q h done = refl
killed_last f q h (place zp) = refl
killed_last f q h (thrown zf) = refl
killed_last f q h (seq zt zr) = refl
killed_last f q h (par zts) = refl
killed_last f q h (in_scope zq zt zh zu) = refl
killed_last f q h (exec zm zo zy zt) = refl
killed_last f q h (fail zm zf zt) = refl
killed_last f q h (wait zc za zb zx zl) = refl
killed_last f q h (dead_wait zc za zb zl) = refl
killed_last f q h (prot zt) = refl

killed_zombie : (f : Fault) (q : ℕ) (h : Table) (t : Term) → kill f (in_scope q t h zombie) ≡ killed_in (scoped q h zombie) f t (kill f t)
killed_zombie f q h done = refl
killed_zombie f q h (place zp) = refl
killed_zombie f q h (thrown zf) = refl
killed_zombie f q h (seq zt zr) = refl
killed_zombie f q h (par zts) = refl
killed_zombie f q h (in_scope zq zt zh zu) = refl
killed_zombie f q h (exec zm zo zy zt) = refl
killed_zombie f q h (fail zm zf zt) = refl
killed_zombie f q h (wait zc za zb zx zl) = refl
killed_zombie f q h (dead_wait zc za zb zl) = refl
killed_zombie f q h (prot zt) = refl

-- what is kept stays
killed_kept : (f : Fault) (t : Term) → kill f (prot_of t) ≡ prot_of t
killed_kept f done = refl
killed_kept f (place zp) = refl
killed_kept f (thrown zf) = refl
killed_kept f (seq zt zr) = refl
killed_kept f (par zts) = refl
killed_kept f (in_scope zq zt zh zu) = refl
killed_kept f (exec zm zo zy zt) = refl
killed_kept f (fail zm zf zt) = refl
killed_kept f (wait zc za zb zx zl) = refl
killed_kept f (dead_wait zc za zb zl) = refl
killed_kept f (prot zt) = refl

-- a kill of a form in a layer
killed_layer : (l : Layer) (f : Fault) (t : Term) → kill f (around_of l t) ≡ killed_in l f t (kill f t)
killed_layer (rests no_procs) f t = refl
killed_layer (rests (proc p ps)) f t = refl
killed_layer (scoped q h live) f t = killed_live f q h t
killed_layer (scoped q h (caught g)) f t = killed_caught g f q h t
killed_layer (scoped q h term) f t = killed_term f q h t
killed_layer (scoped q h last) f t = killed_last f q h t
killed_layer (scoped q h zombie) f t = killed_zombie f q h t
killed_layer (asked m o y) f t = refl
killed_layer (failed m g) f t = refl
killed_layer kept f t = killed_kept f t

-- in layers
pub kills_inward : (ls : List Layer) (f : Fault) (t : Term) → kill f (plug ls t) ≡ killed_within ls f t (kill f t)
kills_inward [] f t = refl
kills_inward (l ∷ ls) f t = killed_layer l f (plug ls t) ∙ ap (killed_in l f (plug ls t)) (kills_inward ls f t)
