-- Faults in a context.
use Rattle.std.proofs.Common.{◌≡◌, ℕ, true, false, List, [], ◌∷◌, Option, None, Some, sym, ap, ◌∙◌, refl}
use Rattle.std.proofs.lemmas.Bool.{and_parts, false≢true}
use Rattle.behaviour_tree.specs.Data.{Proc, no_procs, proc}
use Rattle.session_calculus.specs.Tables.{Table, entry}
use Rattle.session_calculus.specs.Terms.{Fault, Term, done, place, thrown, seq, par, in_scope, exec, fail, wait, dead_wait, prot, State, live, caught, term, last, zombie, seq_of, prot_of}
use Rattle.session_calculus.specs.Ready.{ready}
use Rattle.session_calculus.specs.Throw.{Carried, up, caught_at, ended_at, blocked, absent, surrounded, at_live, at_scope, reaches, throw}
use Rattle.session_contexts.specs.Contexts.{Layer, rests, scoped, asked, failed, kept, around_of, plug, is_open, are_open}
use Rattle.session_contexts.specs.Tidy.{tidy, tidied_fault}
use Rattle.session_contexts.specs.Walks.{thrown_in, thrown_within}
use Rattle.session_contexts.proofs.Tidying.{tidy-prot_of, tidy-twice, tidied-seq_of, tidied-prot_of}

-- a fault, by what it is tidily, through what stands around
around_tidily : (p k : Term → Term) (c : Carried Term) → ((t : Term) → tidy (p t) ≡ tidy (p (tidy t))) → ((t : Term) → tidy (k t) ≡ tidy (k (tidy t)))
    → tidied_fault (surrounded p k c) ≡ tidied_fault (surrounded p k (tidied_fault c))
around_tidily p k (up t) same stays = ap up (same t)
around_tidily p k (caught_at t q) same stays = ap (λ u. caught_at u q) (stays t)
around_tidily p k (ended_at t q) same stays = ap (λ u. ended_at u q) (stays t)
around_tidily p k (blocked n) same stays = refl
around_tidily p k absent same stays = refl

-- what stands around in two ways that are one tidily
around_alike : (p p' : Term → Term) (c : Carried Term) → ((t : Term) → tidy (p t) ≡ tidy (p' t)) → tidied_fault (surrounded p p c) ≡ tidied_fault (surrounded p' p' c)
around_alike p p' (up t) same = ap up (same t)
around_alike p p' (caught_at t q) same = ap (λ u. caught_at u q) (same t)
around_alike p p' (ended_at t q) same = ap (λ u. ended_at u q) (same t)
around_alike p p' (blocked n) same = refl
around_alike p p' absent same = refl

same_fault : (c : Carried Term) → c ≡ surrounded (λ t. t) (λ t. t) c
same_fault (up t) = refl
same_fault (caught_at t q) = refl
same_fault (ended_at t q) = refl
same_fault (blocked n) = refl
same_fault absent = refl

-- at a scope
live_tidily : (o : Option Proc) (q : ℕ) (h : Table) (f : Fault) (t : Term) → tidied_fault (at_live o q h f t) ≡ tidied_fault (at_live o q h f (tidy t))
live_tidily None q h f t = ap (λ b. up (prot (in_scope q b h zombie))) (sym (tidy-twice t))
live_tidily (Some p) q h f t = ap (λ b. caught_at (in_scope q b h (caught f)) q) (sym (tidy-twice t))

scope_tidily : (q : ℕ) (h : Table) (u : State) (f : Fault) (t : Term) → tidied_fault (at_scope q h u f t) ≡ tidied_fault (at_scope q h u f (tidy t))
scope_tidily q h live f t = live_tidily (entry f.name h.faults) q h f t
scope_tidily q h (caught g) f t = refl
scope_tidily q h term f t = refl
scope_tidily q h last f t = ap (λ b. ended_at (in_scope q b h zombie) q) (sym (tidy-twice t))
scope_tidily q h zombie f t = refl

reaches_tidily : (ns : List ℕ) (q : ℕ) (h : Table) (u : State) (f : Fault) (c : Carried Term)
    → tidied_fault (reaches ns (at_scope q h u f) (λ t. in_scope q t h u) c) ≡ tidied_fault (reaches ns (at_scope q h u f) (λ t. in_scope q t h u) (tidied_fault c))
reaches_tidily [] q h u f (up t) = scope_tidily q h u f t
reaches_tidily (n ∷ ns) q h u f (up t) = refl
reaches_tidily [] q h u f (caught_at t r) = ap (λ b. caught_at (in_scope q b h u) r) (sym (tidy-twice t))
reaches_tidily (n ∷ ns) q h u f (caught_at t r) = ap (λ b. caught_at (in_scope q b h u) r) (sym (tidy-twice t))
reaches_tidily [] q h u f (ended_at t r) = ap (λ b. ended_at (in_scope q b h u) r) (sym (tidy-twice t))
reaches_tidily (n ∷ ns) q h u f (ended_at t r) = ap (λ b. ended_at (in_scope q b h u) r) (sym (tidy-twice t))
reaches_tidily [] q h u f (blocked m) = refl
reaches_tidily (n ∷ ns) q h u f (blocked m) = refl
reaches_tidily [] q h u f absent = refl
reaches_tidily (n ∷ ns) q h u f absent = refl

-- a fault that comes out of a layer, by what it is tidily
thrown_tidily : (l : Layer) (f : Fault) (s : ℕ) (t : Term) (c : Carried Term) → is_open l ≡ true
    → tidied_fault (thrown_in l f s t c) ≡ tidied_fault (thrown_in l f s t (tidied_fault c))
thrown_tidily (rests ps) f s t c o = around_tidily (λ u. u) (λ u. seq_of u ps) c (λ u. sym (tidy-twice u)) (λ u. tidied-seq_of u ps)
thrown_tidily (scoped q h u) f s t c o = reaches_tidily (ready q h s t) q h u f c
thrown_tidily (asked m o' y) f s t c o =
    around_tidily (λ u. prot (fail m f u)) (exec m o' y) c (λ u. ap (λ v. prot (fail m f v)) (sym (tidy-twice u))) (λ u. ap (exec m o' y) (sym (tidy-twice u)))
thrown_tidily (failed m g) f s t c o = absurd (false≢true o)
thrown_tidily kept f s t c o = around_tidily prot_of prot_of c tidied-prot_of tidied-prot_of

-- a fault of what is kept
kept_again : (c : Carried Term) → tidied_fault (surrounded prot prot c) ≡ tidied_fault (surrounded prot_of prot_of (surrounded prot prot c))
kept_again (up t) = refl
kept_again (caught_at t q) = refl
kept_again (ended_at t q) = refl
kept_again (blocked n) = refl
kept_again absent = refl

kept_once : (c : Carried Term) → tidied_fault (surrounded prot prot c) ≡ tidied_fault (surrounded prot_of prot_of c)
kept_once c = around_alike prot prot_of c (λ t. sym (tidy-prot_of t))

throw-kept : (n : ℕ) (f : Fault) (s : ℕ) (t : Term) → tidied_fault (throw n f s (prot_of t)) ≡ tidied_fault (surrounded prot_of prot_of (throw n f s t))
throw-kept n f s done = refl
throw-kept n f s (place zp) = kept_once (throw n f s (place zp))
throw-kept n f s (thrown zf) = kept_once (throw n f s (thrown zf))
throw-kept n f s (seq zt zr) = kept_once (throw n f s (seq zt zr))
throw-kept n f s (par zts) = kept_once (throw n f s (par zts))
throw-kept n f s (in_scope zq zt zh zu) = kept_once (throw n f s (in_scope zq zt zh zu))
throw-kept n f s (exec zm zo zy zt) = kept_once (throw n f s (exec zm zo zy zt))
throw-kept n f s (fail zm zf zt) = kept_once (throw n f s (fail zm zf zt))
throw-kept n f s (wait zc za zb zx zl) = kept_once (throw n f s (wait zc za zb zx zl))
throw-kept n f s (dead_wait zc za zb zl) = kept_once (throw n f s (dead_wait zc za zb zl))
throw-kept n f s (prot zt) = kept_again (throw n f s zt)

-- out of one layer
thrown_layer : (l : Layer) (n : ℕ) (f : Fault) (s : ℕ) (t : Term) → is_open l ≡ true
    → tidied_fault (throw n f s (around_of l t)) ≡ tidied_fault (thrown_in l f s t (throw n f s t))
thrown_layer (rests no_procs) n f s t o = ap tidied_fault (same_fault (throw n f s t))
thrown_layer (rests (proc p ps)) n f s t o = refl
thrown_layer (scoped q h u) n f s t o = refl
thrown_layer (asked m o' y) n f s t o = refl
thrown_layer (failed m g) n f s t o = absurd (false≢true o)
thrown_layer kept n f s t o = throw-kept n f s t

-- out of layers
pub throws_outward : (ls : List Layer) (n : ℕ) (f : Fault) (s : ℕ) (t : Term) → are_open ls ≡ true
    → tidied_fault (throw n f s (plug ls t)) ≡ tidied_fault (thrown_within ls f s t (throw n f s t))
throws_outward [] n f s t o = refl
throws_outward (l ∷ ls) n f s t o =
    let both = and_parts (is_open l) (are_open ls) o in
    thrown_layer l n f s (plug ls t) both.0
    ∙ thrown_tidily l f s (plug ls t) (throw n f s (plug ls t)) both.0
    ∙ ap (λ c. tidied_fault (thrown_in l f s (plug ls t) c)) (throws_outward ls n f s t both.1)
    ∙ sym (thrown_tidily l f s (plug ls t) (thrown_within ls f s t (throw n f s t)) both.0)
