-- No fault is absent.
use Rattle.std.proofs.Common.{◌≡◌, ℕ, Bool, true, false, ◌&&◌, List, [], ◌∷◌, Option, None, Some, is_some, if◌then◌else◌, nat_eq, refl, ap, subst}
use Rattle.std.proofs.lemmas.Bool.{false≢true}
use Rattle.behaviour_tree.specs.Data.{Proc}
use Rattle.session_calculus.specs.Tables.{Table, entry}
use Rattle.session_calculus.specs.Terms.{Fault, Term, Strands, done, place, thrown, seq, par, in_scope, exec, fail, wait, dead_wait, prot, no_strands, strand, live, caught, term, last, zombie, stands_in}
use Rattle.session_calculus.specs.Kill.{kill, kill_members}
use Rattle.session_calculus.specs.Ready.{ready}
use Rattle.session_calculus.specs.Throw.{Carried, up, caught_at, ended_at, blocked, absent, surrounded, at_live, at_scope, reaches, throw, throw_among}
use Rattle.session_calculus.specs.Moves.{Seen, inside}
use Rattle.session_calculus.specs.Faults.{fault_of, fault_in, fault_among}
use Rattle.session_calculus.specs.After.{seen_by}
use Rattle.session_calculus.specs.Sound.{is_exposed, are_exposed, is_spared, are_spared, is_shielded, NoFaultIsAbsent}

-- a fault that is not absent
abbrev pub IsThere : {A : Type 0} → Carried A → Type 0
IsThere absent = ⊥
IsThere c = Unit {0}

-- a fault that a scope kept, or that is blocked
abbrev pub IsKept : {A : Type 0} → Carried A → Type 0
IsKept absent = ⊥
IsKept (up t) = ⊥
IsKept c = Unit {0}

-- what is kept is there
kept-there : {A : Type 0} (c : Carried A) → IsKept c → IsThere c
kept-there (up t) h = tt
kept-there (caught_at t q) h = tt
kept-there (ended_at t q) h = tt
kept-there (blocked n) h = tt
kept-there absent h = h

-- within what stands around
there-surrounded : {A B : Type 0} (f g : A → B) (c : Carried A) → IsThere c → IsThere (surrounded f g c)
there-surrounded f g (up t) h = tt
there-surrounded f g (caught_at t q) h = tt
there-surrounded f g (ended_at t q) h = tt
there-surrounded f g (blocked n) h = tt
there-surrounded f g absent h = h

-- the same of what is kept
kept-surrounded : {A B : Type 0} (f g : A → B) (c : Carried A) → IsKept c → IsKept (surrounded f g c)
kept-surrounded f g (up t) h = h
kept-surrounded f g (caught_at t q) h = tt
kept-surrounded f g (ended_at t q) h = tt
kept-surrounded f g (blocked n) h = tt
kept-surrounded f g absent h = h

-- at a scope to which a fault may come
there-reaches : (rs : List ℕ) (comes : Term → Carried Term) (stays : Term → Term) (c : Carried Term)
    → ((t : Term) → IsThere (comes t)) → IsThere c → IsThere (reaches rs comes stays c)
there-reaches [] comes stays (up t) k h = k t
there-reaches (r ∷ rs) comes stays (up t) k h = tt
there-reaches [] comes stays (caught_at t q) k h = tt
there-reaches (r ∷ rs) comes stays (caught_at t q) k h = tt
there-reaches [] comes stays (ended_at t q) k h = tt
there-reaches (r ∷ rs) comes stays (ended_at t q) k h = tt
there-reaches [] comes stays (blocked n) k h = tt
there-reaches (r ∷ rs) comes stays (blocked n) k h = tt
there-reaches [] comes stays absent k h = h
there-reaches (r ∷ rs) comes stays absent k h = h

-- at a scope that keeps what comes
kept-at : (rs : List ℕ) (comes : Term → Carried Term) (stays : Term → Term) (c : Carried Term)
    → ((t : Term) → IsKept (comes t)) → IsThere c → IsKept (reaches rs comes stays c)
kept-at [] comes stays (up t) k h = k t
kept-at (r ∷ rs) comes stays (up t) k h = tt
kept-at [] comes stays (caught_at t q) k h = tt
kept-at (r ∷ rs) comes stays (caught_at t q) k h = tt
kept-at [] comes stays (ended_at t q) k h = tt
kept-at (r ∷ rs) comes stays (ended_at t q) k h = tt
kept-at [] comes stays (blocked n) k h = tt
kept-at (r ∷ rs) comes stays (blocked n) k h = tt
kept-at [] comes stays absent k h = h
kept-at (r ∷ rs) comes stays absent k h = h

-- at a scope to which none comes
kept-below : (rs : List ℕ) (comes : Term → Carried Term) (stays : Term → Term) (c : Carried Term)
    → IsKept c → IsKept (reaches rs comes stays c)
kept-below [] comes stays (up t) h = absurd h
kept-below (r ∷ rs) comes stays (up t) h = absurd h
kept-below [] comes stays (caught_at t q) h = tt
kept-below (r ∷ rs) comes stays (caught_at t q) h = tt
kept-below [] comes stays (ended_at t q) h = tt
kept-below (r ∷ rs) comes stays (ended_at t q) h = tt
kept-below [] comes stays (blocked n) h = tt
kept-below (r ∷ rs) comes stays (blocked n) h = tt
kept-below [] comes stays absent h = h
kept-below (r ∷ rs) comes stays absent h = h

-- a live scope catches a fault or lets it go on
there-at_live : (p : Option Proc) (q : ℕ) (h : Table) (f : Fault) (t : Term) → IsThere (at_live p q h f t)
there-at_live None q h f t = tt
there-at_live (Some p) q h f t = tt

-- the strand of a place, and no other
there-place : (b : Bool) (o : Option Fault) → is_some (if b then o else None) ≡ true → IsThere (if b then up done else absent)
there-place true o e = tt
there-place false o e = absurd (false≢true e)

-- the first of two
and_left : (a b : Bool) → a && b ≡ true → a ≡ true
and_left true b e = refl
and_left false b e = absurd (false≢true e)

-- the second of two
and_right : (a b : Bool) → a && b ≡ true → b ≡ true
and_right true b e = e
and_right false b e = absurd (false≢true e)

-- the member that a strand stands in
there-member : (s : Seen) (f : Fault) (k : ℕ) (t : Term) (ts : Strands) (b : Bool)
    → (is_some (fault_in s k t) ≡ true → IsThere (throw s.strand f k t))
    → (is_some (fault_among s ts) ≡ true → IsThere (throw_among s.strand f ts))
    → is_some (elim b [ true ↦ fault_in s k t | false ↦ fault_among s ts ]) ≡ true
    → IsThere
    (elim b [
      | true ↦ surrounded (λ t'. strand k t' (kill_members f ts)) (λ t'. strand k t' ts) (throw s.strand f k t)
      | false ↦ surrounded (strand k (kill f t)) (strand k t) (throw_among s.strand f ts)
    ])
there-member s f k t ts true here there e =
    there-surrounded (λ t'. strand k t' (kill_members f ts)) (λ t'. strand k t' ts) (throw s.strand f k t) (here e)
there-member s f k t ts false here there e =
    there-surrounded (strand k (kill f t)) (strand k t) (throw_among s.strand f ts) (there e)

-- the same of what is kept
kept-member : (s : Seen) (f : Fault) (k : ℕ) (t : Term) (ts : Strands) (b : Bool)
    → (is_some (fault_in s k t) ≡ true → IsKept (throw s.strand f k t))
    → (is_some (fault_among s ts) ≡ true → IsKept (throw_among s.strand f ts))
    → is_some (elim b [ true ↦ fault_in s k t | false ↦ fault_among s ts ]) ≡ true
    → IsKept
    (elim b [
      | true ↦ surrounded (λ t'. strand k t' (kill_members f ts)) (λ t'. strand k t' ts) (throw s.strand f k t)
      | false ↦ surrounded (strand k (kill f t)) (strand k t) (throw_among s.strand f ts)
    ])
kept-member s f k t ts true here there e =
    kept-surrounded (λ t'. strand k t' (kill_members f ts)) (λ t'. strand k t' ts) (throw s.strand f k t) (here e)
kept-member s f k t ts false here there e =
    kept-surrounded (strand k (kill f t)) (strand k t) (throw_among s.strand f ts) (there e)

mutual
  -- a fault in a form that a fault may end is there
  exposed-there : (s : Seen) (f : Fault) (k : ℕ) (t : Term) → is_exposed t ≡ true → is_some (fault_in s k t) ≡ true
      → IsThere (throw s.strand f k t)
  exposed-there s f k (place p) x e = there-place (nat_eq s.strand k) (fault_of s p) e
  exposed-there s f k (thrown g) x e = there-place (nat_eq s.strand k) (Some g) e
  exposed-there s f k (seq t rest) x e = there-surrounded (λ t'. t') (λ t'. seq t' rest) (throw s.strand f k t) (exposed-there s f k t x e)
  exposed-there s f k (par ts) x e = there-surrounded par par (throw_among s.strand f ts) (exposed-there_among s f ts x e)
  exposed-there s f k (in_scope q t h live) x e =
      there-reaches (ready q h k t) (at_scope q h live f) (λ t'. in_scope q t' h live) (throw s.strand f k t)
      (there-at_live (entry f.name h.faults) q h f) (exposed-there (inside s q h) f k t x e)
  exposed-there s f k (in_scope q t h (caught g)) x e =
      kept-there (reaches (ready q h k t) (at_scope q h (caught g) f) (λ t'. in_scope q t' h (caught g)) (throw s.strand f k t))
      (kept-below (ready q h k t) (at_scope q h (caught g) f) (λ t'. in_scope q t' h (caught g)) (throw s.strand f k t)
      (spared-kept (inside s q h) f k t x e))
  exposed-there s f k (in_scope q t h term) x e = absurd (false≢true x)
  exposed-there s f k (in_scope q t h last) x e = absurd (false≢true x)
  exposed-there s f k (in_scope q t h zombie) x e = absurd (false≢true x)
  exposed-there s f k (exec m o y t) x e = there-surrounded (λ t'. prot (fail m f t')) (exec m o y) (throw s.strand f k t) (exposed-there s f k t x e)
  exposed-there s f k (prot t) x e =
      kept-there (surrounded prot prot (throw s.strand f k t))
      (kept-surrounded prot prot (throw s.strand f k t) (shielded-kept s f k t x e))
  exposed-there s f k done x e = absurd (false≢true e)
  exposed-there s f k (fail m g t) x e = absurd (false≢true e)
  exposed-there s f k (wait n port op y list) x e = absurd (false≢true e)
  exposed-there s f k (dead_wait n port op list) x e = absurd (false≢true e)

  -- so is one in a member
  exposed-there_among : (s : Seen) (f : Fault) (ts : Strands) → are_exposed ts ≡ true → is_some (fault_among s ts) ≡ true
      → IsThere (throw_among s.strand f ts)
  exposed-there_among s f no_strands x e = absurd (false≢true e)
  exposed-there_among s f (strand k t ts) x e =
      there-member s f k t ts (stands_in s.strand k t) (exposed-there s f k t (and_left (is_exposed t) (are_exposed ts) x))
      (exposed-there_among s f ts (and_right (is_exposed t) (are_exposed ts) x)) e

  -- a fault in what a kill left is kept
  spared-kept : (s : Seen) (f : Fault) (k : ℕ) (t : Term) → is_spared t ≡ true → is_some (fault_in s k t) ≡ true
      → IsKept (throw s.strand f k t)
  spared-kept s f k (par ts) x e = kept-surrounded par par (throw_among s.strand f ts) (spared-kept_among s f ts x e)
  spared-kept s f k (prot t) x e = kept-surrounded prot prot (throw s.strand f k t) (shielded-kept s f k t x e)
  spared-kept s f k done x e = absurd (false≢true e)
  spared-kept s f k t x e = absurd (false≢true x)

  -- so is one in a member
  spared-kept_among : (s : Seen) (f : Fault) (ts : Strands) → are_spared ts ≡ true → is_some (fault_among s ts) ≡ true
      → IsKept (throw_among s.strand f ts)
  spared-kept_among s f no_strands x e = absurd (false≢true e)
  spared-kept_among s f (strand k t ts) x e =
      kept-member s f k t ts (stands_in s.strand k t) (spared-kept s f k t (and_left (is_spared t) (are_spared ts) x))
      (spared-kept_among s f ts (and_right (is_spared t) (are_spared ts) x)) e

  -- a fault in what no fault ends is kept
  shielded-kept : (s : Seen) (f : Fault) (k : ℕ) (t : Term) → is_shielded t ≡ true → is_some (fault_in s k t) ≡ true
      → IsKept (throw s.strand f k t)
  shielded-kept s f k (in_scope q done h live) x e = absurd (false≢true e)
  shielded-kept s f k (in_scope q t h live) x e = absurd (false≢true x)
  shielded-kept s f k (in_scope q t h (caught g)) x e = absurd (false≢true x)
  shielded-kept s f k (in_scope q t h term) x e =
      kept-below (ready q h k t) (at_scope q h term f) (λ t'. in_scope q t' h term) (throw s.strand f k t)
      (spared-kept (inside s q h) f k t x e)
  shielded-kept s f k (in_scope q t h last) x e =
      kept-at (ready q h k t) (at_scope q h last f) (λ t'. in_scope q t' h last) (throw s.strand f k t) (λ t'. tt)
      (exposed-there (inside s q h) f k t x e)
  shielded-kept s f k (in_scope q t h zombie) x e =
      kept-below (ready q h k t) (at_scope q h zombie f) (λ t'. in_scope q t' h zombie) (throw s.strand f k t)
      (spared-kept (inside s q h) f k t x e)
  shielded-kept s f k (par ts) x e = kept-surrounded par par (throw_among s.strand f ts) (spared-kept_among s f ts x e)
  shielded-kept s f k (prot t) x e = kept-surrounded prot prot (throw s.strand f k t) (shielded-kept s f k t x e)
  shielded-kept s f k done x e = absurd (false≢true e)
  shielded-kept s f k (fail m g t) x e = absurd (false≢true e)
  shielded-kept s f k (dead_wait n port op list) x e = absurd (false≢true e)
  shielded-kept s f k t x e = absurd (false≢true x)

-- no fault is absent
pub no_fault_is_absent : NoFaultIsAbsent
no_fault_is_absent parts service c n g f x e a =
    subst IsThere a (exposed-there (seen_by parts service c n g) f 0 c.form x (ap is_some e))
