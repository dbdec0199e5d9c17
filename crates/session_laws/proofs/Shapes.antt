-- What stands under what: an event keeps what failed, what waits for its handlers alone and what is about to end under
-- protection.
use Rattle.std.proofs.Common.{◌≡◌, ℕ, zero, Bool, true, false, Option, None, Some, nat_eq, refl, sym, ◌∙◌}
use Rattle.std.proofs.lemmas.Bool.{false≢true, and_parts, and_from}
use Rattle.behaviour_tree.specs.declared.words.Given.{Given}
use Rattle.behaviour_tree.specs.declared.words.Given.TheVariants as given
use Rattle.behaviour_tree.specs.Data.{Proc, nothing, bind, choose, repeat, choice, notify, solicit, install, comp, Procs, no_procs, proc, Branches, no_branches, one_way, request, ProgramParts}
use Rattle.session_calculus.specs.Names.{correlation_error}
use Rattle.session_calculus.specs.Tables.{Table, entry, without, or_nothing}
use Rattle.session_calculus.specs.Terms.{Fault, Term, Strands, done, place, thrown, seq, par, in_scope, exec, fail, wait, dead_wait, prot, no_strands, strand, State, live, caught, term, last, zombie, seq_of, all_done, par_of, prot_of, scope_of, stands_in}
use Rattle.session_calculus.specs.Start.{Begun, start, normal}
use Rattle.session_calculus.specs.Kill.{kill, kill_members}
use Rattle.session_calculus.specs.Ready.{ready}
use Rattle.session_calculus.specs.Throw.{Carried, up, caught_at, ended_at, blocked, absent, surrounded, at_live, at_scope, throw, throw_among}
use Rattle.session_calculus.specs.Moves.{Seen, Move, within, instead}
use Rattle.session_calculus.specs.Effects.{Effect, faults, stores, received}
use Rattle.session_calculus.specs.Inputs.{Coming, past, goes_on, asked, comes}
use Rattle.session_calculus.specs.After.{Config, Done, turn_of, moved, moves, raised, finishes, seen_by, after}
use Rattle.session_calculus.specs.Sound.{is_exposed, are_exposed, is_spared, are_spared, is_shielded}
use Rattle.session_laws.proofs.Options.{OnValue, OnValue-if, OnValue-imp}
use Rattle.session_laws.proofs.Moving.{NotDone, coming, Keeps, keeps-moves}
use Rattle.session_laws.proofs.Carrying.{Carries, carries-if, carries-surrounded, carries-reaches}
use Rattle.session_laws.proofs.Settling.{Settles, settles-normal}
use Rattle.session_laws.proofs.Fresh.{fresh-start, fresh-exposed}
use Rattle.session_laws.proofs.Events.{of_event}

-- ---- scopes by their states

-- what no fault ends, by the state of a scope
shielded-term : (q : ℕ) (t : Term) (h : Table) → is_shielded (in_scope q t h term) ≡ is_spared t
shielded-term q done h = refl
shielded-term q t h = refl

-- where the last handler runs
shielded-last : (q : ℕ) (t : Term) (h : Table) → is_shielded (in_scope q t h last) ≡ is_exposed t
shielded-last q done h = refl
shielded-last q t h = refl

-- where a fault left it
shielded-zombie : (q : ℕ) (t : Term) (h : Table) → is_shielded (in_scope q t h zombie) ≡ is_spared t
shielded-zombie q done h = refl
shielded-zombie q t h = refl

-- where it caught a fault
shielded-caught : (q : ℕ) (t : Term) (h : Table) (f : Fault) → is_shielded (in_scope q t h (caught f)) ≡ false
shielded-caught q done h f = refl
shielded-caught q t h f = refl

-- a form that is done
abbrev IsDone : Term → Type 0
IsDone done = Unit {0}
IsDone t = ⊥

-- a live scope is about to end where its body is done
shielded-live : (q : ℕ) (t : Term) (h : Table) → is_shielded (in_scope q t h live) ≡ true → IsDone t
shielded-live q done h e = tt
shielded-live q t h e = absurd (false≢true e)

-- and the other way round
live-shielded : (q : ℕ) (t : Term) (h : Table) → IsDone t → is_shielded (in_scope q t h live) ≡ true
live-shielded q done h d = refl
live-shielded q t h d = absurd d

mutual
  -- what a kill left no fault ends
  spared-shielded : (t : Term) → is_spared t ≡ true → is_shielded t ≡ true
  spared-shielded done e = refl
  spared-shielded (par ts) e = e
  spared-shielded (prot t) e = e
  spared-shielded t e = absurd (false≢true e)

  -- a fault may end it
  spared-exposed : (t : Term) → is_spared t ≡ true → is_exposed t ≡ true
  spared-exposed done e = refl
  spared-exposed (par ts) e = spared-exposed_among ts e
  spared-exposed (prot t) e = e
  spared-exposed t e = absurd (false≢true e)

  -- so it may members
  spared-exposed_among : (ts : Strands) → are_spared ts ≡ true → are_exposed ts ≡ true
  spared-exposed_among no_strands e = refl
  spared-exposed_among (strand n t ts) e =
      let both = and_parts (is_spared t) (are_spared ts) e in
      and_from (is_exposed t) (are_exposed ts) (spared-exposed t both.0) (spared-exposed_among ts both.1)

-- ---- a form in place of another

-- a form stands wherever another may
pub record Replaces (t t' : Term) : Type 0 where
  pub exposed : is_exposed t ≡ true → is_exposed t' ≡ true
  pub spared : is_spared t ≡ true → is_spared t' ≡ true
  pub shielded : is_shielded t ≡ true → is_shielded t' ≡ true

-- the same of members
pub record ReplacesAll (ts ts' : Strands) : Type 0 where
  pub exposed : are_exposed ts ≡ true → are_exposed ts' ≡ true
  pub spared : are_spared ts ≡ true → are_spared ts' ≡ true

-- a form in its own place
replaces-same : (t : Term) → Replaces t t
replaces-same t = record { exposed = λ e. e; spared = λ e. e; shielded = λ e. e }

-- a form that a fault may end
replaces-exposed : (t t' : Term) → is_spared t ≡ false → is_shielded t ≡ false → is_exposed t' ≡ true → Replaces t t'
replaces-exposed t t' s d e = record {
  exposed = λ x. e;
  spared = λ x. absurd (false≢true (sym s ∙ x));
  shielded = λ x. absurd (false≢true (sym d ∙ x));
}

-- a head with its rests
exposed-seq_of : (t : Term) (ps : Procs) → is_exposed t ≡ true → is_exposed (seq_of t ps) ≡ true
exposed-seq_of t no_procs e = e
exposed-seq_of t (proc p ps) e = e

-- a parallel, or nothing
replaces-par_of : (ts ts' : Strands) → ReplacesAll ts ts' → Replaces (par ts) (par_of ts')
replaces-par_of ts ts' r = go (all_done ts')
  where
    go : (b : Bool) → Replaces (par ts) (elim b [ true ↦ done | false ↦ par ts' ])
    go true = record { exposed = λ e. refl; spared = λ e. refl; shielded = λ e. refl }
    go false = record { exposed = r.exposed; spared = r.spared; shielded = r.spared }

-- what no fault ends any more
replaces-prot_of : (t t' : Term) → Replaces t t' → Replaces (prot t) (prot_of t')
replaces-prot_of t done r = record { exposed = λ e. refl; spared = λ e. refl; shielded = λ e. refl }
replaces-prot_of t (prot t') r = record { exposed = r.shielded; spared = r.shielded; shielded = r.shielded }
replaces-prot_of t t' r = record { exposed = r.shielded; spared = r.shielded; shielded = r.shielded }

-- a scope with another body, which is done where the first is
replaces-in_scope : (q : ℕ) (t t' : Term) (h h' : Table) (u : State) → (IsDone t → IsDone t') → Replaces t t'
    → Replaces (in_scope q t h u) (in_scope q t' h' u)
replaces-in_scope q t t' h h' live d r = record {
  exposed = r.exposed;
  spared = λ e. e;
  shielded = λ e. live-shielded q t' h' (d (shielded-live q t h e));
}
replaces-in_scope q t t' h h' (caught f) d r = record {
  exposed = r.spared;
  spared = λ e. e;
  shielded = λ e. absurd (false≢true (sym (shielded-caught q t h f) ∙ e));
}
replaces-in_scope q t t' h h' term d r = record {
  exposed = λ e. e;
  spared = λ e. e;
  shielded = λ e. shielded-term q t' h' ∙ r.spared (sym (shielded-term q t h) ∙ e);
}
replaces-in_scope q t t' h h' last d r = record {
  exposed = λ e. e;
  spared = λ e. e;
  shielded = λ e. shielded-last q t' h' ∙ r.exposed (sym (shielded-last q t h) ∙ e);
}
replaces-in_scope q t t' h h' zombie d r = record {
  exposed = λ e. e;
  spared = λ e. e;
  shielded = λ e. shielded-zombie q t' h' ∙ r.spared (sym (shielded-zombie q t h) ∙ e);
}

-- a scope, or nothing where it is through
replaces-scope_of : (q : ℕ) (t t' : Term) (h : Table) (u : State) → (IsDone t → IsDone t') → Replaces t t'
    → Replaces (in_scope q t h u) (scope_of q t' h u)
replaces-scope_of q t done h last d r = record { exposed = λ e. refl; spared = λ e. refl; shielded = λ e. refl }
replaces-scope_of q t done h zombie d r = record { exposed = λ e. refl; spared = λ e. refl; shielded = λ e. refl }
replaces-scope_of q t done h live d r = replaces-in_scope q t done h h live d r
replaces-scope_of q t done h (caught f) d r = replaces-in_scope q t done h h (caught f) d r
replaces-scope_of q t done h term d r = replaces-in_scope q t done h h term d r
replaces-scope_of q t t' h u d r = replaces-in_scope q t t' h h u d r

-- a member before members
replaces-member : (k : ℕ) (t t' : Term) (ts ts' : Strands) → Replaces t t' → ReplacesAll ts ts'
    → ReplacesAll (strand k t ts) (strand k t' ts')
replaces-member k t t' ts ts' r rs = record {
  exposed = λ e.
      let both = and_parts (is_exposed t) (are_exposed ts) e in
      and_from (is_exposed t') (are_exposed ts') (r.exposed both.0) (rs.exposed both.1);
  spared = λ e.
      let both = and_parts (is_spared t) (are_spared ts) e in
      and_from (is_spared t') (are_spared ts') (r.spared both.0) (rs.spared both.1);
}

-- ---- normal form

-- the normal form of a form stands in its place, and is done where the form is
abbrev Settled : Term → ℕ → Begun Term → Type 0
Settled t n b = Replaces t b.form × (IsDone t → IsDone b.form)

-- the same of members
abbrev SettledAll : Strands → ℕ → Begun Strands → Type 0
SettledAll ts n b = ReplacesAll ts b.form

-- normal form keeps what stands under what
shape-settles : Settles Settled SettledAll (λ ps n b. is_exposed b.form ≡ true)
shape-settles = record {
  leaf = λ t n l. (replaces-same t, λ d. d);
  goes = λ t ps n m b h r. (
    record { exposed = λ e. r; spared = λ e. absurd (false≢true e); shielded = λ e. absurd (false≢true e) },
    λ d. absurd d,
  );
  stays = λ t t' ps n m d h. (
    record {
      exposed = λ e. exposed-seq_of t' ps (h.0.exposed e);
      spared = λ e. absurd (false≢true e);
      shielded = λ e. absurd (false≢true e);
    },
    λ x. absurd x,
  );
  members = λ ts n b h. (replaces-par_of ts b.form h, λ d. absurd d);
  body = λ q t h u n b k. (replaces-scope_of q t b.form h u k.1 k.0, λ d. absurd d);
  asked = λ m o y t n b k. (
    record { exposed = k.0.exposed; spared = λ e. absurd (false≢true e); shielded = λ e. absurd (false≢true e) },
    λ d. absurd d,
  );
  failed = λ m f t n b k. (
    record { exposed = λ e. absurd (false≢true e); spared = λ e. absurd (false≢true e); shielded = k.0.spared },
    λ d. absurd d,
  );
  kept = λ t n b k. (replaces-prot_of t b.form k.0, λ d. absurd d);
  no_member = λ n. record { exposed = λ e. e; spared = λ e. e };
  member = λ k t ts n b c h hs. replaces-member k t b.form ts c.form h.0 hs;
  no_rest = λ n. refl;
  rest_goes = λ p ps n m b h r. r;
  rest_stays = λ p ps n m t d h.
      exposed-seq_of t ps (h.0.exposed (fresh-exposed (start p n).form (fresh-start p n)));
}

-- what a normal form is may stand where the form may
pub replaces-normal : (t : Term) (n : ℕ) → Replaces t (normal t n).form
replaces-normal t n = (settles-normal Settled SettledAll (λ ps n b. is_exposed b.form ≡ true) shape-settles t n).0

-- ---- kill and throw

mutual
  -- of what a fault may end a kill leaves only what is spared
  exposed-kill : (f : Fault) (t : Term) → is_exposed t ≡ true → is_spared (kill f t) ≡ true
  exposed-kill f (seq t rest) e = exposed-kill f t e
  exposed-kill f (par ts) e = exposed-kill_members f ts e
  exposed-kill f (in_scope q done h live) e = refl
  exposed-kill f (in_scope q t h live) e = shielded-term q (kill f t) h ∙ exposed-kill f t e
  exposed-kill f (in_scope q t h (caught g)) e = shielded-term q (kill f t) h ∙ spared-kill f t e
  exposed-kill f (in_scope q t h term) e = absurd (false≢true e)
  exposed-kill f (in_scope q t h last) e = absurd (false≢true e)
  exposed-kill f (in_scope q t h zombie) e = absurd (false≢true e)
  exposed-kill f (exec m o y t) e = exposed-kill f t e
  exposed-kill f (fail m g t) e = absurd (false≢true e)
  exposed-kill f (wait k port op x list) e = refl
  exposed-kill f (dead_wait k port op list) e = refl
  exposed-kill f (prot t) e = e
  exposed-kill f (place p) e = refl
  exposed-kill f (thrown g) e = refl
  exposed-kill f done e = refl

  -- so of members
  exposed-kill_members : (f : Fault) (ts : Strands) → are_exposed ts ≡ true → are_spared (kill_members f ts) ≡ true
  exposed-kill_members f no_strands e = refl
  exposed-kill_members f (strand n t ts) e =
      let both = and_parts (is_exposed t) (are_exposed ts) e in
      and_from (is_spared (kill f t)) (are_spared (kill_members f ts)) (exposed-kill f t both.0)
      (exposed-kill_members f ts both.1)

  -- what is spared stays so
  spared-kill : (f : Fault) (t : Term) → is_spared t ≡ true → is_spared (kill f t) ≡ true
  spared-kill f done e = refl
  spared-kill f (par ts) e = spared-kill_members f ts e
  spared-kill f (prot t) e = e
  spared-kill f t e = absurd (false≢true e)

  -- so do members
  spared-kill_members : (f : Fault) (ts : Strands) → are_spared ts ≡ true → are_spared (kill_members f ts) ≡ true
  spared-kill_members f no_strands e = refl
  spared-kill_members f (strand n t ts) e =
      let both = and_parts (is_spared t) (are_spared ts) e in
      and_from (is_spared (kill f t)) (are_spared (kill_members f ts)) (spared-kill f t both.0)
      (spared-kill_members f ts both.1)

-- a form that a fault may end, one that is spared, and one that no fault ends
abbrev Exposed : Term → Type 0
Exposed t = is_exposed t ≡ true

-- the second
abbrev Spared : Term → Type 0
Spared t = is_spared t ≡ true

-- the third
abbrev Shielded : Term → Type 0
Shielded t = is_shielded t ≡ true

-- of members
abbrev AllExposed : Strands → Type 0
AllExposed ts = are_exposed ts ≡ true

-- the second of members
abbrev AllSpared : Strands → Type 0
AllSpared ts = are_spared ts ≡ true

-- a fault at a live scope
exposed-at_live : (p : Option Proc) (q : ℕ) (h : Table) (f : Fault) (t : Term) → Spared t
    → Carries Spared Exposed (at_live p q h f t)
exposed-at_live None q h f t e = shielded-zombie q t h ∙ e
exposed-at_live (Some p) q h f t e = e

-- whichever member it is
exposed-member : (n : ℕ) (f : Fault) (k : ℕ) (t : Term) (ts : Strands) (b : Bool) → Exposed t → AllExposed ts
    → Carries Spared Exposed (throw n f k t) → Carries AllSpared AllExposed (throw_among n f ts)
    → Carries AllSpared AllExposed
    (elim b [
      | true ↦ surrounded (λ t'. strand k t' (kill_members f ts)) (λ t'. strand k t' ts) (throw n f k t)
      | false ↦ surrounded (strand k (kill f t)) (strand k t) (throw_among n f ts)
    ])
exposed-member n f k t ts true e es here there =
    carries-surrounded Spared Exposed AllSpared AllExposed (λ t'. strand k t' (kill_members f ts))
    (λ t'. strand k t' ts) (throw n f k t)
    (λ t' s. and_from (is_spared t') (are_spared (kill_members f ts)) s (exposed-kill_members f ts es))
    (λ t' x. and_from (is_exposed t') (are_exposed ts) x es) here
exposed-member n f k t ts false e es here there =
    carries-surrounded AllSpared AllExposed AllSpared AllExposed (strand k (kill f t)) (strand k t) (throw_among n f ts)
    (λ ts' s. and_from (is_spared (kill f t)) (are_spared ts') (exposed-kill f t e) s)
    (λ ts' x. and_from (is_exposed t) (are_exposed ts') e x) there

-- the same of what is spared
spared-member : (n : ℕ) (f : Fault) (k : ℕ) (t : Term) (ts : Strands) (b : Bool) → Spared t → AllSpared ts
    → Carries Spared Spared (throw n f k t) → Carries AllSpared AllSpared (throw_among n f ts)
    → Carries AllSpared AllSpared
    (elim b [
      | true ↦ surrounded (λ t'. strand k t' (kill_members f ts)) (λ t'. strand k t' ts) (throw n f k t)
      | false ↦ surrounded (strand k (kill f t)) (strand k t) (throw_among n f ts)
    ])
spared-member n f k t ts true e es here there =
    carries-surrounded Spared Spared AllSpared AllSpared (λ t'. strand k t' (kill_members f ts)) (λ t'. strand k t' ts)
    (throw n f k t)
    (λ t' s. and_from (is_spared t') (are_spared (kill_members f ts)) s (spared-kill_members f ts es))
    (λ t' s. and_from (is_spared t') (are_spared ts) s es) here
spared-member n f k t ts false e es here there =
    carries-surrounded AllSpared AllSpared AllSpared AllSpared (strand k (kill f t)) (strand k t) (throw_among n f ts)
    (λ ts' s. and_from (is_spared (kill f t)) (are_spared ts') (spared-kill f t e) s)
    (λ ts' s. and_from (is_spared t) (are_spared ts') e s) there

mutual
  -- a fault leaves what is spared where it goes on, and what a fault may end where it was kept
  exposed-throw : (n : ℕ) (f : Fault) (k : ℕ) (t : Term) → Exposed t → Carries Spared Exposed (throw n f k t)
  exposed-throw n f k (place p) e = carries-if Spared Exposed (nat_eq n k) (up done) refl
  exposed-throw n f k (thrown g) e = carries-if Spared Exposed (nat_eq n k) (up done) refl
  exposed-throw n f k (seq t rest) e =
      carries-surrounded Spared Exposed Spared Exposed (λ t'. t') (λ t'. seq t' rest) (throw n f k t) (λ t' s. s)
      (λ t' x. x)
      (exposed-throw n f k t e)
  exposed-throw n f k (par ts) e =
      carries-surrounded AllSpared AllExposed Spared Exposed par par (throw_among n f ts) (λ ts' s. s) (λ ts' x. x)
      (exposed-throw_among n f ts e)
  exposed-throw n f k (in_scope q t h live) e =
      carries-reaches Spared Exposed Spared Exposed (ready q h k t) (at_scope q h live f) (λ t'. in_scope q t' h live)
      (throw n f k t)
      (exposed-at_live (entry f.name h.faults) q h f) (λ t' x. x) (exposed-throw n f k t e)
  exposed-throw n f k (in_scope q t h (caught g)) e =
      carries-reaches Spared Spared Spared Exposed (ready q h k t) (at_scope q h (caught g) f)
      (λ t'. in_scope q t' h (caught g))
      (throw n f k t) (λ t' s. tt) (λ t' s. s) (spared-throw n f k t e)
  exposed-throw n f k (in_scope q t h term) e = absurd (false≢true e)
  exposed-throw n f k (in_scope q t h last) e = absurd (false≢true e)
  exposed-throw n f k (in_scope q t h zombie) e = absurd (false≢true e)
  exposed-throw n f k (exec m o y t) e =
      carries-surrounded Spared Exposed Spared Exposed (λ t'. prot (fail m f t')) (exec m o y) (throw n f k t)
      (λ t' s. s) (λ t' x. x)
      (exposed-throw n f k t e)
  exposed-throw n f k (prot t) e =
      carries-surrounded Shielded Shielded Spared Exposed prot prot (throw n f k t) (λ t' s. s) (λ t' s. s)
      (shielded-throw n f k t e)
  exposed-throw n f k t e = tt

  -- so in members
  exposed-throw_among : (n : ℕ) (f : Fault) (ts : Strands) → AllExposed ts
      → Carries AllSpared AllExposed (throw_among n f ts)
  exposed-throw_among n f no_strands e = tt
  exposed-throw_among n f (strand k t ts) e =
      let both = and_parts (is_exposed t) (are_exposed ts) e in
      exposed-member n f k t ts (stands_in n k t) both.0 both.1 (exposed-throw n f k t both.0)
      (exposed-throw_among n f ts both.1)

  -- what is spared stays so
  spared-throw : (n : ℕ) (f : Fault) (k : ℕ) (t : Term) → Spared t → Carries Spared Spared (throw n f k t)
  spared-throw n f k (par ts) e =
      carries-surrounded AllSpared AllSpared Spared Spared par par (throw_among n f ts) (λ ts' s. s) (λ ts' s. s)
      (spared-throw_among n f ts e)
  spared-throw n f k (prot t) e =
      carries-surrounded Shielded Shielded Spared Spared prot prot (throw n f k t) (λ t' s. s) (λ t' s. s)
      (shielded-throw n f k t e)
  spared-throw n f k done e = tt
  spared-throw n f k t e = absurd (false≢true e)

  -- so in members
  spared-throw_among : (n : ℕ) (f : Fault) (ts : Strands) → AllSpared ts
      → Carries AllSpared AllSpared (throw_among n f ts)
  spared-throw_among n f no_strands e = tt
  spared-throw_among n f (strand k t ts) e =
      let both = and_parts (is_spared t) (are_spared ts) e in
      spared-member n f k t ts (stands_in n k t) both.0 both.1 (spared-throw n f k t both.0)
      (spared-throw_among n f ts both.1)

  -- what no fault ends stays so
  shielded-throw : (n : ℕ) (f : Fault) (k : ℕ) (t : Term) → Shielded t → Carries Shielded Shielded (throw n f k t)
  shielded-throw n f k (in_scope q done h live) e = tt
  shielded-throw n f k (in_scope q t h live) e = absurd (false≢true e)
  shielded-throw n f k (in_scope q t h (caught g)) e = absurd (false≢true e)
  shielded-throw n f k (in_scope q t h term) e =
      carries-reaches Spared Spared Shielded Shielded (ready q h k t) (at_scope q h term f) (λ t'. in_scope q t' h term)
      (throw n f k t)
      (λ t' s. tt) (λ t' s. shielded-term q t' h ∙ s) (spared-throw n f k t e)
  shielded-throw n f k (in_scope q t h last) e =
      carries-reaches Spared Exposed Shielded Shielded (ready q h k t) (at_scope q h last f)
      (λ t'. in_scope q t' h last) (throw n f k t)
      (λ t' s. shielded-zombie q t' h ∙ s) (λ t' x. shielded-last q t' h ∙ x) (exposed-throw n f k t e)
  shielded-throw n f k (in_scope q t h zombie) e =
      carries-reaches Spared Spared Shielded Shielded (ready q h k t) (at_scope q h zombie f)
      (λ t'. in_scope q t' h zombie) (throw n f k t)
      (λ t' s. tt) (λ t' s. shielded-zombie q t' h ∙ s) (spared-throw n f k t e)
  shielded-throw n f k (par ts) e =
      carries-surrounded AllSpared AllSpared Shielded Shielded par par (throw_among n f ts) (λ ts' s. s) (λ ts' s. s)
      (spared-throw_among n f ts e)
  shielded-throw n f k (prot t) e =
      carries-surrounded Shielded Shielded Shielded Shielded prot prot (throw n f k t) (λ t' s. s) (λ t' s. s)
      (shielded-throw n f k t e)
  shielded-throw n f k (place p) e = absurd (false≢true e)
  shielded-throw n f k (thrown g) e = absurd (false≢true e)
  shielded-throw n f k (seq t rest) e = absurd (false≢true e)
  shielded-throw n f k (exec m o y t) e = absurd (false≢true e)
  shielded-throw n f k t e = tt

-- ---- moves

-- a move leaves a form in place of another
abbrev MovesShape : Seen → ℕ → Term → Move Term → Type 0
MovesShape s k t m = Replaces t m.form

-- the same of members
abbrev MovesShapes : Seen → Strands → Move Strands → Type 0
MovesShapes s ts m = ReplacesAll ts m.form

-- a form that acts, and what starts in its place
acts-shape : (p : Proc) (t : Term) → is_exposed t ≡ true → Replaces (place p) t
acts-shape p t e = replaces-exposed (place p) t refl refl e

-- a behaviour that starts
starts-shape : (p r : Proc) (n : ℕ) → Replaces (place p) (start r n).form
starts-shape p r n = acts-shape p (start r n).form (fresh-exposed (start r n).form (fresh-start r n))

-- a message that came
exposed-goes_on : (s : Seen) (m : Coming) (p : Proc) (e : Effect) → is_exposed (goes_on s m p e).form ≡ true
exposed-goes_on s m p (faults f) = refl
exposed-goes_on s m p (stores x) = fresh-exposed (start p s.next).form (fresh-start p s.next)

-- a message that comes to branches
exposed-comes : (s : Seen) (m : Coming) (bs : Branches) → OnValue (λ x. is_exposed x.form ≡ true) (comes s m bs)
exposed-comes s m no_branches = tt
exposed-comes s m (one_way o x p bs) =
    OnValue-if (nat_eq o m.op) (λ z. is_exposed z.form ≡ true) (Some (goes_on s m p (received s.store x m.value)))
    (comes s (past m) bs)
    (exposed-goes_on s m p (received s.store x m.value)) (exposed-comes s (past m) bs)
exposed-comes s m (request o x y body p bs) =
    OnValue-if (nat_eq o m.op) (λ z. is_exposed z.form ≡ true)
    (Some (within (asked m y p) (goes_on s m body (received s.store x m.value)))) (comes s (past m) bs)
    (exposed-goes_on s m body (received s.store x m.value)) (exposed-comes s (past m) bs)

-- a body that is not done
not_done : (t t' : Term) → NotDone t → IsDone t → IsDone t'
not_done done t' n d = absurd n
not_done t t' n d = absurd d

-- every move keeps what stands under what
shape-keeps : Keeps MovesShape MovesShapes
shape-keeps = record {
  store = λ s k p x w a. acts-shape p done refl;
  first = λ s k e p q a. starts-shape (choose e p q) p s.next;
  second = λ s k e p q a. starts-shape (choose e p q) q s.next;
  turn = λ s k e p a. starts-shape (repeat e p) (turn_of e p) s.next;
  leave = λ s k e p a. starts-shape (repeat e p) nothing s.next;
  installed = λ s k list a. acts-shape (install list) done refl;
  compensated = λ s k r a. starts-shape (comp r) (or_nothing (entry r s.table.scopes)) s.next;
  came = λ s k bs m o v own e.
      OnValue-imp (λ x. is_exposed x.form ≡ true) (MovesShape s k (place (choice bs))) (comes s (coming m o v bs) bs)
      (λ x h. acts-shape (choice bs) x.form h) (exposed-comes s (coming m o v bs) bs);
  notified = λ s k port op e v a eq. acts-shape (notify port op e) done refl;
  solicited = λ s k port op e x list v a eq. acts-shape (solicit port op e x list) (wait s.call port op x list) refl;
  bound = λ s k v e r own eq. acts-shape (bind v e) done refl;
  unbound = λ s k v e r own eq. acts-shape (bind v e) (instead correlation_error) refl;
  answer_faults = λ s k n port op x list f own. replaces-exposed (wait n port op x list) (thrown f) refl refl refl;
  answer_overflows = λ s k n port op x list f own fit.
      replaces-exposed (wait n port op x list) (thrown f) refl refl refl;
  answer_sets = λ s k n port op x list y own fit. replaces-exposed (wait n port op x list) done refl refl refl;
  dead_installs = λ s k n port op list own fit.
      record { exposed = λ e. refl; spared = λ e. refl; shielded = λ e. refl };
  dead_ends = λ s k n port op list own. record { exposed = λ e. refl; spared = λ e. refl; shielded = λ e. refl };
  ended = λ s k q h a. record { exposed = λ e. refl; spared = λ e. refl; shielded = λ e. refl };
  handled = λ s k q h f a.
      let p = or_nothing (entry f.name h.faults) in
      replaces-exposed (in_scope q done h (caught f)) _ refl refl
      (fresh-exposed (start p s.next).form (fresh-start p s.next));
  terminated = λ s k q h a.
      let p = or_nothing (entry q h.scopes) in
      record {
        exposed = λ e. absurd (false≢true e);
        spared = λ e. absurd (false≢true e);
        shielded = λ e. shielded-last q (start p s.next).form (record h { scopes = without q h.scopes })
            ∙ fresh-exposed (start p s.next).form (fresh-start p s.next);
      };
  replied = λ s k m o y a. replaces-exposed (exec m o y done) done refl refl refl;
  told = λ s k m f t a.
      record {
        exposed = λ e. absurd (false≢true e);
        spared = λ e. absurd (false≢true e);
        shielded = λ e.
            spared-shielded t e;
      };
  in_head = λ s k t rest m r.
      record { exposed = r.exposed; spared = λ e. absurd (false≢true e); shielded = λ e. absurd (false≢true e) };
  in_members = λ s k ts m r. record { exposed = r.exposed; spared = r.spared; shielded = r.spared };
  in_body = λ s k q t h u m n r. replaces-in_scope q t m.form h m.made.table u (not_done t m.form n) r;
  in_request = λ s k n o y t m d r.
      record { exposed = r.exposed; spared = λ e. absurd (false≢true e); shielded = λ e. absurd (false≢true e) };
  in_prot = λ s k t m r. record { exposed = r.shielded; spared = r.shielded; shielded = r.shielded };
  in_member = λ s k t ts m e r.
      replaces-member k t m.form ts ts r (record { exposed = λ x. x; spared = λ x. x });
  in_others = λ s k t ts m e r. replaces-member k t t ts m.form (replaces-same t) r;
}

-- ---- an event

-- a fault that was carried
exposed-raised : (c : Config) (n f : ℕ) (x : Carried Term) → Carries Spared Exposed x
    → OnValue (λ d. is_exposed d.config.form ≡ true) (raised c n f x)
exposed-raised c n f (up t) h = (replaces-normal t c.next).exposed (spared-exposed t h)
exposed-raised c n f (caught_at t q) h = (replaces-normal t c.next).exposed h
exposed-raised c n f (ended_at t q) h = (replaces-normal t c.next).exposed h
exposed-raised c n f (blocked m) h = tt
exposed-raised c n f absent h = tt

-- the last event
exposed-finishes : (c : Config) (n : ℕ) (g : Given) → is_exposed c.form ≡ true
    → OnValue (λ d. is_exposed d.config.form ≡ true) (finishes c n g)
exposed-finishes c zero given.Nothing e = e
exposed-finishes c n g e = tt

-- an event keeps what stands under what
pub exposed-after : (parts : ProgramParts) (service : ℕ) (c : Config) (n : ℕ) (g : Given) (d : Done)
    → is_exposed c.form ≡ true
    → after parts service c n g ≡ Some d → is_exposed d.config.form ≡ true
exposed-after parts service c n g d x =
    let s = seen_by parts service c n g in
    of_event (λ d. is_exposed d.config.form ≡ true) parts service c n g (λ ended finished. exposed-finishes c n g x)
    (λ f going e there. exposed-raised c n f.name (throw n f 0 c.form) (exposed-throw n f 0 c.form x))
    (λ going none. OnValue-imp (MovesShape s 0 c.form) (λ m. is_exposed (moved c m).config.form ≡ true)
    (moves s 0 c.form)
    (λ m r. (replaces-normal m.form m.made.next).exposed (r.exposed x))
    (keeps-moves MovesShape MovesShapes shape-keeps s 0 c.form)) d
