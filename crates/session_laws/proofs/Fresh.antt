-- What begins: it has live scopes without handlers, and no request, no call and no kill in it.
use Rattle.std.proofs.Common.{◌≡◌, ℕ, suc, ◌+◌, Bool, true, false, List, [], ◌++◌, refl}
use Rattle.std.proofs.lemmas.Bool.{and_from}
use Rattle.behaviour_tree.specs.Data.{Proc, nothing, inner_handler, block, sequence, parallel, scope, Procs, no_procs, proc}
use Rattle.session_calculus.specs.Tables.{Table, empty}
use Rattle.session_calculus.specs.Terms.{Term, Strands, done, place, seq, par, in_scope, no_strands, strand, State, live, seq_of, all_done, par_of, scope_of}
use Rattle.behaviour_tree.specs.FormedBehaviours.{count_of}
use Rattle.session_calculus.specs.Start.{start, start_head, start_members, begin}
use Rattle.session_calculus.specs.Open.{held, held_among}
use Rattle.session_calculus.specs.Sound.{is_exposed, are_exposed}
use Rattle.session_laws.proofs.Settling.{Settles, settles-begin}

abbrev mutual
  -- a form that has just begun
  pub IsFresh : Term → Type 0
  IsFresh done = Unit {0}
  IsFresh (place p) = Unit {0}
  IsFresh (seq t rest) = IsFresh t
  IsFresh (par ts) = AreFresh ts
  IsFresh (in_scope q t h live) = (h ≡ empty) × IsFresh t
  IsFresh t = ⊥

  -- the same of members
  pub AreFresh : Strands → Type 0
  AreFresh no_strands = Unit {0}
  AreFresh (strand n t ts) = IsFresh t × AreFresh ts

-- a head with its rests
fresh-seq_of : (t : Term) (ps : Procs) → IsFresh t → IsFresh (seq_of t ps)
fresh-seq_of t no_procs h = h
fresh-seq_of t (proc p ps) h = h

-- a parallel, or nothing
fresh-par_of : (ts : Strands) → AreFresh ts → IsFresh (par_of ts)
fresh-par_of ts h = go (all_done ts)
  where
    go : (b : Bool) → IsFresh (elim b [ true ↦ done | false ↦ par ts ])
    go true = tt
    go false = h

-- a scope that is live stands
fresh-scope_of : (q : ℕ) (t : Term) (h : Table) → (h ≡ empty) × IsFresh t → IsFresh (scope_of q t h live)
fresh-scope_of q done h k = k
fresh-scope_of q t h k = k

mutual
  -- what starts is fresh
  pub fresh-start : (p : Proc) (n : ℕ) → IsFresh (start p n).form
  fresh-start nothing n = tt
  fresh-start inner_handler n = tt
  fresh-start (block p) n = fresh-start p n
  fresh-start (sequence ps) n = fresh-start_head ps n
  fresh-start (parallel ps) n = fresh-start_members ps n (n + count_of ps)
  fresh-start (scope q p) n = (refl, fresh-start p n)
  fresh-start p n = tt

  -- so is the head of a sequence
  fresh-start_head : (ps : Procs) (n : ℕ) → IsFresh (start_head ps n).form
  fresh-start_head no_procs n = tt
  fresh-start_head (proc p ps) n = fresh-seq_of (start p n).form ps (fresh-start p n)

  -- so are members
  fresh-start_members : (ps : Procs) (k n : ℕ) → AreFresh (start_members ps k n).form
  fresh-start_members no_procs k n = tt
  fresh-start_members (proc p ps) k n = (fresh-start p n, fresh-start_members ps (suc k) (start p n).next)

-- a scope that was fresh
fresh-body : (q : ℕ) (t t' : Term) (h : Table) (u : State) → (IsFresh t → IsFresh t') → IsFresh (in_scope q t h u)
    → IsFresh (scope_of q t' h u)
fresh-body q t t' h live k f = fresh-scope_of q t' h (f.0, k f.1)
fresh-body q t t' h u k f = absurd f

-- normal form keeps what is fresh
fresh-settles : Settles (λ t n b. IsFresh t → IsFresh b.form) (λ ts n b. AreFresh ts → AreFresh b.form)
    (λ ps n b. IsFresh b.form)
fresh-settles = record {
  leaf = λ t n l h. h;
  goes = λ t ps n m b h r f. r;
  stays = λ t t' ps n m d h f. fresh-seq_of t' ps (h f);
  members = λ ts n b h f. fresh-par_of b.form (h f);
  body = λ q t h u n b k f. fresh-body q t b.form h u k f;
  asked = λ m o y t n b h f. absurd f;
  failed = λ m x t n b h f. absurd f;
  kept = λ t n b h f. absurd f;
  no_member = λ n f. tt;
  member = λ k t ts n b c h hs f. (h f.0, hs f.1);
  no_rest = λ n. tt;
  rest_goes = λ p ps n m b h r. r;
  rest_stays = λ p ps n m t d h. fresh-seq_of t ps (h (fresh-start p n));
}

-- what begins is fresh
pub fresh-begin : (p : Proc) (n : ℕ) → IsFresh (begin p n).form
fresh-begin p n =
    settles-begin (λ t n b. IsFresh t → IsFresh b.form) (λ ts n b. AreFresh ts → AreFresh b.form)
    (λ ps n b. IsFresh b.form) fresh-settles
    p n (fresh-start p n)

-- ---- what is fresh

mutual
  -- a fault may end it
  pub fresh-exposed : (t : Term) → IsFresh t → is_exposed t ≡ true
  fresh-exposed done h = refl
  fresh-exposed (place p) h = refl
  fresh-exposed (seq t rest) h = fresh-exposed t h
  fresh-exposed (par ts) h = fresh-exposed_among ts h
  fresh-exposed (in_scope q t x live) h = fresh-exposed t h.1
  fresh-exposed t h = absurd h

  -- so it may members
  fresh-exposed_among : (ts : Strands) → AreFresh ts → are_exposed ts ≡ true
  fresh-exposed_among no_strands h = refl
  fresh-exposed_among (strand n t ts) h =
      and_from (is_exposed t) (are_exposed ts) (fresh-exposed t h.0) (fresh-exposed_among ts h.1)

-- two empty lists
nil_both : {xs ys : List ℕ} → xs ≡ [] → ys ≡ [] → xs ++ ys ≡ []
nil_both e f = rw (e, f) refl

module _ (requests calls : ℕ → List ℕ) where
  mutual
    -- it holds no request and no call
    pub fresh-held : (t : Term) → IsFresh t → held requests calls t ≡ []
    fresh-held done h = refl
    fresh-held (place p) h = refl
    fresh-held (seq t rest) h = fresh-held t h
    fresh-held (par ts) h = fresh-held_among ts h
    fresh-held (in_scope q t x live) h = fresh-held t h.1
    fresh-held t h = absurd h

    -- nor do members
    fresh-held_among : (ts : Strands) → AreFresh ts → held_among requests calls ts ≡ []
    fresh-held_among no_strands h = refl
    fresh-held_among (strand n t ts) h = nil_both (fresh-held t h.0) (fresh-held_among ts h.1)
