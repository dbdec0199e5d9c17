-- Beginning a form, bringing a form to normal form and killing it open no request and close none, and send no call.
use Rattle.std.proofs.Common.{◌≡◌, ℕ, suc, ◌+◌, Bool, true, false, List, [], ◌∷◌, ◌++◌, refl, sym, ap, ◌∙◌}
use Rattle.std.proofs.lemmas.Bool.{false≢true}
use Rattle.behaviour_tree.specs.Data.{Proc, nothing, inner_handler, block, sequence, parallel, scope, Procs, no_procs, proc}
use Rattle.session_calculus.specs.Tables.{Table}
use Rattle.session_calculus.specs.Terms.{Fault, Term, Strands, done, seq, par, in_scope, exec, fail, prot, no_strands, strand, State, live, caught, last, zombie, seq_of, all_done, par_of, prot_of, scope_of}
use Rattle.behaviour_tree.specs.FormedBehaviours.{count_of}
use Rattle.session_calculus.specs.Start.{Begun, begun, start, start_head, start_members, settle, settle_head, settle_members, begin_rest, begin, then_rest, normal, normal_members}
use Rattle.session_calculus.specs.Kill.{kill, kill_members}
use Rattle.session_calculus.specs.Open.{held, held_among, only, none}
use Rattle.session_calculus.specs.Reached.{KillKeepsCalls}

-- nothing is in a list
abbrev is_empty : List ℕ → Bool
is_empty [] = true
is_empty (x ∷ xs) = false

-- two empty lists
pub nil_both : {xs ys : List ℕ} → xs ≡ [] → ys ≡ [] → xs ++ ys ≡ []
nil_both e f = rw (e, f) refl

-- the first of two lists that are empty together
pub nil_left : (xs ys : List ℕ) → xs ++ ys ≡ [] → xs ≡ []
nil_left [] ys e = refl
nil_left (x ∷ xs) ys e = absurd (false≢true (ap is_empty e))

-- the second of two lists that are empty together
pub nil_right : (xs ys : List ℕ) → xs ++ ys ≡ [] → ys ≡ []
nil_right [] ys e = e
nil_right (x ∷ xs) ys e = absurd (false≢true (ap is_empty e))

-- the rests begin where the head is done, and else stay behind it
abbrev pub chosen : Term → Begun Term → Procs → Begun Term
chosen t b ps = elim t [ done ↦ begin_rest ps b.next | _ ↦ begun (seq_of b.form ps) b.next ]

module _ (requests calls : ℕ → List ℕ) where
  -- a sequence holds what its head holds
  pub held-seq_of : (t : Term) (ps : Procs) → held requests calls (seq_of t ps) ≡ held requests calls t
  held-seq_of t no_procs = refl
  held-seq_of t ps = refl

  -- members that are done hold nothing
  pub held-all_done : (ts : Strands) → all_done ts ≡ true → held_among requests calls ts ≡ []
  held-all_done no_strands e = refl
  held-all_done (strand n done ts) e = held-all_done ts e
  held-all_done (strand n t ts) e = absurd (false≢true e)

  -- a parallel holds what its members hold
  pub held-par_of : (ts : Strands) → held requests calls (par_of ts) ≡ held_among requests calls ts
  held-par_of ts = go (all_done ts) refl
    where
      go : (b : Bool) → all_done ts ≡ b
          → held requests calls (elim b [ true ↦ done | false ↦ par ts ]) ≡ held_among requests calls ts
      go true e = sym (held-all_done ts e)
      go false e = refl

  -- what no fault ends any more holds the same
  pub held-prot_of : (t : Term) → held requests calls (prot_of t) ≡ held requests calls t
  held-prot_of done = refl
  held-prot_of (prot t) = refl
  held-prot_of t = refl

  -- a scope holds what its body holds
  pub held-scope_of : (q : ℕ) (t : Term) (h : Table) (u : State) → held requests calls (scope_of q t h u) ≡ held requests calls t
  held-scope_of q done h last = refl
  held-scope_of q done h zombie = refl
  held-scope_of q t h u = refl

  mutual
    -- a form that starts holds nothing
    pub held-start : (p : Proc) (n : ℕ) → held requests calls (start p n).form ≡ []
    held-start nothing n = refl
    held-start inner_handler n = refl
    held-start (block p) n = held-start p n
    held-start (sequence ps) n = held-start_head ps n
    held-start (parallel ps) n = held-start_members ps n (n + count_of ps)
    held-start (scope q p) n = held-start p n
    held-start p n = refl

    -- nor does the head of a sequence that starts
    pub held-start_head : (ps : Procs) (n : ℕ) → held requests calls (start_head ps n).form ≡ []
    held-start_head no_procs n = refl
    held-start_head (proc p ps) n = held-seq_of (start p n).form ps ∙ held-start p n

    -- nor do members that start
    pub held-start_members : (ps : Procs) (k n : ℕ) → held_among requests calls (start_members ps k n).form ≡ []
    held-start_members no_procs k n = refl
    held-start_members (proc p ps) k n = nil_both (held-start p n) (held-start_members ps (suc k) (start p n).next)

  -- neither way of a sequence holds anything
  held-chosen : (t : Term) (b : Begun Term) (ps : Procs) → held requests calls b.form ≡ []
      → ((n : ℕ) → held requests calls (begin_rest ps n).form ≡ []) → held requests calls (chosen t b ps).form ≡ []
  held-chosen done b ps e rests = rests b.next
  held-chosen t b ps e rests = held-seq_of b.form ps ∙ e

  mutual
    -- what has started holds nothing in normal form either
    pub held-settle : (p : Proc) (t : Term) (n : ℕ) → held requests calls t ≡ [] → held requests calls (settle p t n).form ≡ []
    held-settle (block p) t n e = held-settle p t n e
    held-settle (sequence ps) t n e = held-settle_head ps t n e
    held-settle (parallel ps) (par ts) n e = held-par_of (settle_members ps ts n).form ∙ held-settle_members ps ts n e
    held-settle (scope q p) (in_scope r t h u) n e = held-scope_of r (settle p t n).form h u ∙ held-settle p t n e
    held-settle p t n e = e

    -- nor does the head of a sequence with its rests
    pub held-settle_head : (ps : Procs) (t : Term) (n : ℕ) → held requests calls t ≡ []
        → held requests calls (settle_head ps t n).form ≡ []
    held-settle_head (proc p no_procs) t n e = held-settle p t n e
    held-settle_head (proc p ps) (seq t rest) n e =
        held-chosen (settle p t n).form (settle p t n) ps (held-settle p t n e) (held-begin_rest ps)
    held-settle_head ps t n e = e

    -- nor do members
    pub held-settle_members : (ps : Procs) (ts : Strands) (n : ℕ) → held_among requests calls ts ≡ []
        → held_among requests calls (settle_members ps ts n).form ≡ []
    held-settle_members (proc p ps) (strand k t ts) n e =
        nil_both (held-settle p t n (nil_left (held requests calls t) (held_among requests calls ts) e))
        (held-settle_members ps ts (settle p t n).next (nil_right (held requests calls t) (held_among requests calls ts) e))
    held-settle_members ps ts n e = e

    -- nor do rests that begin
    pub held-begin_rest : (ps : Procs) (n : ℕ) → held requests calls (begin_rest ps n).form ≡ []
    held-begin_rest no_procs n = refl
    held-begin_rest (proc p ps) n =
        held-chosen (begin p n).form (begin p n) ps
        (held-settle p (start p n).form (start p n).next (held-start p n)) (held-begin_rest ps)

  -- a form that begins holds nothing
  pub held-begin : (p : Proc) (n : ℕ) → held requests calls (begin p n).form ≡ []
  held-begin p n = held-settle p (start p n).form (start p n).next (held-start p n)

  -- a head with its rests holds what the head holds
  pub held-then_rest : (t : Term) (ps : Procs) (n : ℕ) → held requests calls (then_rest t ps n).form ≡ held requests calls t
  held-then_rest done ps n = held-begin_rest ps n
  held-then_rest t ps n = held-seq_of t ps

  mutual
    -- normal form holds the same
    pub held-normal : (t : Term) (n : ℕ) → held requests calls (normal t n).form ≡ held requests calls t
    held-normal (seq t ps) n = held-then_rest (normal t n).form ps (normal t n).next ∙ held-normal t n
    held-normal (par ts) n = held-par_of (normal_members ts n).form ∙ held-normal_members ts n
    held-normal (in_scope q t h u) n = held-scope_of q (normal t n).form h u ∙ held-normal t n
    held-normal (exec m o y t) n = ap (λ ns. requests m ++ ns) (held-normal t n)
    held-normal (fail m f t) n = ap (λ ns. requests m ++ ns) (held-normal t n)
    held-normal (prot t) n = held-prot_of (normal t n).form ∙ held-normal t n
    held-normal t n = refl

    -- so do members
    pub held-normal_members : (ts : Strands) (n : ℕ) → held_among requests calls (normal_members ts n).form ≡ held_among requests calls ts
    held-normal_members no_strands n = refl
    held-normal_members (strand k t ts) n = rw (held-normal t n, held-normal_members ts (normal t n).next) refl

  mutual
    -- what is killed holds the same
    pub held-kill : (f : Fault) (t : Term) → held requests calls (kill f t) ≡ held requests calls t
    held-kill f (seq t rest) = held-kill f t
    held-kill f (par ts) = held-kill_members f ts
    held-kill f (in_scope q done h live) = refl
    held-kill f (in_scope q t h live) = held-kill f t
    held-kill f (in_scope q t h (caught g)) = held-kill f t
    held-kill f (exec m o y t) = ap (λ ns. requests m ++ ns) (held-kill f t)
    held-kill f t = refl

    -- so do members
    pub held-kill_members : (f : Fault) (ts : Strands) → held_among requests calls (kill_members f ts) ≡ held_among requests calls ts
    held-kill_members f no_strands = refl
    held-kill_members f (strand n t ts) = rw (held-kill f t, held-kill_members f ts) refl

-- a kill keeps the open requests and the waiting calls
pub kill_keeps_calls : KillKeepsCalls
kill_keeps_calls f t = (held-kill only none f t, held-kill none only f t)
