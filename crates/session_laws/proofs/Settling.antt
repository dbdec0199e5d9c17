-- What holds of all that begins and of every normal form, from what holds of their parts.
use Rattle.std.proofs.Common.{◌≡◌, ℕ, suc, ◌+◌, Option, refl, sym, subst}
use Rattle.behaviour_tree.specs.Data.{PathTree, Proc, nothing, inner_handler, block, sequence, parallel, scope, Procs, no_procs, proc}
use Rattle.session_calculus.specs.Tables.{Table, empty}
use Rattle.session_calculus.specs.Terms.{Fault, Term, Strands, done, place, thrown, seq, par, in_scope, exec, fail, wait, dead_wait, prot, no_strands, strand, State, live, seq_of, par_of, prot_of, scope_of}
use Rattle.behaviour_tree.specs.FormedBehaviours.{count_of}
use Rattle.session_calculus.specs.Start.{Begun, begun, start, start_head, start_members, settle, settle_head, settle_members, begin_rest, begin, then_rest, normal, normal_members}
use Rattle.session_laws.proofs.Moving.{NotDone}

-- a form that has no form in it
abbrev pub IsLeaf : Term → Type 0
IsLeaf done = Unit {0}
IsLeaf (place p) = Unit {0}
IsLeaf (thrown f) = Unit {0}
IsLeaf (wait k port op x list) = Unit {0}
IsLeaf (dead_wait k port op list) = Unit {0}
IsLeaf t = ⊥

-- the rests begin where the head is done, and else stay behind it
abbrev chosen : Term → Begun Term → Procs → Begun Term
chosen t b ps = elim t [ done ↦ begin_rest ps b.next | _ ↦ begun (seq_of b.form ps) b.next ]

-- P holds of a form, the next strand, and the normal form that they become, Q of members, and R of rests that begin
pub record Settles (P : Term → ℕ → Begun Term → Type 0) (Q : Strands → ℕ → Begun Strands → Type 0)
    (R : Procs → ℕ → Begun Term → Type 0) : Type 0 where
  pub leaf : (t : Term) (n : ℕ) → IsLeaf t → P t n (begun t n)
  -- a head that is done, and its rests begin
  pub goes : (t : Term) (ps : Procs) (n m : ℕ) (b : Begun Term) → P t n (begun done m) → R ps m b → P (seq t ps) n b
  -- a head that is not, and they stay
  pub stays : (t t' : Term) (ps : Procs) (n m : ℕ) → NotDone t' → P t n (begun t' m)
      → P (seq t ps) n (begun (seq_of t' ps) m)
  pub members : (ts : Strands) (n : ℕ) (b : Begun Strands) → Q ts n b → P (par ts) n (begun (par_of b.form) b.next)
  pub body : (q : ℕ) (t : Term) (h : Table) (u : State) (n : ℕ) (b : Begun Term) → P t n b
      → P (in_scope q t h u) n (begun (scope_of q b.form h u) b.next)
  pub asked : (m o : ℕ) (y : Option PathTree) (t : Term) (n : ℕ) (b : Begun Term) → P t n b
      → P (exec m o y t) n (begun (exec m o y b.form) b.next)
  pub failed : (m : ℕ) (f : Fault) (t : Term) (n : ℕ) (b : Begun Term) → P t n b
      → P (fail m f t) n (begun (fail m f b.form) b.next)
  pub kept : (t : Term) (n : ℕ) (b : Begun Term) → P t n b → P (prot t) n (begun (prot_of b.form) b.next)
  pub no_member : (n : ℕ) → Q no_strands n (begun no_strands n)
  pub member : (k : ℕ) (t : Term) (ts : Strands) (n : ℕ) (b : Begun Term) (c : Begun Strands) → P t n b → Q ts b.next c
      → Q (strand k t ts) n (begun (strand k b.form c.form) c.next)
  pub no_rest : (n : ℕ) → R no_procs n (begun done n)
  pub rest_goes : (p : Proc) (ps : Procs) (n m : ℕ) (b : Begun Term)
      → P (start p n).form (start p n).next (begun done m) → R ps m b
      → R (proc p ps) n b
  pub rest_stays : (p : Proc) (ps : Procs) (n m : ℕ) (t : Term) → NotDone t
      → P (start p n).form (start p n).next (begun t m)
      → R (proc p ps) n (begun (seq_of t ps) m)

module _ (P : Term → ℕ → Begun Term → Type 0) (Q : Strands → ℕ → Begun Strands → Type 0)
    (R : Procs → ℕ → Begun Term → Type 0) (settles : Settles P Q R) where
  -- a head with its rests, whichever way it goes
  settles-chosen : (t : Term) (ps : Procs) (n : ℕ) (f : Term) (b : Begun Term) → f ≡ b.form → P t n b
      → ((k : ℕ) → R ps k (begin_rest ps k)) → P (seq t ps) n (chosen f b ps)
  settles-chosen t ps n done b e h rests =
      settles.goes t ps n b.next (begin_rest ps b.next) (subst (λ x. P t n (begun x b.next)) (sym e) h) (rests b.next)
  settles-chosen t ps n f b e h rests = settles.stays t b.form ps n b.next (subst NotDone e tt) h

  -- the same of a normal form
  settles-then : (t : Term) (ps : Procs) (n : ℕ) (f : Term) (m : ℕ) → P t n (begun f m)
      → ((k : ℕ) → R ps k (begin_rest ps k))
      → P (seq t ps) n (then_rest f ps m)
  settles-then t ps n done m h rests = settles.goes t ps n m (begin_rest ps m) h (rests m)
  settles-then t ps n f m h rests = settles.stays t f ps n m tt h

  -- and of rests that begin
  settles-rests : (p : Proc) (ps : Procs) (n : ℕ) (f : Term) (b : Begun Term) → f ≡ b.form
      → P (start p n).form (start p n).next b
      → ((k : ℕ) → R ps k (begin_rest ps k)) → R (proc p ps) n (chosen f b ps)
  settles-rests p ps n done b e h rests =
      settles.rest_goes p ps n b.next (begin_rest ps b.next)
      (subst (λ x. P (start p n).form (start p n).next (begun x b.next)) (sym e) h)
      (rests b.next)
  settles-rests p ps n f b e h rests = settles.rest_stays p ps n b.next b.form (subst NotDone e tt) h

  -- the head of a sequence that started
  settles-head : (p : Proc) (ps : Procs) (m n : ℕ) → P (start p m).form n (settle p (start p m).form n)
      → ((k : ℕ) → R ps k (begin_rest ps k))
      → P (start_head (proc p ps) m).form n (settle_head (proc p ps) (start_head (proc p ps) m).form n)
  settles-head p no_procs m n h rests = h
  settles-head p (proc r ps) m n h rests =
      let b = settle p (start p m).form n in settles-chosen (start p m).form (proc r ps) n b.form b refl h rests

  mutual
    -- of what started
    pub settles-start : (p : Proc) (m n : ℕ) → P (start p m).form n (settle p (start p m).form n)
    settles-start nothing m n = settles.leaf done n tt
    settles-start inner_handler m n = settles.leaf done n tt
    settles-start (block p) m n = settles-start p m n
    settles-start (sequence ps) m n = settles-start_head ps m n
    settles-start (parallel ps) m n =
        let ts = (start_members ps m (m + count_of ps)).form in
        settles.members ts n (settle_members ps ts n) (settles-start_members ps m (m + count_of ps) n)
    settles-start (scope q p) m n =
        settles.body q (start p m).form empty live n (settle p (start p m).form n) (settles-start p m n)
    settles-start p m n = settles.leaf (place p) n tt

    -- of a sequence that started
    settles-start_head : (ps : Procs) (m n : ℕ) → P (start_head ps m).form n (settle_head ps (start_head ps m).form n)
    settles-start_head no_procs m n = settles.leaf done n tt
    settles-start_head (proc p ps) m n = settles-head p ps m n (settles-start p m n) (settles-rest ps)

    -- of members that started
    settles-start_members : (ps : Procs) (k m n : ℕ)
        → Q (start_members ps k m).form n (settle_members ps (start_members ps k m).form n)
    settles-start_members no_procs k m n = settles.no_member n
    settles-start_members (proc p ps) k m n =
        let s = start p m in
        let b = settle p s.form n in
        let ts = (start_members ps (suc k) s.next).form in
        settles.member k s.form ts n b (settle_members ps ts b.next) (settles-start p m n)
        (settles-start_members ps (suc k) s.next b.next)

    -- of rests that begin
    pub settles-rest : (ps : Procs) (n : ℕ) → R ps n (begin_rest ps n)
    settles-rest no_procs n = settles.no_rest n
    settles-rest (proc p ps) n =
        let b = begin p n in settles-rests p ps n b.form b refl (settles-start p n (start p n).next) (settles-rest ps)

  -- of a form that begins
  pub settles-begin : (p : Proc) (n : ℕ) → P (start p n).form (start p n).next (begin p n)
  settles-begin p n = settles-start p n (start p n).next

  mutual
    -- of a normal form
    pub settles-normal : (t : Term) (n : ℕ) → P t n (normal t n)
    settles-normal (seq t ps) n =
        let b = normal t n in settles-then t ps n b.form b.next (settles-normal t n) (settles-rest ps)
    settles-normal (par ts) n = settles.members ts n (normal_members ts n) (settles-normal_members ts n)
    settles-normal (in_scope q t h u) n = settles.body q t h u n (normal t n) (settles-normal t n)
    settles-normal (exec m o y t) n = settles.asked m o y t n (normal t n) (settles-normal t n)
    settles-normal (fail m f t) n = settles.failed m f t n (normal t n) (settles-normal t n)
    settles-normal (prot t) n = settles.kept t n (normal t n) (settles-normal t n)
    settles-normal t n = settles.leaf t n tt

    -- of members
    pub settles-normal_members : (ts : Strands) (n : ℕ) → Q ts n (normal_members ts n)
    settles-normal_members no_strands n = settles.no_member n
    settles-normal_members (strand k t ts) n =
        let b = normal t n in
        settles.member k t ts n b (normal_members ts b.next) (settles-normal t n) (settles-normal_members ts b.next)
