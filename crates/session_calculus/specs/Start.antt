-- How a form begins, and normal form. Starting a form draws its numbers first; then what is done makes way for its
-- rests.
use Rattle.std.specs.Prelude.{ℕ, ◌+◌, suc}
use Rattle.behaviour_tree.specs.Data.{Proc, nothing, inner_handler, block, sequence}
use Rattle.behaviour_tree.specs.Data.{parallel, scope, Procs, no_procs, proc}
use Rattle.behaviour_tree.specs.FormedBehaviours.{count_of}
use Rattle.session_calculus.specs.Tables.{empty}
use Rattle.session_calculus.specs.Terms.{Term, Strands, done, place, seq, par, in_scope, exec, fail, prot}
use Rattle.session_calculus.specs.Terms.{no_strands, strand, live, seq_of, par_of, prot_of, scope_of}

-- a form, or the members of a parallel, that have begun, and the next strand
pub record Begun (A : Type 0) : Type 0 where
  pub form : A
  pub next : ℕ

-- a form with the next strand
abbrev pub begun : {A : Type 0} → A → ℕ → Begun A
begun t n = record { form = t; next = n }

-- what stands around a form that has begun
abbrev pub around : {A B : Type 0} → (A → B) → Begun A → Begun B
around f b = begun (f b.form) b.next

abbrev mutual
  -- the form as it starts where n is the next strand. A sequence starts its head; a parallel draws the numbers of its
  -- members, and then they start
  pub start : Proc → ℕ → Begun Term
  start nothing n = begun done n
  start inner_handler n = begun done n
  start (block p) n = start p n
  start (sequence ps) n = start_head ps n
  start (parallel ps) n = around par (start_members ps n (n + count_of ps))
  start (scope q p) n = around (λ t. in_scope q t empty live) (start p n)
  start p n = begun (place p) n

  -- the head of a sequence starts, and the rests stay
  pub start_head : Procs → ℕ → Begun Term
  start_head no_procs n = begun done n
  start_head (proc p ps) n = let b = start p n in begun (seq_of b.form ps) b.next

  -- the members of a parallel start in order, as the strands from k on
  pub start_members : Procs → ℕ → ℕ → Begun Strands
  start_members no_procs k n = begun no_strands n
  start_members (proc p ps) k n = let b = start p n in around (strand k b.form) (start_members ps (suc k) b.next)

abbrev mutual
  -- the form that p started, brought to normal form
  pub settle : Proc → Term → ℕ → Begun Term
  settle (block p) t n = settle p t n
  settle (sequence ps) t n = settle_head ps t n
  settle (parallel ps) (par ts) n = around par_of (settle_members ps ts n)
  settle (scope q p) (in_scope r t h u) n = around (λ body. scope_of r body h u) (settle p t n)
  settle p t n = begun t n

  -- the sequence that ps started, brought to normal form: where the head is done, the rests begin
  pub settle_head : Procs → Term → ℕ → Begun Term
  settle_head (proc p no_procs) t n = settle p t n
  settle_head (proc p ps) (seq t rest) n =
      let b = settle p t n in
      elim b.form [ done ↦ begin_rest ps b.next | _ ↦ begun (seq_of b.form ps) b.next ]
  settle_head ps t n = begun t n

  -- the members that ps started, brought to normal form from left to right
  pub settle_members : Procs → Strands → ℕ → Begun Strands
  settle_members (proc p ps) (strand k t ts) n =
      let b = settle p t n in around (strand k b.form) (settle_members ps ts b.next)
  settle_members ps ts n = begun ts n

  -- the first of the rests begins, and the next where it is done at once
  pub begin_rest : Procs → ℕ → Begun Term
  begin_rest no_procs n = begun done n
  begin_rest (proc p ps) n =
      let s = start p n in
      let b = settle p s.form s.next in
      elim b.form [ done ↦ begin_rest ps b.next | _ ↦ begun (seq_of b.form ps) b.next ]

-- a form begins, in normal form
abbrev pub begin : Proc → ℕ → Begun Term
begin p n = let s = start p n in settle p s.form s.next

-- a head in normal form and its rests
abbrev pub then_rest : Term → Procs → ℕ → Begun Term
then_rest done ps n = begin_rest ps n
then_rest t ps n = begun (seq_of t ps) n

abbrev mutual
  -- normal form after an event, innermost first
  pub normal : Term → ℕ → Begun Term
  normal (seq t ps) n = let b = normal t n in then_rest b.form ps b.next
  normal (par ts) n = around par_of (normal_members ts n)
  normal (in_scope q t h u) n = around (λ body. scope_of q body h u) (normal t n)
  normal (exec m o y t) n = around (exec m o y) (normal t n)
  normal (fail m f t) n = around (fail m f) (normal t n)
  normal (prot t) n = around prot_of (normal t n)
  normal t n = begun t n

  -- the same of members, from left to right
  pub normal_members : Strands → ℕ → Begun Strands
  normal_members no_strands n = begun no_strands n
  normal_members (strand k t ts) n = let b = normal t n in around (strand k b.form) (normal_members ts b.next)
