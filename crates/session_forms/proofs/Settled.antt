-- What a behaviour started is brought to normal form as any form is.
use Rattle.std.proofs.Common.{◌≡◌, ℕ, suc, ◌+◌, refl, sym, ap, ◌∙◌}
use Rattle.behaviour_tree.specs.Data.{Proc, block, sequence, parallel, scope, Procs, no_procs, proc}
use Rattle.session_calculus.specs.Tables.{empty}
use Rattle.session_calculus.specs.Terms.{Term, Strands, done, strand, live, seq_of, par_of, scope_of}
use Rattle.behaviour_tree.specs.FormedBehaviours.{count_of}
use Rattle.session_calculus.specs.Start.{Begun, begun, around, start, start_head, start_members, settle, settle_head, settle_members, begin_rest, begin, then_rest, normal, normal_members}

-- what goes on after a head
abbrev pub goes_on : Procs → Begun Term → Begun Term
goes_on ps b = elim b.form [ done ↦ begin_rest ps b.next | _ ↦ begun (seq_of b.form ps) b.next ]

-- a head in normal form and its rests
pub goes_on-then_rest : (ps : Procs) (t : Term) (n : ℕ) → goes_on ps (begun t n) ≡ then_rest t ps n
goes_on-then_rest ps done n = refl
goes_on-then_rest ps t n = refl

-- a head in normal form and its rests, as one
abbrev then_of : Procs → Begun Term → Begun Term
then_of ps b = then_rest b.form ps b.next

-- a member in normal form, and then the others
abbrev member_of : ℕ → (ℕ → Begun Strands) → Begun Term → Begun Strands
member_of k others b = around (strand k b.form) (others b.next)

mutual
  -- a form that started
  pub settle-normal : (p : Proc) (n m : ℕ) → settle p (start p n).form m ≡ normal (start p n).form m
  settle-normal (block p) n m = settle-normal p n m
  settle-normal (sequence ps) n m = settle_head-normal ps n m
  settle-normal (parallel ps) n m = ap (around par_of) (settle_members-normal ps n (n + count_of ps) m)
  settle-normal (scope q p) n m = ap (around (λ body. scope_of q body empty live)) (settle-normal p n m)
  settle-normal p n m = refl

  -- a head that started
  pub settle_head-normal : (ps : Procs) (n m : ℕ) → settle_head ps (start_head ps n).form m ≡ normal (start_head ps n).form m
  settle_head-normal no_procs n m = refl
  settle_head-normal (proc p no_procs) n m = settle-normal p n m
  settle_head-normal (proc p (proc q ps)) n m =
      goes_on-then_rest (proc q ps) (settle p (start p n).form m).form (settle p (start p n).form m).next ∙ ap (then_of (proc q ps)) (settle-normal p n m)

  -- members that started
  pub settle_members-normal : (ps : Procs) (k n m : ℕ) → settle_members ps (start_members ps k n).form m ≡ normal_members (start_members ps k n).form m
  settle_members-normal no_procs k n m = refl
  settle_members-normal (proc p ps) k n m =
      ap (member_of k (settle_members ps (start_members ps (suc k) (start p n).next).form)) (settle-normal p n m)
      ∙ ap (around (strand k (normal (start p n).form m).form)) (settle_members-normal ps (suc k) (start p n).next (normal (start p n).form m).next)

-- a form begins in normal form
pub begin-normal : (p : Proc) (n : ℕ) → normal (start p n).form (start p n).next ≡ begin p n
begin-normal p n = sym (settle-normal p n (start p n).next)
