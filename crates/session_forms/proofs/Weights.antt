-- How much a behaviour and a running form may still begin.
use Rattle.std.proofs.Common.{◌≡◌, ℕ, zero, suc, ◌+◌, ◌<◌, ◌≤◌, List, [], ◌∷◌, map, drop, length, get_or, ap, arith}
use Rattle.behaviour_tree.specs.Data.{Proc, block, sequence, parallel, scope, Procs, no_procs, proc}
use Rattle.behaviour_tree.specs.View.{behaviour_view, procs_of}
use Rattle.behaviour_tree.specs.declared.behaviour.Behaviour.{Behaviour}
use Rattle.session_calculus.specs.Terms.{Term, Strands, seq, par, in_scope, exec, fail, prot, no_strands, strand, seq_of}
use Rattle.behaviour_tree.specs.FormedBehaviours.{count_of}
use Rattle.session_calculus.specs.Start.{start, start_head, start_members}
use Rattle.session_forms.specs.View.{strand_view, members_view}
use Rattle.session_forms.specs.declared.term.Strand.{Strand}
use Rattle.session_forms.proofs.Lists.{taken_off, first_unvisited}

abbrev mutual
  -- of a behaviour, those of what it starts and of what begins after that
  pub heft : Proc → ℕ
  heft (block p) = suc (heft p)
  heft (sequence ps) = suc (hefts ps)
  heft (parallel ps) = suc (hefts ps)
  heft (scope q p) = suc (heft p)
  heft p = 1

  -- of behaviours
  pub hefts : Procs → ℕ
  hefts no_procs = 0
  hefts (proc p ps) = 2 + heft p + hefts ps

abbrev mutual
  -- of a running form, that of the rests in it
  pub weight : Term → ℕ
  weight (seq t ps) = 1 + weight t + hefts ps
  weight (par ts) = 1 + weights ts
  weight (in_scope q t h u) = 1 + weight t
  weight (exec m o y t) = 1 + weight t
  weight (fail m f t) = 1 + weight t
  weight (prot t) = 1 + weight t
  weight t = 0

  -- of members
  pub weights : Strands → ℕ
  weights no_strands = 0
  weights (strand n t ts) = 2 + weight t + weights ts

-- a head with rests
weight-seq_of : (t : Term) (ps : Procs) → weight (seq_of t ps) ≤ 1 + weight t + hefts ps
weight-seq_of t no_procs = omega arith
weight-seq_of t (proc p ps) = omega arith

mutual
  -- a form that starts has no more than its behaviour
  pub weight-start : (p : Proc) (n : ℕ) → weight (start p n).form ≤ heft p
  weight-start (block p) n = omega (arith, weight-start p n)
  weight-start (sequence ps) n = omega (arith, weight-start_head ps n)
  weight-start (parallel ps) n = omega (arith, weights-start_members ps n (n + count_of ps))
  weight-start (scope q p) n = omega (arith, weight-start p n)
  weight-start p n = omega arith

  -- nor has a head
  weight-start_head : (ps : Procs) (n : ℕ) → weight (start_head ps n).form ≤ suc (hefts ps)
  weight-start_head no_procs n = omega arith
  weight-start_head (proc p ps) n = omega (arith, weight-start p n, weight-seq_of (start p n).form ps)

  -- nor have members
  weights-start_members : (ps : Procs) (k n : ℕ) → weights (start_members ps k n).form ≤ hefts ps
  weights-start_members no_procs k n = omega arith
  weights-start_members (proc p ps) k n = omega (arith, weight-start p n, weights-start_members ps (suc k) (start p n).next)

-- what is left of a list has no more than the list
hefts-left : (xs : List Behaviour) (i : ℕ) → hefts (procs_of (map behaviour_view (drop i xs))) ≤ hefts (procs_of (map behaviour_view xs))
hefts-left xs zero = omega arith
hefts-left [] (suc i) = omega arith
hefts-left (x ∷ xs) (suc i) = omega (arith, hefts-left xs i)

-- one of a list has less than the list
pub heft-member : (xs : List Behaviour) (i : ℕ) (x : Behaviour) → i < length xs → x ≡ get_or xs i x → 2 + heft (behaviour_view x) ≤ hefts (procs_of (map behaviour_view xs))
heft-member xs i x lt is =
    omega (arith, hefts-left xs i, ap (λ ys. hefts (procs_of (map behaviour_view ys))) (taken_off xs i x lt is))

weights-left : (xs : List Strand) (i : ℕ) → weights (members_view (drop i xs)) ≤ weights (members_view xs)
weights-left xs zero = omega arith
weights-left [] (suc i) = omega arith
weights-left (x ∷ xs) (suc i) = omega (arith, weights-left xs i)

-- the next member to be visited has less than all
pub weight-member : (xs ys : List Strand) (i : ℕ) (x : Strand) → i < length ys → drop i ys ≡ drop i xs → x ≡ get_or ys i x → 2 + weight (strand_view x).form ≤ weights (members_view xs)
weight-member xs ys i x lt h is =
    omega (arith, weights-left xs i, ap (λ zs. weights (members_view zs)) (first_unvisited xs ys i x lt h is))
