-- The running forms of a behaviour, and which strand stands in which of them.
use Rattle.std.specs.Prelude.{ℕ, Bool, true, false, ◌||◌, nat_eq, Option}
use Rattle.jolie_trees.specs.Data.{Tree}
use Rattle.jolie_trees.specs.Trees.{void_tree}
use Rattle.behaviour_tree.specs.Data.{PathTree, Proc, Procs, no_procs, HandlerList}
use Rattle.session_calculus.specs.Tables.{Table}

-- a fault: its name and its value
pub record Fault : Type 0 where
  pub name : ℕ
  pub value : Tree

-- a fault whose value is void
abbrev pub bare : ℕ → Fault
bare f = record { name = f; value = void_tree }

-- the state of a scope: its body runs; a fault came that it has a handler for; it was killed, and its termination
-- handler is to run; its last handler runs; or a fault left it
pub data State : Type 0 where
  live : State
  caught : Fault → State
  term : State
  last : State
  zombie : State

mutual
  -- what runs in a strand
  pub data Term : Type 0 where
    -- nothing is left
    done : Term
    -- a form that acts
    place : Proc → Term
    -- a fault that is there to be thrown
    thrown : Fault → Term
    -- a head and the forms that begin after it
    seq : Term → Procs → Term
    -- members beside each other, each in a strand of its own
    par : Strands → Term
    -- a scope with its name, its body, its handlers and its state
    in_scope : ℕ → Term → Table → State → Term
    -- the body of a request: its message, its operation and the path of its reply
    exec : ℕ → ℕ → Option PathTree → Term → Term
    -- a request whose body was ended by a fault: its message, the fault, and what goes on once that is told
    fail : ℕ → Fault → Term → Term
    -- a call that waits for its answer: its number, its port and operation, where the answer goes, and its handlers
    wait : ℕ → ℕ → ℕ → Option PathTree → HandlerList → Term
    -- such a call after a kill: only its handlers are still wanted
    dead_wait : ℕ → ℕ → ℕ → HandlerList → Term
    -- what no fault ends any more
    prot : Term → Term

  -- the members of a parallel: their strands, and what runs in each
  pub data Strands : Type 0 where
    no_strands : Strands
    strand : ℕ → Term → Strands → Strands

-- ---- normal form, of parts in normal form

-- the sequence of a head and its rests; without a rest it is the head
abbrev pub seq_of : Term → Procs → Term
seq_of t no_procs = t
seq_of t ps = seq t ps

-- each member is done
abbrev pub all_done : Strands → Bool
all_done no_strands = true
all_done (strand n done ts) = all_done ts
all_done ts = false

-- a parallel, of which nothing is left once each member is done
abbrev pub par_of : Strands → Term
par_of ts = elim (all_done ts) [ true ↦ done | false ↦ par ts ]

-- what no fault ends any more
abbrev pub prot_of : Term → Term
prot_of done = done
prot_of (prot t) = prot t
prot_of t = prot t

-- a scope: one that is through leaves nothing
abbrev pub scope_of : ℕ → Term → Table → State → Term
scope_of q done h last = done
scope_of q done h zombie = done
scope_of q t h u = in_scope q t h u

-- ---- where a strand stands

abbrev mutual
  -- strand n is a member of a parallel in the form
  pub is_within : ℕ → Term → Bool
  is_within n (seq t rest) = is_within n t
  is_within n (par ts) = is_among n ts
  is_within n (in_scope q t h u) = is_within n t
  is_within n (exec m o y t) = is_within n t
  is_within n (fail m f t) = is_within n t
  is_within n (prot t) = is_within n t
  is_within n t = false

  -- strand n is one of the members, or stands in one of them
  pub is_among : ℕ → Strands → Bool
  is_among n no_strands = false
  is_among n (strand k t ts) = nat_eq n k || is_within n t || is_among n ts

-- strand n stands in a form that runs in strand k. By this test alone every walk through a parallel chooses its member
abbrev pub stands_in : ℕ → ℕ → Term → Bool
stands_in n k t = nat_eq n k || is_within n t
