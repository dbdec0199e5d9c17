-- These definitions serve the proofs alone: no promise speaks of them.
-- What the strand that acts asks of the office for its event, said without what the office gives.
use Rattle.std.specs.Prelude.{ℕ, zero, Option, None, Some, if◌then◌else◌, nat_eq, true, false}
use Rattle.behaviour_tree.specs.declared.words.Need.{Need}
use Rattle.behaviour_tree.specs.declared.words.Need.TheVariants as need
use Rattle.behaviour_tree.specs.declared.words.Given.TheVariants as given
use Rattle.behaviour_tree.specs.Data.{ProgramParts}
use Rattle.session_calculus.specs.Terms.{Fault, Term, Strands, done, place, seq, par, in_scope, exec, fail, wait, dead_wait}
use Rattle.session_calculus.specs.Terms.{prot, no_strands, strand, State, live, caught, term, stands_in}
use Rattle.session_calculus.specs.Throw.{Carried, up, caught_at, ended_at, throw}
use Rattle.session_calculus.specs.Moves.{Seen, inside}
use Rattle.session_calculus.specs.Faults.{fault_in}
use Rattle.session_calculus.specs.Replies.{outcome_of_fault, reply_of}
use Rattle.session_calculus.specs.After.{Config, is_finished, seen_by}
use Rattle.session_events.specs.Asked.{asked}

-- a scope whose body is done asks nothing; one that is through, or that a fault left, has no event
abbrev pub asked_of_scope : State → Option Need
asked_of_scope live = Some need.Nothing
asked_of_scope (caught f) = Some need.Nothing
asked_of_scope term = Some need.Nothing
asked_of_scope u = None

-- that strand alone asks it
abbrev pub asked_alone : Seen → ℕ → Option Need → Option Need
asked_alone s k o = if nat_eq s.strand k then o else None

abbrev mutual
  -- what the strand that acts asks, in a form without a fault that runs in strand k
  pub asked_in : Seen → ℕ → Term → Option Need
  asked_in s k (place p) = asked_alone s k (asked s p)
  asked_in s k (seq t rest) = asked_in s k t
  asked_in s k (par ts) = asked_among s ts
  asked_in s k (in_scope q done h u) = asked_alone s k (asked_of_scope u)
  asked_in s k (in_scope q t h u) = asked_in (inside s q h) k t
  asked_in s k (exec m o y done) = asked_alone s k (Some (need.Reply m (reply_of s o y)))
  asked_in s k (exec m o y t) = asked_in s k t
  asked_in s k (fail m f t) = asked_alone s k (Some (need.Reply m (outcome_of_fault s.parts f)))
  asked_in s k (wait n port op x list) = asked_alone s k (Some (need.Answer n))
  asked_in s k (dead_wait n port op list) = asked_alone s k (Some (need.Answer n))
  asked_in s k (prot t) = asked_in s k t
  asked_in s k t = None

  -- the same in the member that the strand stands in
  pub asked_among : Seen → Strands → Option Need
  asked_among s no_strands = None
  asked_among s (strand k t ts) = elim (stands_in s.strand k t) [ true ↦ asked_in s k t | false ↦ asked_among s ts ]

-- a fault that a scope keeps, or that goes above all of them, asks nothing; one that is blocked has no event
abbrev pub asked_by_throw : {A : Type 0} → Carried A → Option Need
asked_by_throw (up t) = Some need.Nothing
asked_by_throw (caught_at t q) = Some need.Nothing
asked_by_throw (ended_at t q) = Some need.Nothing
asked_by_throw c = None

-- strand 0 finishes a session that has nothing left to do
abbrev pub asked_at_end : ℕ → Option Need
asked_at_end zero = Some need.Finish
asked_at_end n = None

-- what a strand asks, by the fault that it has
abbrev pub asked_with : Seen → Term → Option Fault → Option Need
asked_with s t (Some f) = asked_by_throw (throw s.strand f 0 t)
asked_with s t None = asked_in s 0 t

-- what strand n of a configuration asks of the office for its event, or none where it has no event
abbrev pub needed : ProgramParts → ℕ → Config → ℕ → Option Need
needed parts service c n =
    let s = seen_by parts service c n given.Nothing in
    if c.ended then None
    else (if is_finished c.form then asked_at_end n else asked_with s c.form (fault_in s 0 c.form))
