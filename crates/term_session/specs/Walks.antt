-- These definitions serve the proofs alone: no promise speaks of them.
-- What acting in a form comes to, and what looking at it tells.
use Rattle.std.specs.Prelude.{ℕ, Option, None, Some, if◌then◌else◌, nat_eq}
use Rattle.behaviour_tree.specs.declared.words.Need.{Need}
use Rattle.behaviour_tree.specs.declared.words.Need.TheVariants as need
use Rattle.session_calculus.specs.Tables.{Table}
use Rattle.session_calculus.specs.Terms.{Fault, Term, Strands, State, done, place, thrown, in_scope, exec, fail, wait}
use Rattle.session_calculus.specs.Terms.{dead_wait}
use Rattle.session_calculus.specs.Moves.{Seen, Move, within, ungiven, inside, in_its_scope}
use Rattle.session_calculus.specs.Faults.{fault_of, fault_in, fault_among}
use Rattle.session_calculus.specs.Replies.{outcome_of_fault, reply_of, replies}
use Rattle.session_calculus.specs.Answers.{call_of, answers, dead_answers, with_answer}
use Rattle.session_calculus.specs.Scopes.{scope_acts}
use Rattle.session_calculus.specs.After.{act, moves, moves_among}
use Rattle.session_events.specs.Asked.{asked}
use Rattle.term_session.specs.Asks.{asked_in, asked_among, asked_of_scope}

-- what acting in a form, or in the members of a parallel, comes to: the strand has no event there, or a fault, and what
-- stands there and what is seen stay as they were; or its event
pub data Walked (A : Type 0) : Type 0 where
  stuck : A → Seen → Walked A
  faulted : Fault → A → Seen → Walked A
  went : Move A → Walked A

-- what it comes to, by the fault and the event that there may be
abbrev pub walked : {A : Type 0} → A → Seen → Option Fault → Option (Move A) → Walked A
walked t s (Some f) m = faulted f t s
walked t s None (Some m) = went m
walked t s None None = stuck t s

-- what acting comes to in a form that runs in strand k
abbrev pub acted_in : Seen → ℕ → Term → Walked Term
acted_in s k t = walked t s (fault_in s k t) (moves s k t)

-- the same in members
abbrev pub acted_among : Seen → Strands → Walked Strands
acted_among s ts = walked ts s (fault_among s ts) (moves_among s ts)

-- the event of a scope whose body is done, for which the office gives nothing
abbrev pub scope_event : Seen → ℕ → Table → State → Option (Move Term)
scope_event s q h u = elim (scope_acts s q h u) [ None ↦ None | Some m ↦ ungiven s m ]

-- what acting comes to in a form that acts itself; nothing comes of any other
abbrev pub acts_here : Seen → Term → Walked Term
acts_here s (place p) = walked (place p) s (fault_of s p) (act s p)
acts_here s (thrown f) = faulted f (thrown f) s
acts_here s (in_scope q done h u) = walked (in_scope q done h u) s None (scope_event s q h u)
acts_here s (exec m o y done) =
    walked (exec m o y done) s None (ungiven s (replies s m (reply_of s o y) done))
acts_here s (fail m f t) = walked (fail m f t) s None (ungiven s (replies s m (outcome_of_fault s.parts f) t))
acts_here s (wait n port op x list) =
    let c = call_of n port op in walked (wait n port op x list) s None (with_answer s c (answers s c x list))
acts_here s (dead_wait n port op list) =
    let c = call_of n port op in walked (dead_wait n port op list) s None (with_answer s c (dead_answers s c list))
acts_here s t = stuck t s

-- that strand alone acts there
abbrev pub acts_alone : Seen → ℕ → Term → Walked Term
acts_alone s k t = if nat_eq s.strand k then acts_here s t else stuck t s

-- the same with something around the form
abbrev pub around : {A B : Type 0} → (A → B) → Walked A → Walked B
around g (stuck t s) = stuck (g t) s
around g (faulted f t s) = faulted f (g t) s
around g (went m) = went (within g m)

-- the same with scope q around the form: the scope takes the handlers, and those of the scope around stay
abbrev pub in_scope_around : Seen → ℕ → State → Walked Term → Walked Term
in_scope_around s q u (stuck t i) = stuck (in_scope q t i.table u) (inside i s.scope s.table)
in_scope_around s q u (faulted f t i) = faulted f (in_scope q t i.table u) (inside i s.scope s.table)
in_scope_around s q u (went m) = went (in_its_scope s q u m)

-- what looking at a form tells of the strand that acts: it has no event there, or a fault of this name, or its event
-- asks this
pub data Looked : Type 0 where
  idle : Looked
  failing : ℕ → Looked
  asking : Need → Looked

-- what it tells, by the fault that there may be and by what is asked
abbrev pub looked : Option Fault → Option Need → Looked
looked (Some f) n = failing f.name
looked None (Some n) = asking n
looked None None = idle

-- what looking at a form tells that runs in strand k
abbrev pub looked_in : Seen → ℕ → Term → Looked
looked_in s k t = looked (fault_in s k t) (asked_in s k t)

-- the same of members
abbrev pub looked_among : Seen → Strands → Looked
looked_among s ts = looked (fault_among s ts) (asked_among s ts)

-- what looking tells at a form that acts itself
abbrev pub looks_here : Seen → Term → Looked
looks_here s (place p) = looked (fault_of s p) (asked s p)
looks_here s (thrown f) = failing f.name
looks_here s (in_scope q done h u) = looked None (asked_of_scope u)
looks_here s (exec m o y done) = asking (need.Reply m (reply_of s o y))
looks_here s (fail m f t) = asking (need.Reply m (outcome_of_fault s.parts f))
looks_here s (wait n port op x list) = asking (need.Answer n)
looks_here s (dead_wait n port op list) = asking (need.Answer n)
looks_here s t = idle

-- that strand alone is told of there
abbrev pub looks_alone : Seen → ℕ → Term → Looked
looks_alone s k t = if nat_eq s.strand k then looks_here s t else idle
