-- What acting in a form comes to, by the shape of the form.
use Rattle.std.proofs.Common.{◌≡◌, ℕ, Bool, true, false, Option, None, Some, option_map, if◌then◌else◌, nat_eq, refl, sym, ap, ◌∙◌, subst}
use Rattle.jolie_trees.specs.Data.{Tree}
use Rattle.behaviour_tree.specs.declared.words.Need.{Need}
use Rattle.behaviour_tree.specs.declared.words.Need.TheVariants as need
use Rattle.behaviour_tree.specs.Data.{PathTree, Proc, Procs, HandlerList}
use Rattle.session_calculus.specs.Tables.{Table}
use Rattle.session_calculus.specs.Terms.{Fault, Term, Strands, done, place, thrown, seq, par, in_scope, exec, fail, wait, dead_wait, prot, no_strands, strand, State, stands_in}
use Rattle.session_calculus.specs.Moves.{Seen, Move, within, inside, in_its_scope, ungiven, in_strand}
use Rattle.session_calculus.specs.Faults.{fault_in, fault_among, fault_of}
use Rattle.session_calculus.specs.Replies.{outcome_of_fault, reply_of, replies}
use Rattle.session_calculus.specs.Answers.{call_of, answers, dead_answers, with_answer}
use Rattle.session_calculus.specs.After.{act, moves, moves_among}
use Rattle.session_laws.proofs.Moving.{NotDone}
use Rattle.session_events.specs.Asked.{asked}
use Rattle.term_session.specs.Asks.{asked_in, asked_among, asked_of_scope}
use Rattle.term_session.specs.Walks.{Walked, stuck, faulted, went, walked, acted_in, acted_among, around, in_scope_around, scope_event, acts_here, acts_alone, idle, failing, looked, looked_in, looked_among, looks_alone}

-- ---- something around

-- a fault and an event with something around the form
around-walked : {A B : Type 0} (g : A → B) (t : A) (s : Seen) (o : Option Fault) (m : Option (Move A))
    → walked (g t) s o (option_map (within g) m) ≡ around g (walked t s o m)
around-walked g t s (Some f) m = refl
around-walked g t s None (Some m) = refl
around-walked g t s None None = refl

pub acted-seq : (s : Seen) (k : ℕ) (t : Term) (rest : Procs)
    → acted_in s k (seq t rest) ≡ around (λ t'. seq t' rest) (acted_in s k t)
acted-seq s k t rest = around-walked (λ t'. seq t' rest) t s (fault_in s k t) (moves s k t)

pub acted-prot : (s : Seen) (k : ℕ) (t : Term) → acted_in s k (prot t) ≡ around prot (acted_in s k t)
acted-prot s k t = around-walked prot t s (fault_in s k t) (moves s k t)

pub acted-par : (s : Seen) (k : ℕ) (ts : Strands) → acted_in s k (par ts) ≡ around par (acted_among s ts)
acted-par s k ts = around-walked par ts s (fault_among s ts) (moves_among s ts)

-- the body of a request that is not done
pub acted-exec : (s : Seen) (k m o : ℕ) (y : Option PathTree) (t : Term) → NotDone t
    → acted_in s k (exec m o y t) ≡ around (exec m o y) (acted_in s k t)
acted-exec s k m o y done d = absurd d
acted-exec s k m o y t d = around-walked (exec m o y) t s (fault_in s k t) (moves s k t)

-- a scope whose body is not done
scope-walked : (s : Seen) (q : ℕ) (t : Term) (h : Table) (u : State) (o : Option Fault) (m : Option (Move Term))
    → walked (in_scope q t h u) s o (option_map (in_its_scope s q u) m) ≡ in_scope_around s q u (walked t (inside s q h) o m)
scope-walked s q t h u (Some f) m = refl
scope-walked s q t h u None (Some m) = refl
scope-walked s q t h u None None = refl

pub acted-scope : (s : Seen) (k q : ℕ) (t : Term) (h : Table) (u : State) → NotDone t
    → acted_in s k (in_scope q t h u) ≡ in_scope_around s q u (acted_in (inside s q h) k t)
acted-scope s k q done h u d = absurd d
acted-scope s k q t h u d = scope-walked s q t h u (fault_in (inside s q h) k t) (moves (inside s q h) k t)

-- ---- members

-- by whether the strand stands in the first
by-member : (b : Bool) (s : Seen) (k : ℕ) (t : Term) (ts : Strands)
    → walked (strand k t ts) s (elim b [ true ↦ fault_in s k t | false ↦ fault_among s ts ])
    (elim b [
      | true ↦ option_map (within (λ t'. strand k t' ts)) (moves s k t)
      | false ↦ option_map (within (strand k t)) (moves_among s ts)
    ])
    ≡ elim b [ true ↦ around (λ t'. strand k t' ts) (acted_in s k t) | false ↦ around (strand k t) (acted_among s ts) ]
by-member true s k t ts = around-walked (λ t'. strand k t' ts) t s (fault_in s k t) (moves s k t)
by-member false s k t ts = around-walked (strand k t) ts s (fault_among s ts) (moves_among s ts)

-- one of two
chosen : {A : Type 0} (b c : Bool) (x y : A) → b ≡ c → ◌≡◌ {A = A} (elim b [ true ↦ x | false ↦ y ]) (elim c [ true ↦ x | false ↦ y ])
chosen b c x y e = ap (λ b. elim b [ true ↦ x | false ↦ y ]) e

-- a member that the strand stands in, and any other
pub acted-member : (s : Seen) (k : ℕ) (t : Term) (ts : Strands) → stands_in s.strand k t ≡ true
    → acted_among s (strand k t ts) ≡ around (λ t'. strand k t' ts) (acted_in s k t)
acted-member s k t ts e =
    by-member (stands_in s.strand k t) s k t ts
    ∙ chosen (stands_in s.strand k t) true (around (λ t'. strand k t' ts) (acted_in s k t)) (around (strand k t) (acted_among s ts)) e

pub acted-others : (s : Seen) (k : ℕ) (t : Term) (ts : Strands) → stands_in s.strand k t ≡ false
    → acted_among s (strand k t ts) ≡ around (strand k t) (acted_among s ts)
acted-others s k t ts e =
    by-member (stands_in s.strand k t) s k t ts
    ∙ chosen (stands_in s.strand k t) false (around (λ t'. strand k t' ts) (acted_in s k t)) (around (strand k t) (acted_among s ts)) e

-- ---- where a form acts itself

-- a form that acts itself, where it acts
abbrev pub ActsItself : Term → Type 0
ActsItself (place p) = Unit {0}
ActsItself (thrown f) = Unit {0}
ActsItself (in_scope q done h u) = Unit {0}
ActsItself (exec m o y done) = Unit {0}
ActsItself (fail m f t) = Unit {0}
ActsItself (wait n port op x list) = Unit {0}
ActsItself (dead_wait n port op list) = Unit {0}
ActsItself t = ⊥

-- that strand alone
alone : {A : Type 0} (b : Bool) (t : A) (s : Seen) (o : Option Fault) (m : Option (Move A))
    → walked t s (if b then o else None) (if b then m else None) ≡ (if b then walked t s o m else stuck t s)
alone true t s o m = refl
alone false t s o m = refl

-- that strand alone, without a fault
event_alone : {A : Type 0} (b : Bool) (t : A) (s : Seen) (m : Option (Move A))
    → walked t s None (if b then m else None) ≡ (if b then walked t s None m else stuck t s)
event_alone true t s m = refl
event_alone false t s m = refl

-- that strand alone, for a fault that is there to be thrown
fault_alone : (b : Bool) (f : Fault) (s : Seen)
    → walked (thrown f) s (if b then Some f else None) None ≡ (if b then faulted f (thrown f) s else stuck (thrown f) s)
fault_alone true f s = refl
fault_alone false f s = refl

-- acting in a form that acts itself
pub acts_as_alone : (s : Seen) (k : ℕ) (t : Term) → ActsItself t → acted_in s k t ≡ acts_alone s k t
acts_as_alone s k (place p) h = alone (nat_eq s.strand k) (place p) s (fault_of s p) (act s p)
acts_as_alone s k (thrown f) h = fault_alone (nat_eq s.strand k) f s
acts_as_alone s k (in_scope q done a u) h =
    event_alone (nat_eq s.strand k) (in_scope q done a u) s (scope_event s q a u)
acts_as_alone s k (exec m o y done) h =
    event_alone (nat_eq s.strand k) (exec m o y done) s (ungiven s (replies s m (reply_of s o y) done))
acts_as_alone s k (fail m f t) h =
    event_alone (nat_eq s.strand k) (fail m f t) s (ungiven s (replies s m (outcome_of_fault s.parts f) t))
acts_as_alone s k (wait n port op x list) h =
    event_alone (nat_eq s.strand k) (wait n port op x list) s
    (with_answer s (call_of n port op) (answers s (call_of n port op) x list))
acts_as_alone s k (dead_wait n port op list) h =
    event_alone (nat_eq s.strand k) (dead_wait n port op list) s
    (with_answer s (call_of n port op) (dead_answers s (call_of n port op) list))
acts_as_alone s k t h = absurd h

-- a body that is not done
pub not_done : (t : Term) → (t ≡ done → ⊥) → NotDone t
not_done done h = h refl
not_done t h = tt

-- a scope whose body is done, and a request whose body is
pub done_scope : (s : Seen) (k q : ℕ) (t : Term) (h : Table) (u : State) → t ≡ done
    → acted_in s k (in_scope q t h u) ≡ acts_alone s k (in_scope q t h u)
done_scope s k q t h u e =
    subst (λ t. acted_in s k (in_scope q t h u) ≡ acts_alone s k (in_scope q t h u)) (sym e)
    (acts_as_alone s k (in_scope q done h u) tt)

pub done_exec : (s : Seen) (k m o : ℕ) (y : Option PathTree) (t : Term) → t ≡ done
    → acted_in s k (exec m o y t) ≡ acts_alone s k (exec m o y t)
done_exec s k m o y t e =
    subst (λ t. acted_in s k (exec m o y t) ≡ acts_alone s k (exec m o y t)) (sym e)
    (acts_as_alone s k (exec m o y done) tt)

-- nothing acts where nothing is left
pub acted-done : (s : Seen) (k : ℕ) → acted_in s k done ≡ stuck done s
acted-done s k = refl

-- ---- looking

-- by whether the strand stands in the first
looked-by : (b : Bool) (s : Seen) (k : ℕ) (t : Term) (ts : Strands)
    → looked (elim b [ true ↦ fault_in s k t | false ↦ fault_among s ts ])
    (elim b [ true ↦ asked_in s k t | false ↦ asked_among s ts ])
    ≡ elim b [ true ↦ looked_in s k t | false ↦ looked_among s ts ]
looked-by true s k t ts = refl
looked-by false s k t ts = refl

-- a member that the strand stands in, and any other
pub looked-member : (s : Seen) (k : ℕ) (t : Term) (ts : Strands) → stands_in s.strand k t ≡ true
    → looked_among s (strand k t ts) ≡ looked_in s k t
looked-member s k t ts e =
    looked-by (stands_in s.strand k t) s k t ts ∙ chosen (stands_in s.strand k t) true (looked_in s k t) (looked_among s ts) e

pub looked-others : (s : Seen) (k : ℕ) (t : Term) (ts : Strands) → stands_in s.strand k t ≡ false
    → looked_among s (strand k t ts) ≡ looked_among s ts
looked-others s k t ts e =
    looked-by (stands_in s.strand k t) s k t ts ∙ chosen (stands_in s.strand k t) false (looked_in s k t) (looked_among s ts) e

-- that strand alone has a fault, or asks
both_alone : (b : Bool) (o : Option Fault) (n : Option Need)
    → looked (if b then o else None) (if b then n else None) ≡ (if b then looked o n else idle)
both_alone true o n = refl
both_alone false o n = refl

-- that strand alone asks
need_alone : (b : Bool) (n : Option Need) → looked None (if b then n else None) ≡ (if b then looked None n else idle)
need_alone true n = refl
need_alone false n = refl

-- that strand alone has a fault
failing_alone : (b : Bool) (f : Fault) → looked (if b then Some f else None) None ≡ (if b then failing f.name else idle)
failing_alone true f = refl
failing_alone false f = refl

-- looking at a form that acts itself
pub looks_as_alone : (s : Seen) (k : ℕ) (t : Term) → ActsItself t
    → looked_in s k t ≡ looks_alone s k t
looks_as_alone s k (place p) h = both_alone (nat_eq s.strand k) (fault_of s p) (asked s p)
looks_as_alone s k (thrown f) h = failing_alone (nat_eq s.strand k) f
looks_as_alone s k (in_scope q done a u) h = need_alone (nat_eq s.strand k) (asked_of_scope u)
looks_as_alone s k (exec m o y done) h = need_alone (nat_eq s.strand k) (Some (need.Reply m (reply_of s o y)))
looks_as_alone s k (fail m f t) h = need_alone (nat_eq s.strand k) (Some (need.Reply m (outcome_of_fault s.parts f)))
looks_as_alone s k (wait n port op x list) h = need_alone (nat_eq s.strand k) (Some (need.Answer n))
looks_as_alone s k (dead_wait n port op list) h = need_alone (nat_eq s.strand k) (Some (need.Answer n))
looks_as_alone s k t h = absurd h

-- a scope whose body is done, and a request whose body is
pub done_scope_looked : (s : Seen) (k q : ℕ) (t : Term) (h : Table) (u : State) → t ≡ done
    → looked_in s k (in_scope q t h u) ≡ looks_alone s k (in_scope q t h u)
done_scope_looked s k q t h u e =
    subst (λ t. looked_in s k (in_scope q t h u) ≡ looks_alone s k (in_scope q t h u)) (sym e)
    (looks_as_alone s k (in_scope q done h u) tt)

pub done_exec_looked : (s : Seen) (k m o : ℕ) (y : Option PathTree) (t : Term) → t ≡ done
    → looked_in s k (exec m o y t) ≡ looks_alone s k (exec m o y t)
done_exec_looked s k m o y t e =
    subst (λ t. looked_in s k (exec m o y t) ≡ looks_alone s k (exec m o y t)) (sym e)
    (looks_as_alone s k (exec m o y done) tt)

-- a request whose body is not done, and a scope whose body is not done
pub looked_exec : (s : Seen) (k m o : ℕ) (y : Option PathTree) (t : Term) → NotDone t
    → looked_in s k (exec m o y t) ≡ looked_in s k t
looked_exec s k m o y done d = absurd d
looked_exec s k m o y t d = refl

pub looked_scope : (s : Seen) (k q : ℕ) (t : Term) (h : Table) (u : State) → NotDone t
    → looked_in s k (in_scope q t h u) ≡ looked_in (inside s q h) k t
looked_scope s k q done h u d = absurd d
looked_scope s k q t h u d = refl
