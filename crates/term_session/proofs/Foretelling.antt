-- What a glance at a form tells is what looking tells.
use Rattle.std.proofs.Common.{◌≡◌, ℕ, Bool, List, true, false, Option, None, Some, is_some, ◌||◌, nat_eq, if◌then◌else◌, refl, sym, ap, ◌∙◌, subst}
use Rattle.std.proofs.lemmas.Bool.{eqb-true, eq-eqb, false≢true}
use Rattle.jolie_trees.specs.declared.path.Step.{Step}
use Rattle.jolie_trees.specs.Data.{Tree}
use Rattle.jolie_trees.specs.Limits.{is_store}
use Rattle.jolie_trees.specs.Trees.{root_of, set, set_root, undef as removed}
use Rattle.behaviour_tree.specs.declared.words.Need.{Need}
use Rattle.behaviour_tree.specs.declared.words.Need.TheVariants as need
use Rattle.behaviour_tree.specs.declared.words.Given.{Given}
use Rattle.behaviour_tree.specs.declared.words.Given.TheVariants as given
use Rattle.behaviour_tree.specs.Data.{ProgramParts, PathTree, Exp, Proc, Procs, assign, undef, copy}
use Rattle.behaviour_tree.specs.Values.{value, steps_of}
use Rattle.session_calculus.specs.After.{Config, Done, HasEvent, after, is_finished, seen_by}
use Rattle.session_calculus.specs.Effects.{faults, stores, assigned, put, taken_away, stored}
use Rattle.session_calculus.specs.Faults.{fault_in, fault_of, fault_of_effect}
use Rattle.session_calculus.specs.Replies.{reply_of}
use Rattle.session_calculus.specs.Moves.{Seen, inside}
use Rattle.session_calculus.specs.Names.{expr_fault, store_too_large}
use Rattle.session_calculus.specs.Tables.{Table}
use Rattle.session_calculus.specs.Terms.{Term, State, done, place, seq, in_scope, exec, prot}
use Rattle.session_calculus.specs.Throw.{Carried, up, caught_at, ended_at, blocked, absent, throw}
use Rattle.session_events.specs.Asked.{asked}
use Rattle.session_faults.specs.declared.decision.Decision.{Decision}
use Rattle.session_faults.specs.Decisions.{decided, decision_view}
use Rattle.term_session.specs.Asks.{asked_by_throw, asked_at_end, asked_with, needed}
use Rattle.term_session.specs.Foretold.{is_so, Foresees, IsRaised, is_asked_so, Foretells}
use Rattle.term_session.specs.Walks.{Looked, idle, failing, asking, looked, looked_in}
use Rattle.term_session.specs.declared.glance.Glance.{Glance}
use Rattle.term_session.specs.declared.glance.Glance.TheVariants as glance
use Rattle.term_session.proofs.Needing.{needed_tells}
use Rattle.term_session.proofs.Stepping.{asked_after, asked_told, asked-decided}

-- ---- a form

-- what is said of a form that is done is said of any
said_of_idle : (g : Glance) (l : Looked) → is_so g idle ≡ true → is_so g l ≡ true
said_of_idle glance.Unknown l e = refl
said_of_idle glance.Asks l e = absurd (false≢true e)
said_of_idle glance.Stores l e = absurd (false≢true e)

-- nothing is told, whatever is seen
pub unknown : (n k : ℕ) (t : Term) → Foresees glance.Unknown n k t
unknown n k t s e = refl

-- the head of a sequence, a protected form, the body of a scope and that of a request
pub in_head : (g : Glance) (n k : ℕ) (t : Term) (rest : Procs) → Foresees g n k t → Foresees g n k (seq t rest)
in_head g n k t rest h s e = h s e

pub in_prot : (g : Glance) (n k : ℕ) (t : Term) → Foresees g n k t → Foresees g n k (prot t)
in_prot g n k t h s e = h s e

pub in_body : (g : Glance) (n k q : ℕ) (t : Term) (a : Table) (u : State) → Foresees g n k t → Foresees g n k (in_scope q t a u)
in_body g n k q done a u h s e = said_of_idle g (looked_in s k (in_scope q done a u)) (h s e)
in_body g n k q t a u h s e = h (inside s q a) e

pub in_request : (g : Glance) (n k m o : ℕ) (y : Option PathTree) (t : Term) → Foresees g n k t → Foresees g n k (exec m o y t)
in_request g n k m o y done h s e = said_of_idle g (looked_in s k (exec m o y done)) (h s e)
in_request g n k m o y t h s e = h s e

-- a request whose body is done is answered
pub answers_now : (n k m o : ℕ) (y : Option PathTree) (t : Term) → t ≡ done → n ≡ k → Foresees glance.Asks n k (exec m o y t)
answers_now n k m o y t d own s e =
    subst (λ t. is_so glance.Asks (looked_in s k (exec m o y t)) ≡ true) (sym d)
    (by (nat_eq s.strand k) (need.Reply m (reply_of s o y)) (eq-eqb s.strand k (e ∙ own)))
  where
    by : (b : Bool) (x : Need) → b ≡ true → is_so glance.Asks (looked None (if b then Some x else None)) ≡ true
    by true x e = refl
    by false x e = absurd (false≢true e)

-- ---- a place

-- a change of the store asks nothing, or has one of two faults
kept : (store : Tree) → is_so glance.Stores (looked (fault_of_effect (stored store)) (Some need.Nothing)) ≡ true
kept store = by (is_store store)
  where
    by : (b : Bool)
        → is_so glance.Stores (looked (fault_of_effect (if b then stores store else faults store_too_large)) (Some need.Nothing)) ≡ true
    by true = refl
    by false = refl

assigning : (store : Tree) (p : Option (List Step)) (v : Option Tree)
    → is_so glance.Stores (looked (fault_of_effect (assigned store p v)) (Some need.Nothing)) ≡ true
assigning store None v = refl
assigning store (Some p) None = refl
assigning store (Some p) (Some v) = kept (set_root p (root_of v) store)

copying : (store : Tree) (p : Option (List Step)) (v : Option Tree)
    → is_so glance.Stores (looked (fault_of_effect (put store p v)) (Some need.Nothing)) ≡ true
copying store None v = refl
copying store (Some p) None = refl
copying store (Some p) (Some v) = kept (set p v store)

taking : (store : Tree) (p : Option (List Step))
    → is_so glance.Stores (looked (fault_of_effect (taken_away store p)) (Some need.Nothing)) ≡ true
taking store None = refl
taking store (Some p) = kept (removed p store)

pub assigns : (s : Seen) (p : PathTree) (e : Exp)
    → is_so glance.Stores (looked (fault_of s (assign p e)) (asked s (assign p e))) ≡ true
assigns s p e = assigning s.store (steps_of s.store p) (value s.store e)

pub copies : (s : Seen) (p : PathTree) (e : Exp)
    → is_so glance.Stores (looked (fault_of s (copy p e)) (asked s (copy p e))) ≡ true
copies s p e = copying s.store (steps_of s.store p) (value s.store e)

pub takes_away : (s : Seen) (p : PathTree)
    → is_so glance.Stores (looked (fault_of s (undef p)) (asked s (undef p))) ≡ true
takes_away s p = taking s.store (steps_of s.store p)

-- what is told of a place is told of the strand that stands there
pub at_place : (g : Glance) (n k : ℕ) (p : Proc) → n ≡ k
    → ((s : Seen) → is_so g (looked (fault_of s p) (asked s p)) ≡ true) → Foresees g n k (place p)
at_place g n k p own h s e = by (nat_eq s.strand k) (eq-eqb s.strand k (e ∙ own))
  where
    by : (b : Bool) → b ≡ true
        → is_so g (looked (if b then fault_of s p else None) (if b then asked s p else None)) ≡ true
    by true x = h s
    by false x = absurd (false≢true x)

-- ---- a session

-- whether a fault is raised is told by where it goes
pub raised_by : (b : Bool) (n f : ℕ) (t : Term) (d : Decision)
    → ((v : Tree) → decision_view d ≡ decided (throw n (record { name = f; value = v }) 0 t))
    → b ≡ is_some (asked_by_throw (decision_view d)) → b ≡ true → IsRaised n f t
raised_by b n f t d goes said so v =
    let x = throw n (record { name = f; value = v }) 0 t in
    sym (ap is_some (ap (λ y. asked_by_throw y) (goes v) ∙ asked-decided x)) ∙ sym said ∙ so

-- what is raised asks nothing
quiet : (x : Carried Term) → is_some (asked_by_throw x) ≡ true → asked_by_throw x ≡ Some need.Nothing
quiet (up t) e = refl
quiet (caught_at t q) e = refl
quiet (ended_at t q) e = refl
quiet (blocked m) e = absurd (false≢true e)
quiet absent e = absurd (false≢true e)

-- what a strand asks, by what looking told
by_asking : (s : Seen) (t : Term) (l : Looked) (o : Option Need) → asked_after s t l o → is_so glance.Asks l ≡ true
    → is_some o ≡ true
by_asking s t idle o h e = absurd (false≢true e)
by_asking s t (failing f) o h e = absurd (false≢true e)
by_asking s t (asking n) o h e = ap is_some h

-- one of two
by_either : (b c : Bool) (P : Type 0) → b || c ≡ true → (b ≡ true → P) → (c ≡ true → P) → P
by_either true c P e f g = f refl
by_either false c P e f g = g e

by_storing : (s : Seen) (t : Term) (l : Looked) (o : Option Need) → asked_after s t l o → is_so glance.Stores l ≡ true
    → IsRaised s.strand expr_fault t → IsRaised s.strand store_too_large t → o ≡ Some need.Nothing
by_storing s t idle o h e a b = absurd (false≢true e)
by_storing s t (asking need.Nothing) o h e a b = h
by_storing s t (asking n) o h e a b = absurd (false≢true e)
by_storing s t (failing f) o h e a b =
    by_either (nat_eq f expr_fault) (nat_eq f store_too_large) (o ≡ Some need.Nothing) e
    (λ x. named expr_fault (eqb-true f expr_fault x) a)
    (λ x. named store_too_large (eqb-true f store_too_large x) b)
  where
    named : (g : ℕ) → f ≡ g → IsRaised s.strand g t → o ≡ Some need.Nothing
    named g same r =
        h.1
        ∙ ap (λ f. asked_by_throw (throw s.strand (record { name = f; value = h.0 }) 0 t)) same
        ∙ quiet (throw s.strand (record { name = g; value = h.0 }) 0 t) (r h.0)

-- what is asked of a session that goes on
going_on : (ended finished : Bool) (x y z : Option Need) → ended ≡ false → finished ≡ false
    → (if ended then x else (if finished then y else z)) ≡ z
going_on false false x y z e h = refl
going_on true finished x y z e h = absurd (false≢true (sym e))
going_on false true x y z e h = absurd (false≢true (sym h))

goes_on : (parts : ProgramParts) (service : ℕ) (c : Config) (n : ℕ) → c.ended ≡ false → is_finished c.form ≡ false
    → needed parts service c n ≡ asked_with (seen_by parts service c n given.Nothing) c.form (fault_in (seen_by parts service c n given.Nothing) 0 c.form)
goes_on parts service c n runs going =
    let s = seen_by parts service c n given.Nothing in
    going_on c.ended (is_finished c.form) None (asked_at_end n) (asked_with s c.form (fault_in s 0 c.form)) runs going

pub untold : (c : Config) (n : ℕ) → Foretells glance.Unknown c n
untold c n parts service = refl

pub told_asks : (g : Glance) (c : Config) (n : ℕ) → g ≡ glance.Asks → c.ended ≡ false → is_finished c.form ≡ false
    → Foresees g n 0 c.form → Foretells glance.Asks c n
told_asks g c n is runs going h parts service =
    let s = seen_by parts service c n given.Nothing in
    ap is_some (goes_on parts service c n runs going)
    ∙ by_asking s c.form (looked_in s 0 c.form) (asked_with s c.form (fault_in s 0 c.form))
    (asked_told s c.form (looked_in s 0 c.form) refl) (sym (ap (λ g. is_so g (looked_in s 0 c.form)) is) ∙ h s refl)

pub told_stores : (g : Glance) (c : Config) (n : ℕ) → g ≡ glance.Stores → c.ended ≡ false → is_finished c.form ≡ false
    → Foresees g n 0 c.form → IsRaised n expr_fault c.form → IsRaised n store_too_large c.form → Foretells glance.Stores c n
told_stores g c n is runs going h a b parts service =
    let s = seen_by parts service c n given.Nothing in
    ap (is_asked_so glance.Stores)
    (goes_on parts service c n runs going
    ∙ by_storing s c.form (looked_in s 0 c.form) (asked_with s c.form (fault_in s 0 c.form))
    (asked_told s c.form (looked_in s 0 c.form) refl) (sym (ap (λ g. is_so g (looked_in s 0 c.form)) is) ∙ h s refl) a b)

-- what was told of a strand is what it asks
pub asks_some : (g : Glance) (c : Config) (n : ℕ) → g ≡ glance.Asks → Foretells g c n
    → (parts : ProgramParts) (service : ℕ) → true ≡ is_some (needed parts service c n)
asks_some g c n is h parts service =
    sym (sym (ap (λ g. is_asked_so g (needed parts service c n)) is) ∙ h parts service)

none_told : (o : Option Need) → is_asked_so glance.Stores o ≡ true → Some need.Nothing ≡ o
none_told None e = absurd (false≢true e)
none_told (Some need.Nothing) e = refl
none_told (Some n) e = absurd (false≢true e)

pub asks_nothing : (g : Glance) (c : Config) (n : ℕ) → g ≡ glance.Stores → Foretells g c n
    → (parts : ProgramParts) (service : ℕ) → Some need.Nothing ≡ needed parts service c n
asks_nothing g c n is h parts service =
    none_told (needed parts service c n) (sym (ap (λ g. is_asked_so g (needed parts service c n)) is) ∙ h parts service)

pub stores_some : (g : Glance) (c : Config) (n : ℕ) → g ≡ glance.Stores → Foretells g c n
    → (parts : ProgramParts) (service : ℕ) → true ≡ is_some (needed parts service c n)
stores_some g c n is h parts service = ap is_some (asks_nothing g c n is h parts service)

-- and so its event asks nothing, whatever the office gives
pub nothing_asked : (g : Glance) (parts : ProgramParts) (service : ℕ) (c : Config) (n : ℕ) → g ≡ glance.Stores → Foretells g c n
    → HasEvent parts service c n × ((g : Given) (d : Done) → after parts service c n g ≡ Some d → d.need ≡ need.Nothing)
nothing_asked g parts service c n is h =
    needed_tells parts service c n (Some need.Nothing) (asks_nothing g c n is h parts service)
