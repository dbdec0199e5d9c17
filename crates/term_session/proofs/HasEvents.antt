-- A strand that needs something has an event.
use Rattle.std.proofs.Common.{◌≡◌, ℕ, zero, suc, Bool, true, false, List, [], ◌∷◌, Option, None, Some, is_some, option_map, if◌then◌else◌, nat_eq, refl, sym, ap, ◌∙◌, subst}
use Rattle.std.proofs.lemmas.Bool.{false≢true, eq-eqb}
use Rattle.std.proofs.lemmas.Option.{none-some}
use Rattle.jolie_trees.specs.declared.root.Root.{Root}
use Rattle.jolie_trees.specs.Data.{Tree}
use Rattle.jolie_trees.specs.Trees.{void_tree}
use Rattle.behaviour_tree.specs.declared.words.Need.{Need}
use Rattle.behaviour_tree.specs.declared.words.Need.TheVariants as need
use Rattle.behaviour_tree.specs.declared.words.Given.{Given}
use Rattle.behaviour_tree.specs.declared.words.Given.TheVariants as given
use Rattle.behaviour_tree.specs.declared.words.Outcome.{Outcome}
use Rattle.behaviour_tree.specs.declared.words.Outcome.TheVariants as outcome
use Rattle.behaviour_tree.specs.Values.{truth_of, value}
use Rattle.behaviour_tree.specs.Data.{Proc, nothing, assign, undef, copy, bind, choose, repeat, choice, notify, solicit, install, comp, Branches, no_branches, one_way, request, ProgramParts}
use Rattle.session_calculus.specs.Terms.{Fault, Term, Strands, done, place, thrown, seq, par, in_scope, exec, fail, wait, dead_wait, prot, no_strands, strand, State, live, caught, term, last, zombie, stands_in}
use Rattle.session_calculus.specs.Throw.{Carried, up, caught_at, ended_at, blocked, absent, throw}
use Rattle.session_calculus.specs.Tables.{Table}
use Rattle.session_calculus.specs.Moves.{Seen, Move, within, inside, in_its_scope, ungiven}
use Rattle.session_calculus.specs.Effects.{Effect, faults, stores, effect_of, copied, effect_of_undef}
use Rattle.session_calculus.specs.Faults.{binding, fault_of, fault_of_effect, fault_of_missing, fault_in, fault_among}
use Rattle.behaviour_tree.specs.FormedBehaviours.{branch_operations}
use Rattle.session_calculus.specs.Calls.{message_value, notifies, solicits, binds}
use Rattle.session_calculus.specs.Replies.{outcome_of_fault, reply_of, replies}
use Rattle.session_calculus.specs.Answers.{Read, call_of, answers, dead_answers, with_answer}
use Rattle.session_calculus.specs.Scopes.{scope_acts}
use Rattle.session_calculus.specs.After.{Config, Done, changes, tests, turn_of, act, moves, moves_among, is_finished, raised, raises, moved, finishes, acts, seen_by, after, HasEvent}
use Rattle.session_laws.proofs.Asking.{fault-blind}
use Rattle.session_events.specs.Asked.{asked, one_of}
use Rattle.term_session.specs.Needs.{AsksForItsEvent, HasNoEventUnasked}
use Rattle.term_session.proofs.Asked.{needs_after}
use Rattle.term_session.specs.Asks.{asked_of_scope, asked_alone, asked_in, asked_among, asked_at_end, asked_by_throw, asked_with, needed}

-- the first of some operations
abbrev first_op : List ℕ → ℕ
first_op [] = 0
first_op (o ∷ os) = o

-- something that the office could give where it is asked this
abbrev gift_for : Need → Given
gift_for need.Nothing = given.Nothing
gift_for (need.Take ops) = given.Mail 0 (first_op ops) void_tree
gift_for (need.Answer k) = given.Answer (outcome.Value void_tree)
gift_for (need.Bind v r) = given.Bound
gift_for (need.Reply m o) = given.Nothing
gift_for (need.Send k port op v wants) = given.Nothing
gift_for need.Finish = given.Nothing

-- what is seen once the office gave it
abbrev given_for : Need → Seen → Seen
given_for n s = record s { gift = gift_for n }

-- the need of an option
abbrev need_or : Option Need → Need
need_or None = need.Nothing
need_or (Some n) = n

-- the fault of an option, or another
abbrev fault_or : Fault → Option Fault → Fault
fault_or f None = f
fault_or f (Some g) = g

-- two options with a value have the same
same : (n m : Need) → Some n ≡ Some m → n ≡ m
same n m e = ap need_or e

-- a value that is there
pub there : {A : Type 0} (o : Option A) → is_some o ≡ true → (x : A) × (o ≡ Some x)
there None e = absurd (false≢true e)
there (Some x) e = (x, refl)

-- a mapped option is there where the option is
mapped : {A B : Type 0} (f : A → B) (o : Option A) → is_some o ≡ true → is_some (option_map f o) ≡ true
mapped f None e = absurd (false≢true e)
mapped f (Some x) e = refl

-- an action on the store without a fault
can-change : (s : Seen) (x : Effect) → fault_of_effect x ≡ None → is_some (changes (given_for need.Nothing s) x) ≡ true
can-change s (faults f) e = absurd (none-some _ (sym e))
can-change s (stores y) e = refl

-- a test with a value
can-test : (s : Seen) (b : Option Bool) (p q : Proc) → fault_of_missing b ≡ None
    → is_some (tests (given_for need.Nothing s) b p q) ≡ true
can-test s None p q e = absurd (none-some _ (sym e))
can-test s (Some true) p q e = refl
can-test s (Some false) p q e = refl

-- a number is itself
itself : (n : ℕ) → nat_eq n n ≡ true
itself n = eq-eqb n n refl

-- a choice
can-take : (s : Seen) (bs : Branches) (n : Need) → one_of (branch_operations bs) ≡ Some n
    → is_some (act (given_for n s) (choice bs)) ≡ true
can-take s no_branches n e = absurd (none-some _ e)
can-take s (one_way o x p bs) n e = subst (λ n. is_some (act (given_for n s) (choice (one_way o x p bs))) ≡ true) (same _ n e) (rw (itself o) refl)
can-take s (request o x y body p bs) n e = subst (λ n. is_some (act (given_for n s) (choice (request o x y body p bs))) ≡ true) (same _ n e) (rw (itself o) refl)

-- a message that is sent
can-send : (s : Seen) (v : Option Tree) (f : Tree → Need) (m : Seen → Tree → Move Term) (n : Need)
    → ((x : Tree) → gift_for (f x) ≡ given.Nothing)
    → option_map f v ≡ Some n
    → is_some (elim v [ None ↦ None | Some x ↦ ungiven (given_for n s) (m (given_for n s) x) ]) ≡ true
can-send s None f m n g e = absurd (none-some _ e)
can-send s (Some x) f m n g e =
    subst (λ n. is_some (ungiven (given_for n s) (m (given_for n s) x)) ≡ true) (same (f x) n e)
    (nothing-given (record s { gift = gift_for (f x) }) (m (given_for (f x) s) x) (g x))
  where
    nothing-given : (s : Seen) (m : Move Term) → s.gift ≡ given.Nothing → is_some (ungiven s m) ≡ true
    nothing-given s m e = rw e refl

-- a binding
can-bind : (s : Seen) (v : ℕ) (r : Option Root) (n : Need) → option_map (need.Bind v) r ≡ Some n
    → is_some (elim r [ None ↦ None | Some x ↦ binds (given_for n s) v x ]) ≡ true
can-bind s v None n e = absurd (none-some _ e)
can-bind s v (Some r) n e = subst (λ n. is_some (binds (given_for n s) v r) ≡ true) (same (need.Bind v r) n e) refl

-- a form that acts
can_act : (s : Seen) (p : Proc) (n : Need) → fault_of s p ≡ None → asked s p ≡ Some n → is_some (act (given_for n s) p) ≡ true
can_act s (assign p e) n f a =
    subst (λ n. is_some (act (given_for n s) (assign p e)) ≡ true) (same need.Nothing n a) (can-change s (effect_of s.store p e) f)
can_act s (undef p) n f a =
    subst (λ n. is_some (act (given_for n s) (undef p)) ≡ true) (same need.Nothing n a) (can-change s (effect_of_undef s.store p) f)
can_act s (copy p e) n f a =
    subst (λ n. is_some (act (given_for n s) (copy p e)) ≡ true) (same need.Nothing n a) (can-change s (copied s.store p e) f)
can_act s (choose e p q) n f a =
    subst (λ n. is_some (act (given_for n s) (choose e p q)) ≡ true) (same need.Nothing n a) (can-test s (truth_of s.store e) p q f)
can_act s (repeat e p) n f a =
    subst (λ n. is_some (act (given_for n s) (repeat e p)) ≡ true) (same need.Nothing n a)
    (can-test s (truth_of s.store e) (turn_of e p) nothing f)
can_act s (install list) n f a = subst (λ n. is_some (act (given_for n s) (install list)) ≡ true) (same need.Nothing n a) refl
can_act s (comp r) n f a = subst (λ n. is_some (act (given_for n s) (comp r)) ≡ true) (same need.Nothing n a) refl
can_act s (choice bs) n f a = can-take s bs n a
can_act s (notify port op e) n f a =
    can-send s (message_value s port op e) _ (λ s v. notifies s port op v) n (λ x. refl) a
can_act s (solicit port op e x list) n f a =
    can-send s (message_value s port op e) _ (λ s v. solicits s port op v (wait s.call port op x list)) n (λ x. refl) a
can_act s (bind v e) n f a = can-bind s v (binding s.store e) n a
can_act s p n f a = absurd (none-some n a)

-- ---- a form

-- what is done by the strand that acts alone
can-alone : (b : Bool) (o : Option Need) (m : Option (Move Term)) (n : Need) → (if b then o else None) ≡ Some n
    → (o ≡ Some n → is_some m ≡ true) → is_some (if b then m else None) ≡ true
can-alone true o m n a h = h a
can-alone false o m n a h = absurd (none-some n a)

-- a form that acts, by whether it is the strand's own
can-place : (b : Bool) (s : Seen) (p : Proc) (n : Need) → (if b then fault_of s p else None) ≡ None
    → (if b then asked s p else None) ≡ Some n → is_some (if b then act (given_for n s) p else None) ≡ true
can-place true s p n f a = can_act s p n f a
can-place false s p n f a = absurd (none-some n a)

-- a scope whose body is done
can-end : (s : Seen) (q : ℕ) (h : Table) (u : State) (n : Need) → asked_of_scope u ≡ Some n
    → is_some (elim (scope_acts (given_for n s) q h u) [ None ↦ None | Some m ↦ ungiven (given_for n s) m ]) ≡ true
can-end s q h live n a =
    subst (λ n. is_some (elim (scope_acts (given_for n s) q h live) [ None ↦ None | Some m ↦ ungiven (given_for n s) m ]) ≡ true)
    (same need.Nothing n a) refl
can-end s q h (caught f) n a =
    subst (λ n. is_some (elim (scope_acts (given_for n s) q h (caught f)) [ None ↦ None | Some m ↦ ungiven (given_for n s) m ]) ≡ true)
    (same need.Nothing n a) refl
can-end s q h term n a =
    subst (λ n. is_some (elim (scope_acts (given_for n s) q h term) [ None ↦ None | Some m ↦ ungiven (given_for n s) m ]) ≡ true)
    (same need.Nothing n a) refl
can-end s q h u n a = absurd (none-some n a)

-- an answer to a request
can-reply : (s : Seen) (m : ℕ) (o : Outcome) (t : Term) (n : Need) → Some (need.Reply m o) ≡ Some n
    → is_some (ungiven (given_for n s) (replies (given_for n s) m o t)) ≡ true
can-reply s m o t n a =
    subst (λ n. is_some (ungiven (given_for n s) (replies (given_for n s) m o t)) ≡ true) (same (need.Reply m o) n a) refl

-- the answer of a call
can-answer : (s : Seen) (k port op : ℕ) (f : Seen → Read → Move Term) (n : Need) → Some (need.Answer k) ≡ Some n
    → is_some (with_answer (given_for n s) (call_of k port op) (f (given_for n s))) ≡ true
can-answer s k port op f n a =
    subst (λ n. is_some (with_answer (given_for n s) (call_of k port op) (f (given_for n s))) ≡ true) (same (need.Answer k) n a) refl

-- whichever member it is
can-member : (b : Bool) (s : Seen) (k : ℕ) (t : Term) (ts : Strands) (n : Need)
    → ◌≡◌ {A = Option Fault} (elim b [ true ↦ fault_in s k t | false ↦ fault_among s ts ]) None
    → ◌≡◌ {A = Option Need} (elim b [ true ↦ asked_in s k t | false ↦ asked_among s ts ]) (Some n)
    → (fault_in s k t ≡ None → asked_in s k t ≡ Some n → is_some (moves (given_for n s) k t) ≡ true)
    → (fault_among s ts ≡ None → asked_among s ts ≡ Some n → is_some (moves_among (given_for n s) ts) ≡ true)
    → is_some (elim b [
      | true ↦ option_map (within (λ t'. strand k t' ts)) (moves (given_for n s) k t)
      | false ↦ option_map (within (strand k t)) (moves_among (given_for n s) ts)
    ]) ≡ true
can-member true s k t ts n f a first others = mapped (within (λ t'. strand k t' ts)) (moves (given_for n s) k t) (first f a)
can-member false s k t ts n f a first others = mapped (within (strand k t)) (moves_among (given_for n s) ts) (others f a)

mutual
  -- a strand that asks has a move
  can-move : (s : Seen) (k : ℕ) (t : Term) (n : Need) → fault_in s k t ≡ None → asked_in s k t ≡ Some n
      → is_some (moves (given_for n s) k t) ≡ true
  can-move s k (place p) n f a = can-place (nat_eq s.strand k) s p n f a
  can-move s k (seq t rest) n f a = mapped (within (λ t'. seq t' rest)) (moves (given_for n s) k t) (can-move s k t n f a)
  can-move s k (par ts) n f a = mapped (within par) (moves_among (given_for n s) ts) (can-move_among s ts n f a)
  can-move s k (in_scope q done h u) n f a = can-alone (nat_eq s.strand k) (asked_of_scope u) _ n a (can-end s q h u n)
  can-move s k (in_scope q t h u) n f a =
      mapped (in_its_scope (given_for n s) q u) (moves (inside (given_for n s) q h) k t) (can-move (inside s q h) k t n f a)
  can-move s k (exec m o y done) n f a =
      can-alone (nat_eq s.strand k) (Some (need.Reply m (reply_of s o y))) _ n a (can-reply s m (reply_of s o y) done n)
  can-move s k (exec m o y t) n f a = mapped (within (exec m o y)) (moves (given_for n s) k t) (can-move s k t n f a)
  can-move s k (fail m g t) n f a =
      can-alone (nat_eq s.strand k) (Some (need.Reply m (outcome_of_fault s.parts g))) _ n a
      (can-reply s m (outcome_of_fault s.parts g) t n)
  can-move s k (wait c port op x list) n f a =
      can-alone (nat_eq s.strand k) (Some (need.Answer c)) _ n a
      (can-answer s c port op (λ s. answers s (call_of c port op) x list) n)
  can-move s k (dead_wait c port op list) n f a =
      can-alone (nat_eq s.strand k) (Some (need.Answer c)) _ n a
      (can-answer s c port op (λ s. dead_answers s (call_of c port op) list) n)
  can-move s k (prot t) n f a = mapped (within prot) (moves (given_for n s) k t) (can-move s k t n f a)
  can-move s k done n f a = absurd (none-some n a)
  can-move s k (thrown g) n f a = absurd (none-some n a)

  -- the same in members
  can-move_among : (s : Seen) (ts : Strands) (n : Need) → fault_among s ts ≡ None → asked_among s ts ≡ Some n
      → is_some (moves_among (given_for n s) ts) ≡ true
  can-move_among s no_strands n f a = absurd (none-some n a)
  can-move_among s (strand k t ts) n f a =
      can-member (stands_in s.strand k t) s k t ts n f a (can-move s k t n) (can-move_among s ts n)

-- ---- a configuration

-- a fault that is not blocked
can-raise : (c : Config) (n f : ℕ) (x : Carried Term) (m : Need) → asked_by_throw x ≡ Some m → is_some (raised c n f x) ≡ true
can-raise c n f (up t) m a = refl
can-raise c n f (caught_at t q) m a = refl
can-raise c n f (ended_at t q) m a = refl
can-raise c n f (blocked b) m a = absurd (none-some m a)
can-raise c n f absent m a = absurd (none-some m a)

-- the end
can-finish : (c : Config) (n : ℕ) (m : Need) → asked_at_end n ≡ Some m → is_some (finishes c n given.Nothing) ≡ true
can-finish c zero m a = refl
can-finish c (suc n) m a = absurd (none-some m a)

-- what the office could give a strand, by the fault that it has: nothing, for a fault or the end
abbrev gift_by : Bool → Option Fault → Need → Given
gift_by true o m = given.Nothing
gift_by false (Some f) m = given.Nothing
gift_by false None m = gift_for m

-- a strand with a fault that is raised
can-throw : (c : Config) (s : Seen) (f : Fault) → fault_in s 0 c.form ≡ Some f → is_some (raises c s.strand s.gift f) ≡ true
    → is_some (acts c s) ≡ true
can-throw c s f e h = go (fault_in s 0 c.form) e
  where
    go : (o : Option Fault) → o ≡ Some f
        → is_some (elim o [ Some f ↦ raises c s.strand s.gift f | None ↦ option_map (moved c) (moves s 0 c.form) ]) ≡ true
    go None e = absurd (none-some f e)
    go (Some g) e = subst (λ g. is_some (raises c s.strand s.gift g) ≡ true) (sym (ap (λ o. fault_or g o) e)) h

-- a strand without a fault that has a move
can-go : (c : Config) (s : Seen) → fault_in s 0 c.form ≡ None → is_some (moves s 0 c.form) ≡ true → is_some (acts c s) ≡ true
can-go c s e h = go (fault_in s 0 c.form) e
  where
    go : (o : Option Fault) → o ≡ None
        → is_some (elim o [ Some f ↦ raises c s.strand s.gift f | None ↦ option_map (moved c) (moves s 0 c.form) ]) ≡ true
    go None e = mapped (moved c) (moves s 0 c.form) h
    go (Some f) e = absurd (none-some f (sym e))

-- a strand that needs something has an event
has_event : (parts : ProgramParts) (service : ℕ) (c : Config) (n : ℕ) (m : Need)
    → needed parts service c n ≡ Some m → HasEvent parts service c n
has_event parts service c n m a =
    let g = gift_by (is_finished c.form) (fault_in s 0 c.form) m in
    let d = there (after parts service c n g) (go c.ended (is_finished c.form) (fault_in s 0 c.form) g refl refl a) in
    (g, d.0, d.1)
  where
    s : Seen
    s = seen_by parts service c n given.Nothing

    go : (ended finished : Bool) (o : Option Fault) (g : Given) → g ≡ gift_by finished o m → fault_in s 0 c.form ≡ o
        → (if ended then None else (if finished then asked_at_end n else asked_with s c.form o)) ≡ Some m
        → is_some (elim ended [
          | true ↦ None
          | false ↦ elim finished [ true ↦ finishes c n g | false ↦ acts c (seen_by parts service c n g) ]
        ]) ≡ true
    go true finished o g eg e a = absurd (none-some m a)
    go false true o g eg e a = rw eg (can-finish c n m a)
    go false false (Some f) g eg e a = rw eg (can-throw c s f e (can-raise c n f.name (throw n f 0 c.form) m a))
    go false false None g eg e a =
        let s' = seen_by parts service c n (gift_for m) in
        rw eg (can-go c s' (fault-blind s' 0 c.form ∙ e) (can-move s 0 c.form m e a))

-- and whatever the office gives, its event asks that
pub asks_for_its_event : AsksForItsEvent
asks_for_its_event parts service c n m a =
    (has_event parts service c n m a, λ g d e. sym (same m d.need (sym a ∙ needs_after parts service c n g d e)))

-- a strand that needs nothing at all has no event
pub has_no_event_unasked : HasNoEventUnasked
has_no_event_unasked parts service c n a (g, d, e) = none-some d.need (sym a ∙ needs_after parts service c n g d e)
