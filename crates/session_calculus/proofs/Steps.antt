-- Whose event a move is, and that it does not end the session.
use Rattle.std.proofs.Common.{◌≡◌, ℕ, Bool, true, false, Option, None, Some, option_map, if◌then◌else◌, nat_eq, refl}
use Rattle.jolie_trees.specs.declared.root.Root.{Root}
use Rattle.jolie_trees.specs.Data.{Tree}
use Rattle.behaviour_tree.specs.declared.words.Kind.{Kind}
use Rattle.behaviour_tree.specs.declared.words.Kind.TheVariants as kind
use Rattle.behaviour_tree.specs.declared.words.Event.{Event}
use Rattle.behaviour_tree.specs.declared.words.Given.{Given}
use Rattle.behaviour_tree.specs.declared.words.Given.TheVariants as given
use Rattle.behaviour_tree.specs.Values.{truth_of}
use Rattle.behaviour_tree.specs.Data.{PathTree, Proc, nothing, assign, undef, copy, bind, choose, repeat, choice, notify, solicit, install, comp, Branches, no_branches, one_way, request, HandlerList}
use Rattle.session_calculus.specs.Names.{correlation_error, handler_too_large}
use Rattle.session_calculus.specs.Tables.{Table, fits}
use Rattle.session_calculus.specs.Terms.{Term, Strands, done, place, seq, par, in_scope, exec, fail, wait, dead_wait, prot, no_strands, strand, State, live, caught, term, stands_in}
use Rattle.session_calculus.specs.Moves.{Seen, Made, Move, moved_to, within, quietly, starts, instead, ungiven, inside, in_its_scope}
use Rattle.session_calculus.specs.Effects.{Effect, faults, stores, effect_of, copied, effect_of_undef, received}
use Rattle.session_calculus.specs.Faults.{binding}
use Rattle.behaviour_tree.specs.FormedBehaviours.{branch_operations}
use Rattle.session_calculus.specs.Inputs.{Coming, past, asked, goes_on, comes, inputs}
use Rattle.session_calculus.specs.Replies.{outcome_of_fault, reply_of, replies}
use Rattle.session_calculus.specs.Calls.{message_value, notifies, solicits, binds, asks_to_bind}
use Rattle.session_calculus.specs.Answers.{Read, answered, faulted, Call, call_of, read, with_handlers, answer_comes, sets_target, value_comes, answers, dead_answers, with_answer}
use Rattle.session_calculus.specs.Scopes.{installs, compensates, scope_acts}
use Rattle.session_calculus.specs.After.{changes, tests, turn_of, act, moves, moves_among}
use Rattle.session_calculus.proofs.Options.{OnValue, OnValue-map, OnValue-if, OnValue-elim}

-- the event Finish
abbrev pub is_finish : Kind → Bool
is_finish kind.Finish = true
is_finish k = false

-- the event is of strand n, and it does not end the session
abbrev pub IsStep : ℕ → Event → Type 0
IsStep n e = (e.strand ≡ n) × (is_finish e.kind ≡ false)

-- the event Raise
abbrev pub is_raise : Kind → Bool
is_raise kind.Raise = true
is_raise k = false

-- such an event that raises no fault
abbrev pub IsMove : ℕ → Event → Type 0
IsMove n e = IsStep n e × (is_raise e.kind ≡ false)

-- a move of strand n
abbrev pub Steps : {A : Type 0} → ℕ → Move A → Type 0
Steps n m = IsMove n m.made.event

-- what holds of a move holds of it where nothing was given
pub OnValue-ungiven : (P : Move Term → Type 0) (s : Seen) (m : Move Term) → P m → OnValue P (ungiven s m)
OnValue-ungiven P s m h = go s.gift
  where
    go : (g : Given) → OnValue P (elim g [ given.Nothing ↦ Some m | _ ↦ None ])
    go given.Nothing = h
    go g = tt

-- what holds of each read answer holds of the one that was given
pub OnValue-with_answer : (P : Move Term → Type 0) (s : Seen) (c : Call) (f : Read → Move Term) → ((r : Read) → P (f r))
    → OnValue P (with_answer s c f)
OnValue-with_answer P s c f h = go s.gift
  where
    go : (g : Given) → OnValue P (elim g [ given.Answer o ↦ Some (f (read s c o)) | _ ↦ None ])
    go (given.Answer o) = h (read s c o)
    go g = tt

-- an action on the store
step-changes : (s : Seen) (e : Effect) → OnValue (Steps s.strand) (changes s e)
step-changes s (faults f) = tt
step-changes s (stores store) =
    OnValue-ungiven (Steps s.strand) s (moved_to done (record (quietly s kind.Local) { store = store })) ((refl, refl), refl)

-- a test
step-tests : (s : Seen) (t : Option Bool) (p q : Proc) → OnValue (Steps s.strand) (tests s t p q)
step-tests s None p q = tt
step-tests s (Some true) p q = OnValue-ungiven (Steps s.strand) s (starts p (quietly s kind.Local)) ((refl, refl), refl)
step-tests s (Some false) p q = OnValue-ungiven (Steps s.strand) s (starts q (quietly s kind.Local)) ((refl, refl), refl)

-- a message that came
step-goes_on : (s : Seen) (m : Coming) (p : Proc) (e : Effect) → Steps s.strand (goes_on s m p e)
step-goes_on s m p (faults f) = ((refl, refl), refl)
step-goes_on s m p (stores store) = ((refl, refl), refl)

-- a message that comes to branches
step-comes : (s : Seen) (m : Coming) (bs : Branches) → OnValue (Steps s.strand) (comes s m bs)
step-comes s m no_branches = tt
step-comes s m (one_way o x p bs) =
    OnValue-if (nat_eq o m.op) (Steps s.strand) (Some (goes_on s m p (received s.store x m.value))) (comes s (past m) bs)
    (step-goes_on s m p (received s.store x m.value)) (step-comes s (past m) bs)
step-comes s m (request o x y body p bs) =
    OnValue-if (nat_eq o m.op) (Steps s.strand)
    (Some (within (asked m y p) (goes_on s m body (received s.store x m.value)))) (comes s (past m) bs)
    (step-goes_on s m body (received s.store x m.value)) (step-comes s (past m) bs)

-- a choice
step-inputs : (s : Seen) (bs : Branches) → OnValue (Steps s.strand) (inputs s bs)
step-inputs s bs = go s.gift
  where
    go : (g : Given)
        → OnValue (Steps s.strand)
        (elim g [
          | given.Mail m o v ↦ comes s (record { message = m; op = o; value = v; ops = branch_operations bs; branch = 0 }) bs
          | _ ↦ None
        ])
    go (given.Mail m o v) = step-comes s (record { message = m; op = o; value = v; ops = branch_operations bs; branch = 0 }) bs
    go g = tt

-- a binding
step-binds : (s : Seen) (v : ℕ) (r : Root) → OnValue (Steps s.strand) (binds s v r)
step-binds s v r = go s.gift
  where
    go : (g : Given)
        → OnValue (Steps s.strand)
        (elim g [
          | given.Bound ↦ Some (moved_to done (asks_to_bind s v r))
          | given.Held t ↦ Some (moved_to (instead correlation_error) (asks_to_bind s v r))
          | given.Fixed ↦ Some (moved_to (instead correlation_error) (asks_to_bind s v r))
          | _ ↦ None
        ])
    go given.Bound = ((refl, refl), refl)
    go (given.Held t) = ((refl, refl), refl)
    go given.Fixed = ((refl, refl), refl)
    go g = tt

-- what a behaviour does
step-act : (s : Seen) (p : Proc) → OnValue (Steps s.strand) (act s p)
step-act s (assign p e) = step-changes s (effect_of s.store p e)
step-act s (undef p) = step-changes s (effect_of_undef s.store p)
step-act s (copy p e) = step-changes s (copied s.store p e)
step-act s (choose e p q) = step-tests s (truth_of s.store e) p q
step-act s (repeat e body) = step-tests s (truth_of s.store e) (turn_of e body) nothing
step-act s (install list) = OnValue-ungiven (Steps s.strand) s (installs s list) ((refl, refl), refl)
step-act s (comp r) = OnValue-ungiven (Steps s.strand) s (compensates s r) ((refl, refl), refl)
step-act s (choice bs) = step-inputs s bs
step-act s (notify port op e) =
    OnValue-elim (Steps s.strand) (message_value s port op e) (λ v. ungiven s (notifies s port op v))
    (λ v. OnValue-ungiven (Steps s.strand) s (notifies s port op v) ((refl, refl), refl))
step-act s (solicit port op e x list) =
    OnValue-elim (Steps s.strand) (message_value s port op e)
    (λ v. ungiven s (solicits s port op v (wait s.call port op x list)))
    (λ v. OnValue-ungiven (Steps s.strand) s (solicits s port op v (wait s.call port op x list)) ((refl, refl), refl))
step-act s (bind v e) = OnValue-elim (Steps s.strand) (binding s.store e) (binds s v) (step-binds s v)
step-act s p = tt

-- the target of a call
step-sets_target : (n : ℕ) (m : Made) (e : Effect) → IsMove n m.event → Steps n (sets_target m e)
step-sets_target n m (faults f) h = h
step-sets_target n m (stores store) h = h

-- a value for a call that waits
step-value_comes : (s : Seen) (c : Call) (x : Option PathTree) (list : HandlerList) (v : Tree) → Steps s.strand (value_comes s c x list v)
step-value_comes s c x list v = go (fits s.scope s.table list)
  where
    go : (b : Bool)
        → Steps s.strand
        (elim b [
          | false ↦ moved_to (instead handler_too_large) (answer_comes s c)
          | true ↦ sets_target (with_handlers s c list) (received s.store x v)
        ])
    go true = step-sets_target s.strand (with_handlers s c list) (received s.store x v) ((refl, refl), refl)
    go false = ((refl, refl), refl)

-- an answer for a call that waits
step-answers : (s : Seen) (c : Call) (x : Option PathTree) (list : HandlerList) (r : Read) → Steps s.strand (answers s c x list r)
step-answers s c x list (answered v) = step-value_comes s c x list v
step-answers s c x list (faulted f) = ((refl, refl), refl)

-- one of two
IsMove-if : (n : ℕ) (b : Bool) (m m' : Made) → IsMove n m.event → IsMove n m'.event → IsMove n (if b then m else m').event
IsMove-if n true m m' h h' = h
IsMove-if n false m m' h h' = h'

-- an answer for a call that was killed
step-dead_answers : (s : Seen) (c : Call) (list : HandlerList) (r : Read) → Steps s.strand (dead_answers s c list r)
step-dead_answers s c list (answered v) =
    IsMove-if s.strand (fits s.scope s.table list) (with_handlers s c list) (answer_comes s c) ((refl, refl), refl) ((refl, refl), refl)
step-dead_answers s c list (faulted f) = ((refl, refl), refl)

-- a scope whose body is done
step-scope_acts : (s : Seen) (q : ℕ) (h : Table) (u : State) → OnValue (Steps s.strand) (scope_acts s q h u)
step-scope_acts s q h live = ((refl, refl), refl)
step-scope_acts s q h (caught f) = ((refl, refl), refl)
step-scope_acts s q h term = ((refl, refl), refl)
step-scope_acts s q h u = tt

-- the same where nothing was given
pub OnValue-scope : (P : Move Term → Type 0) (s : Seen) (o : Option (Move Term)) → OnValue P o
    → OnValue P (elim o [ None ↦ None | Some m ↦ ungiven s m ])
OnValue-scope P s None h = tt
OnValue-scope P s (Some m) h = OnValue-ungiven P s m h

-- whichever member it is
step-member : (s : Seen) (k : ℕ) (t : Term) (ts : Strands) (b : Bool) → OnValue (Steps s.strand) (moves s k t)
    → OnValue (Steps s.strand) (moves_among s ts)
    → OnValue (Steps s.strand)
    (elim b [
      | true ↦ option_map (within (λ t'. strand k t' ts)) (moves s k t)
      | false ↦ option_map (within (strand k t)) (moves_among s ts)
    ])
step-member s k t ts true here there = OnValue-map (Steps s.strand) (within (λ t'. strand k t' ts)) (moves s k t) here
step-member s k t ts false here there = OnValue-map (Steps s.strand) (within (strand k t)) (moves_among s ts) there

mutual
  -- a move is an event of its strand, and does not end the session
  pub step-moves : (s : Seen) (k : ℕ) (t : Term) → OnValue (Steps s.strand) (moves s k t)
  step-moves s k (place p) = OnValue-if (nat_eq s.strand k) (Steps s.strand) (act s p) None (step-act s p) tt
  step-moves s k (seq t rest) = OnValue-map (Steps s.strand) (within (λ t'. seq t' rest)) (moves s k t) (step-moves s k t)
  step-moves s k (par ts) = OnValue-map (Steps s.strand) (within par) (moves_among s ts) (step-moves_among s ts)
  step-moves s k (in_scope q done h u) =
      OnValue-if (nat_eq s.strand k) (Steps s.strand) (elim (scope_acts s q h u) [ None ↦ None | Some m ↦ ungiven s m ]) None
      (OnValue-scope (Steps s.strand) s (scope_acts s q h u) (step-scope_acts s q h u)) tt
  step-moves s k (in_scope q t h u) =
      OnValue-map (Steps s.strand) (in_its_scope s q u) (moves (inside s q h) k t) (step-moves (inside s q h) k t)
  step-moves s k (exec m o y done) =
      OnValue-if (nat_eq s.strand k) (Steps s.strand) (ungiven s (replies s m (reply_of s o y) done)) None
      (OnValue-ungiven (Steps s.strand) s (replies s m (reply_of s o y) done) ((refl, refl), refl)) tt
  step-moves s k (exec m o y t) = OnValue-map (Steps s.strand) (within (exec m o y)) (moves s k t) (step-moves s k t)
  step-moves s k (fail m f t) =
      OnValue-if (nat_eq s.strand k) (Steps s.strand) (ungiven s (replies s m (outcome_of_fault s.parts f) t)) None
      (OnValue-ungiven (Steps s.strand) s (replies s m (outcome_of_fault s.parts f) t) ((refl, refl), refl)) tt
  step-moves s k (wait n port op x list) =
      let c = call_of n port op in
      OnValue-if (nat_eq s.strand k) (Steps s.strand) (with_answer s c (answers s c x list)) None
      (OnValue-with_answer (Steps s.strand) s c (answers s c x list) (step-answers s c x list)) tt
  step-moves s k (dead_wait n port op list) =
      let c = call_of n port op in
      OnValue-if (nat_eq s.strand k) (Steps s.strand) (with_answer s c (dead_answers s c list)) None
      (OnValue-with_answer (Steps s.strand) s c (dead_answers s c list) (step-dead_answers s c list)) tt
  step-moves s k (prot t) = OnValue-map (Steps s.strand) (within prot) (moves s k t) (step-moves s k t)
  step-moves s k t = tt

  -- the same in a member
  pub step-moves_among : (s : Seen) (ts : Strands) → OnValue (Steps s.strand) (moves_among s ts)
  step-moves_among s no_strands = tt
  step-moves_among s (strand k t ts) = step-member s k t ts (stands_in s.strand k t) (step-moves s k t) (step-moves_among s ts)
