-- What holds of every move, from what holds of the forms that act and of what stands around them.
use Rattle.std.proofs.Common.{◌≡◌, ℕ, Bool, true, false, Option, None, Some, option_map, if◌then◌else◌, nat_eq, refl}
use Rattle.jolie_trees.specs.declared.root.Root.{Root}
use Rattle.jolie_trees.specs.Data.{Tree}
use Rattle.behaviour_tree.specs.declared.words.Kind.TheVariants as kind
use Rattle.behaviour_tree.specs.declared.words.Given.{Given}
use Rattle.behaviour_tree.specs.declared.words.Given.TheVariants as given
use Rattle.behaviour_tree.specs.Values.{truth_of}
use Rattle.behaviour_tree.specs.Data.{PathTree, Exp, Proc, nothing, assign, undef, copy, bind, choose, repeat, choice, notify, solicit, install, comp, Branches, HandlerList, Procs}
use Rattle.session_calculus.specs.Names.{correlation_error, handler_too_large}
use Rattle.session_calculus.specs.Tables.{Table, fits}
use Rattle.session_calculus.specs.Terms.{Fault, bare, Term, Strands, done, place, thrown, seq, par, in_scope, exec, fail, wait, dead_wait, prot, no_strands, strand, State, live, caught, term, stands_in}
use Rattle.session_calculus.specs.Moves.{Seen, Move, moved_to, within, quietly, starts, instead, ungiven, inside, in_its_scope}
use Rattle.session_calculus.specs.Effects.{Effect, faults, stores, effect_of, copied, effect_of_undef, received}
use Rattle.session_calculus.specs.Faults.{binding}
use Rattle.behaviour_tree.specs.FormedBehaviours.{branch_operations}
use Rattle.session_calculus.specs.Inputs.{Coming, comes, inputs}
use Rattle.session_calculus.specs.Replies.{outcome_of_fault, reply_of, replies}
use Rattle.session_calculus.specs.Calls.{message_value, notifies, solicits, binds, asks_to_bind}
use Rattle.session_calculus.specs.Answers.{Read, answered, faulted, Call, call_of, read, with_handlers, answer_comes, sets_target, answers, dead_answers, with_answer}
use Rattle.session_calculus.specs.Scopes.{installs, compensates, ends, handles_fault, handles_end, scope_acts}
use Rattle.session_calculus.specs.After.{changes, tests, turn_of, act, moves, moves_among}
use Rattle.session_laws.proofs.Options.{OnValue, OnValue-lift, OnValue-test}

-- a form that is not done
abbrev pub NotDone : Term → Type 0
NotDone done = ⊥
NotDone t = Unit {0}

-- a behaviour that writes the store
abbrev pub Writes : Proc → Type 0
Writes (assign p e) = Unit {0}
Writes (undef p) = Unit {0}
Writes (copy p e) = Unit {0}
Writes p = ⊥

-- a strand acts in its own form, and the office gave nothing
pub record Alone (s : Seen) (k : ℕ) : Type 0 where
  pub own : nat_eq s.strand k ≡ true
  pub given : s.gift ≡ given.Nothing

-- a message as it comes to the first branch
abbrev pub coming : ℕ → ℕ → Tree → Branches → Coming
coming m o v bs = record { message = m; op = o; value = v; ops = branch_operations bs; branch = 0 }

-- P holds of every move of a form, and Q of every move of members: P holds where a form acts, and both pass outward
pub record Keeps (P : Seen → ℕ → Term → Move Term → Type 0) (Q : Seen → Strands → Move Strands → Type 0) : Type 0 where
  pub store : (s : Seen) (k : ℕ) (p : Proc) (x : Tree) → Writes p → Alone s k
      → P s k (place p) (moved_to done (record (quietly s kind.Local) { store = x }))
  pub first : (s : Seen) (k : ℕ) (e : Exp) (p q : Proc) → Alone s k
      → P s k (place (choose e p q)) (starts p (quietly s kind.Local))
  pub second : (s : Seen) (k : ℕ) (e : Exp) (p q : Proc) → Alone s k
      → P s k (place (choose e p q)) (starts q (quietly s kind.Local))
  pub turn : (s : Seen) (k : ℕ) (e : Exp) (p : Proc) → Alone s k
      → P s k (place (repeat e p)) (starts (turn_of e p) (quietly s kind.Local))
  pub leave : (s : Seen) (k : ℕ) (e : Exp) (p : Proc) → Alone s k
      → P s k (place (repeat e p)) (starts nothing (quietly s kind.Local))
  pub installed : (s : Seen) (k : ℕ) (list : HandlerList) → Alone s k → P s k (place (install list)) (installs s list)
  pub compensated : (s : Seen) (k r : ℕ) → Alone s k → P s k (place (comp r)) (compensates s r)
  pub came : (s : Seen) (k : ℕ) (bs : Branches) (m o : ℕ) (v : Tree) → nat_eq s.strand k ≡ true
      → s.gift ≡ given.Mail m o v
      → OnValue (P s k (place (choice bs))) (comes s (coming m o v bs) bs)
  pub notified : (s : Seen) (k port op : ℕ) (e : Exp) (v : Tree) → Alone s k → message_value s port op e ≡ Some v
      → P s k (place (notify port op e)) (notifies s port op v)
  pub solicited : (s : Seen) (k port op : ℕ) (e : Exp) (x : Option PathTree) (list : HandlerList) (v : Tree) → Alone s k
      → message_value s port op e ≡ Some v
      → P s k (place (solicit port op e x list)) (solicits s port op v (wait s.call port op x list))
  pub bound : (s : Seen) (k v : ℕ) (e : Exp) (r : Root) → nat_eq s.strand k ≡ true → binding s.store e ≡ Some r
      → P s k (place (bind v e)) (moved_to done (asks_to_bind s v r))
  pub unbound : (s : Seen) (k v : ℕ) (e : Exp) (r : Root) → nat_eq s.strand k ≡ true → binding s.store e ≡ Some r
      → P s k (place (bind v e)) (moved_to (instead correlation_error) (asks_to_bind s v r))
  -- the answer of a call is a fault, or its handlers do not fit
  pub answer_faults : (s : Seen) (k n port op : ℕ) (x : Option PathTree) (list : HandlerList) (f : Fault)
      → nat_eq s.strand k ≡ true
      → P s k (wait n port op x list) (moved_to (thrown f) (answer_comes s (call_of n port op)))
  -- its handlers are installed, and the target would pass a limit
  pub answer_overflows : (s : Seen) (k n port op : ℕ) (x : Option PathTree) (list : HandlerList) (f : Fault)
      → nat_eq s.strand k ≡ true
      → fits s.scope s.table list ≡ true
      → P s k (wait n port op x list) (moved_to (thrown f) (with_handlers s (call_of n port op) list))
  pub answer_sets : (s : Seen) (k n port op : ℕ) (x : Option PathTree) (list : HandlerList) (y : Tree)
      → nat_eq s.strand k ≡ true
      → fits s.scope s.table list ≡ true
      → P s k (wait n port op x list) (moved_to done (record (with_handlers s (call_of n port op) list) { store = y }))
  pub dead_installs : (s : Seen) (k n port op : ℕ) (list : HandlerList) → nat_eq s.strand k ≡ true
      → fits s.scope s.table list ≡ true
      → P s k (dead_wait n port op list) (moved_to done (with_handlers s (call_of n port op) list))
  pub dead_ends : (s : Seen) (k n port op : ℕ) (list : HandlerList) → nat_eq s.strand k ≡ true
      → P s k (dead_wait n port op list) (moved_to done (answer_comes s (call_of n port op)))
  pub ended : (s : Seen) (k q : ℕ) (h : Table) → Alone s k → P s k (in_scope q done h live) (ends s q h)
  pub handled : (s : Seen) (k q : ℕ) (h : Table) (f : Fault) → Alone s k
      → P s k (in_scope q done h (caught f)) (handles_fault s q h f)
  pub terminated : (s : Seen) (k q : ℕ) (h : Table) → Alone s k → P s k (in_scope q done h term) (handles_end s q h)
  pub replied : (s : Seen) (k m o : ℕ) (y : Option PathTree) → Alone s k
      → P s k (exec m o y done) (replies s m (reply_of s o y) done)
  pub told : (s : Seen) (k m : ℕ) (f : Fault) (t : Term) → Alone s k
      → P s k (fail m f t) (replies s m (outcome_of_fault s.parts f) t)
  -- outward
  pub in_head : (s : Seen) (k : ℕ) (t : Term) (rest : Procs) (m : Move Term) → P s k t m
      → P s k (seq t rest) (within (λ t'. seq t' rest) m)
  pub in_members : (s : Seen) (k : ℕ) (ts : Strands) (m : Move Strands) → Q s ts m → P s k (par ts) (within par m)
  pub in_body : (s : Seen) (k q : ℕ) (t : Term) (h : Table) (u : State) (m : Move Term) → NotDone t
      → P (inside s q h) k t m
      → P s k (in_scope q t h u) (in_its_scope s q u m)
  pub in_request : (s : Seen) (k n o : ℕ) (y : Option PathTree) (t : Term) (m : Move Term) → NotDone t → P s k t m
      → P s k (exec n o y t) (within (exec n o y) m)
  pub in_prot : (s : Seen) (k : ℕ) (t : Term) (m : Move Term) → P s k t m → P s k (prot t) (within prot m)
  pub in_member : (s : Seen) (k : ℕ) (t : Term) (ts : Strands) (m : Move Term) → stands_in s.strand k t ≡ true
      → P s k t m
      → Q s (strand k t ts) (within (λ t'. strand k t' ts) m)
  pub in_others : (s : Seen) (k : ℕ) (t : Term) (ts : Strands) (m : Move Strands) → stands_in s.strand k t ≡ false
      → Q s ts m
      → Q s (strand k t ts) (within (strand k t) m)

-- where nothing is given
pub OnValue-alone : (P : Move Term → Type 0) (s : Seen) (k : ℕ) (m : Move Term) → nat_eq s.strand k ≡ true
    → (Alone s k → P m)
    → OnValue P (ungiven s m)
OnValue-alone P s k m own h = go s.gift refl
  where
    go : (g : Given) → s.gift ≡ g → OnValue P (elim g [ given.Nothing ↦ Some m | _ ↦ None ])
    go given.Nothing e = h (record { own = own; given = e })
    go g e = tt

module _ (P : Seen → ℕ → Term → Move Term → Type 0) (Q : Seen → Strands → Move Strands → Type 0)
    (keeps : Keeps P Q) where
  -- an action on the store
  keeps-changes : (s : Seen) (k : ℕ) (p : Proc) (e : Effect) → Writes p → nat_eq s.strand k ≡ true
      → OnValue (P s k (place p)) (changes s e)
  keeps-changes s k p (faults f) w own = tt
  keeps-changes s k p (stores x) w own =
      OnValue-alone (P s k (place p)) s k (moved_to done (record (quietly s kind.Local) { store = x })) own
      (keeps.store s k p x w)

  -- a test
  keeps-tests : (s : Seen) (k : ℕ) (a : Proc) (b : Option Bool) (p q : Proc) → nat_eq s.strand k ≡ true
      → (Alone s k → P s k (place a) (starts p (quietly s kind.Local)))
      → (Alone s k → P s k (place a) (starts q (quietly s kind.Local)))
      → OnValue (P s k (place a)) (tests s b p q)
  keeps-tests s k a None p q own h h' = tt
  keeps-tests s k a (Some true) p q own h h' =
      OnValue-alone (P s k (place a)) s k (starts p (quietly s kind.Local)) own h
  keeps-tests s k a (Some false) p q own h h' =
      OnValue-alone (P s k (place a)) s k (starts q (quietly s kind.Local)) own h'

  -- a choice
  keeps-inputs : (s : Seen) (k : ℕ) (bs : Branches) → nat_eq s.strand k ≡ true
      → OnValue (P s k (place (choice bs))) (inputs s bs)
  keeps-inputs s k bs own = go s.gift refl
    where
      go : (g : Given) → s.gift ≡ g
          → OnValue (P s k (place (choice bs))) (elim g [ given.Mail m o v ↦ comes s (coming m o v bs) bs | _ ↦ None ])
      go (given.Mail m o v) e = keeps.came s k bs m o v own e
      go g e = tt

  -- a message that is sent
  keeps-sends : (s : Seen) (k : ℕ) (p : Proc) (v : Option Tree) (f : Tree → Move Term) → nat_eq s.strand k ≡ true
      → ((x : Tree) → Alone s k → v ≡ Some x → P s k (place p) (f x))
      → OnValue (P s k (place p)) (elim v [ None ↦ None | Some x ↦ ungiven s (f x) ])
  keeps-sends s k p None f own h = tt
  keeps-sends s k p (Some x) f own h = OnValue-alone (P s k (place p)) s k (f x) own (λ a. h x a refl)

  -- a binding
  keeps-binds : (s : Seen) (k v : ℕ) (e : Exp) (b : Option Root) → nat_eq s.strand k ≡ true → binding s.store e ≡ b
      → OnValue (P s k (place (bind v e))) (elim b [ None ↦ None | Some r ↦ binds s v r ])
  keeps-binds s k v e None own eq = tt
  keeps-binds s k v e (Some r) own eq = go s.gift
    where
      go : (g : Given)
          → OnValue (P s k (place (bind v e)))
          (elim g [
            | given.Bound ↦ Some (moved_to done (asks_to_bind s v r))
            | given.Held t ↦ Some (moved_to (instead correlation_error) (asks_to_bind s v r))
            | given.Fixed ↦ Some (moved_to (instead correlation_error) (asks_to_bind s v r))
            | _ ↦ None
          ])
      go given.Bound = keeps.bound s k v e r own eq
      go (given.Held t) = keeps.unbound s k v e r own eq
      go given.Fixed = keeps.unbound s k v e r own eq
      go g = tt

  -- what a behaviour does
  keeps-act : (s : Seen) (k : ℕ) (p : Proc) → nat_eq s.strand k ≡ true → OnValue (P s k (place p)) (act s p)
  keeps-act s k (assign p e) own = keeps-changes s k (assign p e) (effect_of s.store p e) tt own
  keeps-act s k (undef p) own = keeps-changes s k (undef p) (effect_of_undef s.store p) tt own
  keeps-act s k (copy p e) own = keeps-changes s k (copy p e) (copied s.store p e) tt own
  keeps-act s k (choose e p q) own =
      keeps-tests s k (choose e p q) (truth_of s.store e) p q own (keeps.first s k e p q) (keeps.second s k e p q)
  keeps-act s k (repeat e p) own =
      keeps-tests s k (repeat e p) (truth_of s.store e) (turn_of e p) nothing own (keeps.turn s k e p)
      (keeps.leave s k e p)
  keeps-act s k (install list) own =
      OnValue-alone (P s k (place (install list))) s k (installs s list) own (keeps.installed s k list)
  keeps-act s k (comp r) own =
      OnValue-alone (P s k (place (comp r))) s k (compensates s r) own (keeps.compensated s k r)
  keeps-act s k (choice bs) own = keeps-inputs s k bs own
  keeps-act s k (notify port op e) own =
      keeps-sends s k (notify port op e) (message_value s port op e) (notifies s port op) own
      (keeps.notified s k port op e)
  keeps-act s k (solicit port op e x list) own =
      keeps-sends s k (solicit port op e x list) (message_value s port op e)
      (λ v. solicits s port op v (wait s.call port op x list)) own (keeps.solicited s k port op e x list)
  keeps-act s k (bind v e) own = keeps-binds s k v e (binding s.store e) own refl
  keeps-act s k p own = tt

  -- an answer for a call that waits
  keeps-answers : (s : Seen) (k n port op : ℕ) (x : Option PathTree) (list : HandlerList) (r : Read)
      → nat_eq s.strand k ≡ true
      → P s k (wait n port op x list) (answers s (call_of n port op) x list r)
  keeps-answers s k n port op x list (faulted f) own = keeps.answer_faults s k n port op x list f own
  keeps-answers s k n port op x list (answered v) own = go (fits s.scope s.table list) refl
    where
      sets : (e : Effect) → fits s.scope s.table list ≡ true
          → P s k (wait n port op x list) (sets_target (with_handlers s (call_of n port op) list) e)
      sets (faults f) fit = keeps.answer_overflows s k n port op x list (bare f) own fit
      sets (stores y) fit = keeps.answer_sets s k n port op x list y own fit

      go : (b : Bool) → fits s.scope s.table list ≡ b
          → P s k (wait n port op x list)
          (elim b [
            | false ↦ moved_to (instead handler_too_large) (answer_comes s (call_of n port op))
            | true ↦ sets_target (with_handlers s (call_of n port op) list) (received s.store x v)
          ])
      go true fit = sets (received s.store x v) fit
      go false fit = keeps.answer_faults s k n port op x list (bare handler_too_large) own

  -- an answer for a call that was killed
  keeps-dead_answers : (s : Seen) (k n port op : ℕ) (list : HandlerList) (r : Read) → nat_eq s.strand k ≡ true
      → P s k (dead_wait n port op list) (dead_answers s (call_of n port op) list r)
  keeps-dead_answers s k n port op list (faulted f) own = keeps.dead_ends s k n port op list own
  keeps-dead_answers s k n port op list (answered v) own = go (fits s.scope s.table list) refl
    where
      go : (b : Bool) → fits s.scope s.table list ≡ b
          → P s k (dead_wait n port op list)
          (moved_to done (if b then with_handlers s (call_of n port op) list else answer_comes s (call_of n port op)))
      go true fit = keeps.dead_installs s k n port op list own fit
      go false fit = keeps.dead_ends s k n port op list own

  -- what the office gave for a call
  keeps-given : (s : Seen) (k : ℕ) (t : Term) (c : Call) (f : Read → Move Term) → ((r : Read) → P s k t (f r))
      → OnValue (P s k t) (with_answer s c f)
  keeps-given s k t c f h = go s.gift
    where
      go : (g : Given) → OnValue (P s k t) (elim g [ given.Answer o ↦ Some (f (read s c o)) | _ ↦ None ])
      go (given.Answer o) = h (read s c o)
      go g = tt

  -- a scope whose body is done
  keeps-scope : (s : Seen) (k q : ℕ) (h : Table) (u : State) → nat_eq s.strand k ≡ true
      → OnValue (P s k (in_scope q done h u)) (elim (scope_acts s q h u) [ None ↦ None | Some m ↦ ungiven s m ])
  keeps-scope s k q h live own =
      OnValue-alone (P s k (in_scope q done h live)) s k (ends s q h) own (keeps.ended s k q h)
  keeps-scope s k q h (caught f) own =
      OnValue-alone (P s k (in_scope q done h (caught f))) s k (handles_fault s q h f) own (keeps.handled s k q h f)
  keeps-scope s k q h term own =
      OnValue-alone (P s k (in_scope q done h term)) s k (handles_end s q h) own (keeps.terminated s k q h)
  keeps-scope s k q h u own = tt

  -- whichever member it is
  keeps-member : (s : Seen) (k : ℕ) (t : Term) (ts : Strands) (b : Bool) → stands_in s.strand k t ≡ b
      → OnValue (P s k t) (moves s k t)
      → OnValue (Q s ts) (moves_among s ts)
      → OnValue (Q s (strand k t ts))
      (elim b [
        | true ↦ option_map (within (λ t'. strand k t' ts)) (moves s k t)
        | false ↦ option_map (within (strand k t)) (moves_among s ts)
      ])
  keeps-member s k t ts true e here there =
      OnValue-lift (P s k t) (Q s (strand k t ts)) (within (λ t'. strand k t' ts)) (moves s k t)
      (λ m. keeps.in_member s k t ts m e) here
  keeps-member s k t ts false e here there =
      OnValue-lift (Q s ts) (Q s (strand k t ts)) (within (strand k t)) (moves_among s ts)
      (λ m. keeps.in_others s k t ts m e) there

  -- a body that is not done
  keeps-body : (s : Seen) (k q : ℕ) (t : Term) (h : Table) (u : State) → NotDone t
      → OnValue (P (inside s q h) k t) (moves (inside s q h) k t)
      → OnValue (P s k (in_scope q t h u)) (option_map (in_its_scope s q u) (moves (inside s q h) k t))
  keeps-body s k q t h u n here =
      OnValue-lift (P (inside s q h) k t) (P s k (in_scope q t h u)) (in_its_scope s q u) (moves (inside s q h) k t)
      (λ m. keeps.in_body s k q t h u m n) here

  -- a request whose body is not done
  keeps-request : (s : Seen) (k n o : ℕ) (y : Option PathTree) (t : Term) → NotDone t → OnValue (P s k t) (moves s k t)
      → OnValue (P s k (exec n o y t)) (option_map (within (exec n o y)) (moves s k t))
  keeps-request s k n o y t d here =
      OnValue-lift (P s k t) (P s k (exec n o y t)) (within (exec n o y)) (moves s k t)
      (λ m. keeps.in_request s k n o y t m d) here

  mutual
    -- of every move
    pub keeps-moves : (s : Seen) (k : ℕ) (t : Term) → OnValue (P s k t) (moves s k t)
    keeps-moves s k (place p) = OnValue-test (nat_eq s.strand k) (P s k (place p)) (act s p) (keeps-act s k p)
    keeps-moves s k (seq t rest) =
        OnValue-lift (P s k t) (P s k (seq t rest)) (within (λ t'. seq t' rest)) (moves s k t)
        (keeps.in_head s k t rest) (keeps-moves s k t)
    keeps-moves s k (par ts) =
        OnValue-lift (Q s ts) (P s k (par ts)) (within par) (moves_among s ts) (keeps.in_members s k ts)
        (keeps-moves_among s ts)
    keeps-moves s k (in_scope q done h u) =
        OnValue-test (nat_eq s.strand k) (P s k (in_scope q done h u))
        (elim (scope_acts s q h u) [ None ↦ None | Some m ↦ ungiven s m ])
        (keeps-scope s k q h u)
    keeps-moves s k (in_scope q t h u) = keeps-body s k q t h u tt (keeps-moves (inside s q h) k t)
    keeps-moves s k (exec m o y done) =
        OnValue-test (nat_eq s.strand k) (P s k (exec m o y done)) (ungiven s (replies s m (reply_of s o y) done))
        (λ own. OnValue-alone (P s k (exec m o y done)) s k (replies s m (reply_of s o y) done) own
        (keeps.replied s k m o y))
    keeps-moves s k (exec m o y t) = keeps-request s k m o y t tt (keeps-moves s k t)
    keeps-moves s k (fail m f t) =
        OnValue-test (nat_eq s.strand k) (P s k (fail m f t)) (ungiven s (replies s m (outcome_of_fault s.parts f) t))
        (λ own. OnValue-alone (P s k (fail m f t)) s k (replies s m (outcome_of_fault s.parts f) t) own
        (keeps.told s k m f t))
    keeps-moves s k (wait n port op x list) =
        let c = call_of n port op in
        OnValue-test (nat_eq s.strand k) (P s k (wait n port op x list)) (with_answer s c (answers s c x list))
        (λ own. keeps-given s k (wait n port op x list) c (answers s c x list)
        (λ r. keeps-answers s k n port op x list r own))
    keeps-moves s k (dead_wait n port op list) =
        let c = call_of n port op in
        OnValue-test (nat_eq s.strand k) (P s k (dead_wait n port op list)) (with_answer s c (dead_answers s c list))
        (λ own. keeps-given s k (dead_wait n port op list) c (dead_answers s c list)
        (λ r. keeps-dead_answers s k n port op list r own))
    keeps-moves s k (prot t) =
        OnValue-lift (P s k t) (P s k (prot t)) (within prot) (moves s k t) (keeps.in_prot s k t) (keeps-moves s k t)
    keeps-moves s k t = tt

    -- of every move of members
    pub keeps-moves_among : (s : Seen) (ts : Strands) → OnValue (Q s ts) (moves_among s ts)
    keeps-moves_among s no_strands = tt
    keeps-moves_among s (strand k t ts) =
        keeps-member s k t ts (stands_in s.strand k t) refl (keeps-moves s k t) (keeps-moves_among s ts)
