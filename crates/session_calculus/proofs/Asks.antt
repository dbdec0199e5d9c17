-- Which requests an event opens, and which it answers.
use Rattle.std.proofs.Common.{◌≡◌, ℕ, zero, ◌+◌, Bool, true, false, ◌&&◌, List, [], ◌∷◌, ◌++◌, Option, None, Some, option_map, unwrap_or, if◌then◌else◌, nat_eq, refl, sym, ap, ◌∙◌, subst, arith}
use Rattle.std.proofs.lemmas.List.Sums.{sum_by-cons}
use Rattle.jolie_trees.specs.declared.root.Root.{Root}
use Rattle.jolie_trees.specs.Data.{Tree}
use Rattle.behaviour_tree.specs.declared.words.Kind.TheVariants as kind
use Rattle.behaviour_tree.specs.declared.words.Event.{Event}
use Rattle.behaviour_tree.specs.declared.words.Given.{Given}
use Rattle.behaviour_tree.specs.declared.words.Given.TheVariants as given
use Rattle.behaviour_tree.specs.declared.words.Outcome.{Outcome}
use Rattle.behaviour_tree.specs.Values.{truth_of}
use Rattle.behaviour_tree.specs.Data.{PathTree, Proc, nothing, assign, undef, copy, bind, choose, repeat, choice, notify, solicit, install, comp, Branches, no_branches, one_way, request, HandlerList, ProgramParts}
use Rattle.session_calculus.specs.Names.{correlation_error, handler_too_large}
use Rattle.session_calculus.specs.Tables.{Table, entry, or_nothing, fits}
use Rattle.session_calculus.specs.Terms.{Term, Strands, done, place, seq, par, in_scope, exec, fail, wait, dead_wait, prot, no_strands, strand, State, live, caught, term, stands_in}
use Rattle.session_calculus.specs.Start.{start}
use Rattle.session_calculus.specs.Throw.{Carried, up, caught_at, ended_at, blocked, absent, throw}
use Rattle.session_calculus.specs.Moves.{Seen, Made, Move, moved_to, within, quietly, starts, instead, ungiven, inside, in_its_scope}
use Rattle.session_calculus.specs.Effects.{Effect, faults, stores, effect_of, copied, effect_of_undef, received}
use Rattle.session_calculus.specs.Faults.{binding}
use Rattle.behaviour_tree.specs.FormedBehaviours.{branch_operations}
use Rattle.session_calculus.specs.Inputs.{Coming, past, asked, goes_on, comes, inputs}
use Rattle.session_calculus.specs.Replies.{outcome_of_fault, reply_of, replies}
use Rattle.session_calculus.specs.Calls.{message_value, notifies, solicits, binds, asks_to_bind}
use Rattle.session_calculus.specs.Answers.{Read, answered, faulted, Call, call_of, with_handlers, answer_comes, sets_target, value_comes, answers, dead_answers, with_answer}
use Rattle.session_calculus.specs.Scopes.{installs, compensates, scope_acts}
use Rattle.session_calculus.specs.After.{Config, Done, changes, tests, turn_of, act, moves, moves_among, raised, moved, finishes, seen_by, after}
use Rattle.session_calculus.specs.Open.{held, held_among, only, none, open_requests}
use Rattle.session_calculus.specs.Runs.{TakenStep}
use Rattle.session_calculus.specs.Laws.{times_replied, times_open, is_request_of, place_in, place_among, asks, is_asked, times_asked, AnswersAll}
use Rattle.session_calculus.proofs.Options.{OnValue, OnValue-map, OnValue-if, OnValue-elim, OnValue-imp, OnValue-some}
use Rattle.session_calculus.proofs.Counting.{once, times, times-cons, times-append, put_aside, put_before, add_up}
use Rattle.session_calculus.proofs.Kept.{held-start, held-normal}
use Rattle.session_calculus.proofs.Upward.{Leaves, held-throw}
use Rattle.session_calculus.proofs.Steps.{OnValue-ungiven, OnValue-with_answer, OnValue-scope}
use Rattle.session_calculus.proofs.Endings.{after-split, acts-split}

-- an event answers message m
abbrev pub replies_to : ℕ → Event → Bool
replies_to m e = elim e.kind [ kind.Reply ↦ nat_eq m e.number | _ ↦ false ]

-- what is open after an event: what was open before and what asked, but for what was answered
abbrev pub Opens : ℕ → ℕ → Bool → List ℕ → Event → Type 0
Opens m before opened ns e = times m ns + once (replies_to m e) ≡ before + once opened

-- a move after which so much is open
abbrev pub Leaving : ℕ → ℕ → Bool → Move Term → Type 0
Leaving m before opened x = Opens m before opened (held only none x.form) x.made.event

-- the same of members
abbrev pub LeavingAmong : ℕ → ℕ → Bool → Move Strands → Type 0
LeavingAmong m before opened x = Opens m before opened (held_among only none x.form) x.made.event

-- a behaviour that starts opens nothing
starts_quiet : (k : ℕ) (p : Proc) (n : ℕ) → times k (held only none (start p n).form) + 0 ≡ 0 + 0
starts_quiet k p n = ap (λ ns. times k ns + 0) (held-start only none p n)

-- an action on the store
opens-changes : (k : ℕ) (s : Seen) (e : Effect) → OnValue (Leaving k 0 false) (changes s e)
opens-changes k s (faults f) = tt
opens-changes k s (stores store) =
    OnValue-ungiven (Leaving k 0 false) s (moved_to done (record (quietly s kind.Local) { store = store })) refl

-- a test
opens-tests : (k : ℕ) (s : Seen) (t : Option Bool) (p q : Proc) → OnValue (Leaving k 0 false) (tests s t p q)
opens-tests k s None p q = tt
opens-tests k s (Some true) p q =
    OnValue-ungiven (Leaving k 0 false) s (starts p (quietly s kind.Local)) (starts_quiet k p s.next)
opens-tests k s (Some false) p q =
    OnValue-ungiven (Leaving k 0 false) s (starts q (quietly s kind.Local)) (starts_quiet k q s.next)

-- a message that came one way
opens-one_way : (k : ℕ) (s : Seen) (m : Coming) (p : Proc) (e : Effect) → Leaving k 0 false (goes_on s m p e)
opens-one_way k s m p (faults f) = refl
opens-one_way k s m p (stores store) = starts_quiet k p s.next

-- a number before nothing
before_nothing : (k n : ℕ) (ns : List ℕ) → times k ns + 0 ≡ 0 + 0 → times k (n ∷ ns) + 0 ≡ 0 + once (nat_eq k n)
before_nothing k n ns e = omega (arith, times-cons k n ns, e)

-- a request that came
opens-request : (k : ℕ) (s : Seen) (m : Coming) (y : Option PathTree) (body p : Proc) (e : Effect)
    → Leaving k 0 (nat_eq k m.message) (within (asked m y p) (goes_on s m body e))
opens-request k s m y body p (faults f) = before_nothing k m.message [] refl
opens-request k s m y body p (stores store) =
    before_nothing k m.message (held only none (start body s.next).form) (starts_quiet k body s.next)

-- the first branch of the operation, or a later one
opens-branch : (b : Bool) (k n : ℕ) (now later : Bool) (o rest : Option (Move Term))
    → OnValue (Leaving k 0 (now && nat_eq k n)) o → OnValue (Leaving k 0 (later && nat_eq k n)) rest
    → OnValue (Leaving k 0 ((if b then now else later) && nat_eq k n)) (if b then o else rest)
opens-branch true k n now later o rest h h' = h
opens-branch false k n now later o rest h h' = h'

-- a message that comes to branches
opens-comes : (k : ℕ) (s : Seen) (m : Coming) (bs : Branches)
    → OnValue (Leaving k 0 (is_request_of m.op bs && nat_eq k m.message)) (comes s m bs)
opens-comes k s m no_branches = tt
opens-comes k s m (one_way o x p bs) =
    opens-branch (nat_eq o m.op) k m.message false (is_request_of m.op bs) (Some (goes_on s m p (received s.store x m.value)))
    (comes s (past m) bs) (opens-one_way k s m p (received s.store x m.value)) (opens-comes k s (past m) bs)
opens-comes k s m (request o x y body p bs) =
    opens-branch (nat_eq o m.op) k m.message true (is_request_of m.op bs)
    (Some (within (asked m y p) (goes_on s m body (received s.store x m.value)))) (comes s (past m) bs)
    (opens-request k s m y body p (received s.store x m.value)) (opens-comes k s (past m) bs)

-- a choice
opens-inputs : (k : ℕ) (s : Seen) (bs : Branches) → OnValue (Leaving k 0 (asks k (Some (choice bs)) s.gift)) (inputs s bs)
opens-inputs k s bs = go s.gift
  where
    go : (g : Given)
        → OnValue (Leaving k 0 (asks k (Some (choice bs)) g))
        (elim g [
          | given.Mail m o v ↦ comes s (record { message = m; op = o; value = v; ops = branch_operations bs; branch = 0 }) bs
          | _ ↦ None
        ])
    go (given.Mail m o v) = opens-comes k s (record { message = m; op = o; value = v; ops = branch_operations bs; branch = 0 }) bs
    go g = tt

-- a binding
opens-binds : (k : ℕ) (s : Seen) (v : ℕ) (r : Root) → OnValue (Leaving k 0 false) (binds s v r)
opens-binds k s v r = go s.gift
  where
    go : (g : Given)
        → OnValue (Leaving k 0 false)
        (elim g [
          | given.Bound ↦ Some (moved_to done (asks_to_bind s v r))
          | given.Held t ↦ Some (moved_to (instead correlation_error) (asks_to_bind s v r))
          | given.Fixed ↦ Some (moved_to (instead correlation_error) (asks_to_bind s v r))
          | _ ↦ None
        ])
    go given.Bound = refl
    go (given.Held t) = refl
    go given.Fixed = refl
    go g = tt

-- what a behaviour does
opens-act : (k : ℕ) (s : Seen) (p : Proc) → OnValue (Leaving k 0 (asks k (Some p) s.gift)) (act s p)
opens-act k s (assign p e) = opens-changes k s (effect_of s.store p e)
opens-act k s (undef p) = opens-changes k s (effect_of_undef s.store p)
opens-act k s (copy p e) = opens-changes k s (copied s.store p e)
opens-act k s (choose e p q) = opens-tests k s (truth_of s.store e) p q
opens-act k s (repeat e body) = opens-tests k s (truth_of s.store e) (turn_of e body) nothing
opens-act k s (install list) = OnValue-ungiven (Leaving k 0 false) s (installs s list) refl
opens-act k s (comp r) =
    OnValue-ungiven (Leaving k 0 false) s (compensates s r) (starts_quiet k (or_nothing (entry r s.table.scopes)) s.next)
opens-act k s (choice bs) = opens-inputs k s bs
opens-act k s (notify port op e) =
    OnValue-elim (Leaving k 0 false) (message_value s port op e) (λ v. ungiven s (notifies s port op v))
    (λ v. OnValue-ungiven (Leaving k 0 false) s (notifies s port op v) refl)
opens-act k s (solicit port op e x list) =
    OnValue-elim (Leaving k 0 false) (message_value s port op e)
    (λ v. ungiven s (solicits s port op v (wait s.call port op x list)))
    (λ v. OnValue-ungiven (Leaving k 0 false) s (solicits s port op v (wait s.call port op x list)) refl)
opens-act k s (bind v e) = OnValue-elim (Leaving k 0 false) (binding s.store e) (binds s v) (opens-binds k s v)
opens-act k s p = tt

-- a behaviour acts in its own strand alone
opens-place : (b : Bool) (k : ℕ) (g : Given) (p : Proc) (o : Option (Move Term)) → OnValue (Leaving k 0 (asks k (Some p) g)) o
    → OnValue (Leaving k 0 (asks k (if b then Some p else None) g)) (if b then o else None)
opens-place true k g p o h = h
opens-place false k g p o h = tt

-- the target of a call
opens-sets_target : (k : ℕ) (m : Made) (e : Effect) → Opens k 0 false [] m.event → Leaving k 0 false (sets_target m e)
opens-sets_target k m (faults f) h = h
opens-sets_target k m (stores store) h = h

-- a value for a call that waits
opens-value_comes : (k : ℕ) (s : Seen) (c : Call) (x : Option PathTree) (list : HandlerList) (v : Tree)
    → Leaving k 0 false (value_comes s c x list v)
opens-value_comes k s c x list v = go (fits s.scope s.table list)
  where
    go : (b : Bool)
        → Leaving k 0 false
        (elim b [
          | false ↦ moved_to (instead handler_too_large) (answer_comes s c)
          | true ↦ sets_target (with_handlers s c list) (received s.store x v)
        ])
    go true = opens-sets_target k (with_handlers s c list) (received s.store x v) refl
    go false = refl

-- an answer for a call that waits
opens-answers : (k : ℕ) (s : Seen) (c : Call) (x : Option PathTree) (list : HandlerList) (r : Read)
    → Leaving k 0 false (answers s c x list r)
opens-answers k s c x list (answered v) = opens-value_comes k s c x list v
opens-answers k s c x list (faulted f) = refl

-- one of two
Opens-if : (k : ℕ) (b : Bool) (m m' : Made) → Opens k 0 false [] m.event → Opens k 0 false [] m'.event
    → Opens k 0 false [] (if b then m else m').event
Opens-if k true m m' h h' = h
Opens-if k false m m' h h' = h'

-- an answer for a call that was killed
opens-dead_answers : (k : ℕ) (s : Seen) (c : Call) (list : HandlerList) (r : Read) → Leaving k 0 false (dead_answers s c list r)
opens-dead_answers k s c list (answered v) =
    Opens-if k (fits s.scope s.table list) (with_handlers s c list) (answer_comes s c) refl refl
opens-dead_answers k s c list (faulted f) = refl

-- a scope whose body is done
opens-scope_acts : (k : ℕ) (s : Seen) (q : ℕ) (h : Table) (u : State) → OnValue (Leaving k 0 false) (scope_acts s q h u)
opens-scope_acts k s q h live = refl
opens-scope_acts k s q h (caught f) = starts_quiet k (or_nothing (entry f.name h.faults)) s.next
opens-scope_acts k s q h term = starts_quiet k (or_nothing (entry q h.scopes)) s.next
opens-scope_acts k s q h u = tt

-- the answer of a request
opens-replies : (k : ℕ) (s : Seen) (m : ℕ) (o : Outcome) (t : Term)
    → Leaving k (times k (m ∷ held only none t)) false (replies s m o t)
opens-replies k s m o t = closes (times k (held only none t)) (once (nat_eq k m)) (times k (m ∷ held only none t)) (times-cons k m (held only none t))
  where
    closes : (x y before : ℕ) → before ≡ y + x → x + y ≡ before + 0
    closes x y before e = omega arith

-- a move within a request
opens-exec : (k m before : ℕ) (opened : Bool) (o : ℕ) (y : Option PathTree) (x : Option (Move Term)) → OnValue (Leaving k before opened) x
    → OnValue (Leaving k (once (nat_eq k m) + before) opened) (option_map (within (exec m o y)) x)
opens-exec k m before opened o y None h = tt
opens-exec k m before opened o y (Some x) h =
    put_before (times k (held only none x.form)) (times k (m ∷ held only none x.form)) (once (replies_to k x.made.event)) before
    (once (nat_eq k m) + before) (once opened) (once (nat_eq k m)) (times-cons k m (held only none x.form)) refl h

-- a member that moved, beside the others
opens-first : (k i : ℕ) (before : ℕ) (opened : Bool) (ts : Strands) (o : Option (Move Term)) → OnValue (Leaving k before opened) o
    → OnValue (LeavingAmong k (before + times k (held_among only none ts)) opened) (option_map (within (λ t'. strand i t' ts)) o)
opens-first k i before opened ts None h = tt
opens-first k i before opened ts (Some m) h =
    put_aside (times k (held only none m.form)) (times k (held only none m.form ++ held_among only none ts))
    (once (replies_to k m.made.event)) before (before + times k (held_among only none ts)) (once opened)
    (times k (held_among only none ts)) (times-append k (held only none m.form) (held_among only none ts)) refl h

-- the others that moved, beside a member
opens-rest : (k i : ℕ) (before : ℕ) (opened : Bool) (t : Term) (o : Option (Move Strands)) → OnValue (LeavingAmong k before opened) o
    → OnValue (LeavingAmong k (times k (held only none t) + before) opened) (option_map (within (strand i t)) o)
opens-rest k i before opened t None h = tt
opens-rest k i before opened t (Some m) h =
    put_before (times k (held_among only none m.form)) (times k (held only none t ++ held_among only none m.form))
    (once (replies_to k m.made.event)) before (times k (held only none t) + before) (once opened)
    (times k (held only none t)) (times-append k (held only none t) (held_among only none m.form)) refl h

-- the member that a strand stands in
opens-member : (k : ℕ) (s : Seen) (i : ℕ) (t : Term) (ts : Strands) (b : Bool)
    → OnValue (Leaving k (times k (held only none t)) (asks k (place_in s.strand i t) s.gift)) (moves s i t)
    → OnValue (LeavingAmong k (times k (held_among only none ts)) (asks k (place_among s.strand ts) s.gift)) (moves_among s ts)
    → OnValue
    (LeavingAmong k (times k (held_among only none (strand i t ts)))
    (asks k (elim b [ true ↦ place_in s.strand i t | false ↦ place_among s.strand ts ]) s.gift))
    (elim b [
      | true ↦ option_map (within (λ t'. strand i t' ts)) (moves s i t)
      | false ↦ option_map (within (strand i t)) (moves_among s ts)
    ])
opens-member k s i t ts true here there =
    let opened = asks k (place_in s.strand i t) s.gift in
    subst (λ n. OnValue (LeavingAmong k n opened) (option_map (within (λ t'. strand i t' ts)) (moves s i t)))
    (sym (times-append k (held only none t) (held_among only none ts)))
    (opens-first k i (times k (held only none t)) opened ts (moves s i t) here)
opens-member k s i t ts false here there =
    let opened = asks k (place_among s.strand ts) s.gift in
    subst (λ n. OnValue (LeavingAmong k n opened) (option_map (within (strand i t)) (moves_among s ts)))
    (sym (times-append k (held only none t) (held_among only none ts)))
    (opens-rest k i (times k (held_among only none ts)) opened t (moves_among s ts) there)

mutual
  -- a move opens what asks, and closes what it answers
  pub opens-moves : (k : ℕ) (s : Seen) (i : ℕ) (t : Term)
      → OnValue (Leaving k (times k (held only none t)) (asks k (place_in s.strand i t) s.gift)) (moves s i t)
  opens-moves k s i (place p) = opens-place (nat_eq s.strand i) k s.gift p (act s p) (opens-act k s p)
  opens-moves k s i (seq t rest) =
      OnValue-map (Leaving k (times k (held only none t)) (asks k (place_in s.strand i t) s.gift)) (within (λ t'. seq t' rest))
      (moves s i t) (opens-moves k s i t)
  opens-moves k s i (par ts) =
      OnValue-map (Leaving k (times k (held_among only none ts)) (asks k (place_among s.strand ts) s.gift)) (within par)
      (moves_among s ts) (opens-moves_among k s ts)
  opens-moves k s i (in_scope q done h u) =
      OnValue-if (nat_eq s.strand i) (Leaving k 0 false) (elim (scope_acts s q h u) [ None ↦ None | Some m ↦ ungiven s m ]) None
      (OnValue-scope (Leaving k 0 false) s (scope_acts s q h u) (opens-scope_acts k s q h u)) tt
  opens-moves k s i (in_scope q t h u) =
      OnValue-map (Leaving k (times k (held only none t)) (asks k (place_in s.strand i t) s.gift)) (in_its_scope s q u)
      (moves (inside s q h) i t) (opens-moves k (inside s q h) i t)
  opens-moves k s i (exec m o y done) =
      OnValue-if (nat_eq s.strand i) (Leaving k (times k (m ∷ [])) false) (ungiven s (replies s m (reply_of s o y) done)) None
      (OnValue-ungiven (Leaving k (times k (m ∷ [])) false) s (replies s m (reply_of s o y) done)
      (opens-replies k s m (reply_of s o y) done)) tt
  opens-moves k s i (exec m o y t) =
      let opened = asks k (place_in s.strand i t) s.gift in
      subst (λ n. OnValue (Leaving k n opened) (option_map (within (exec m o y)) (moves s i t)))
      (sym (times-cons k m (held only none t)))
      (opens-exec k m (times k (held only none t)) opened o y (moves s i t) (opens-moves k s i t))
  opens-moves k s i (fail m f t) =
      OnValue-if (nat_eq s.strand i) (Leaving k (times k (m ∷ held only none t)) false)
      (ungiven s (replies s m (outcome_of_fault s.parts f) t)) None
      (OnValue-ungiven (Leaving k (times k (m ∷ held only none t)) false) s (replies s m (outcome_of_fault s.parts f) t)
      (opens-replies k s m (outcome_of_fault s.parts f) t)) tt
  opens-moves k s i (wait n port op x list) =
      let c = call_of n port op in
      OnValue-if (nat_eq s.strand i) (Leaving k 0 false) (with_answer s c (answers s c x list)) None
      (OnValue-with_answer (Leaving k 0 false) s c (answers s c x list) (opens-answers k s c x list)) tt
  opens-moves k s i (dead_wait n port op list) =
      let c = call_of n port op in
      OnValue-if (nat_eq s.strand i) (Leaving k 0 false) (with_answer s c (dead_answers s c list)) None
      (OnValue-with_answer (Leaving k 0 false) s c (dead_answers s c list) (opens-dead_answers k s c list)) tt
  opens-moves k s i (prot t) =
      OnValue-map (Leaving k (times k (held only none t)) (asks k (place_in s.strand i t) s.gift)) (within prot) (moves s i t)
      (opens-moves k s i t)
  opens-moves k s i t = tt

  -- the same in a member
  pub opens-moves_among : (k : ℕ) (s : Seen) (ts : Strands)
      → OnValue (LeavingAmong k (times k (held_among only none ts)) (asks k (place_among s.strand ts) s.gift)) (moves_among s ts)
  opens-moves_among k s no_strands = tt
  opens-moves_among k s (strand i t ts) =
      opens-member k s i t ts (stands_in s.strand i t) (opens-moves k s i t) (opens-moves_among k s ts)

-- ---- an event of a configuration

-- an event after which so much is open
abbrev pub OpensAfter : ℕ → ℕ → Bool → Done → Type 0
OpensAfter k before opened d = Opens k before opened (open_requests d.config.form) d.event

-- nothing asks where no message was given
asks-nothing : (k : ℕ) (p : Option Proc) → asks k p given.Nothing ≡ false
asks-nothing k None = refl
asks-nothing k (Some (choice bs)) = refl
asks-nothing k (Some p) = refl

-- a fault that is carried upward opens and closes nothing
opens-raised : (k : ℕ) (c : Config) (n f : ℕ) (x : Carried Term) → Leaves (held only none) (held only none c.form) x
    → OnValue (OpensAfter k (times_open k c.form) false) (raised c n f x)
opens-raised k c n f (up t) l = ap (λ ns. times k ns + 0) (held-normal only none t c.next ∙ l)
opens-raised k c n f (caught_at t q) l = ap (λ ns. times k ns + 0) (held-normal only none t c.next ∙ l)
opens-raised k c n f (ended_at t q) l = ap (λ ns. times k ns + 0) (held-normal only none t c.next ∙ l)
opens-raised k c n f (blocked m) l = tt
opens-raised k c n f absent l = tt

-- the last event opens and closes nothing
opens-finishes : (k : ℕ) (c : Config) (n : ℕ) (g : Given) (p : Option Proc)
    → OnValue (OpensAfter k (times_open k c.form) (asks k p g)) (finishes c n g)
opens-finishes k c zero given.Nothing p = ap (λ b. times_open k c.form + once b) (sym (asks-nothing k p))
opens-finishes k c n g p = tt

-- the normal form of a move has open what the move has
opens-moved : (k before : ℕ) (opened : Bool) (c : Config) (m : Move Term) → Leaving k before opened m
    → OpensAfter k before opened (moved c m)
opens-moved k before opened c m h =
    ap (λ ns. times k ns + once (replies_to k m.made.event)) (held-normal only none m.form m.made.next) ∙ h

-- an event opens what asks, and closes what it answers
pub opens-after : (k : ℕ) (parts : ProgramParts) (service : ℕ) (c : Config) (n : ℕ) (g : Given) (d : Done)
    → after parts service c n g ≡ Some d → OpensAfter k (times_open k c.form) (asks k (place_in n 0 c.form) g) d
opens-after k parts service c n g d e =
    let opened = asks k (place_in n 0 c.form) g in
    let P : Done → Type 0 = OpensAfter k (times_open k c.form) opened in
    let s = seen_by parts service c n g in
    OnValue-some P (after parts service c n g) d e
    (after-split (OnValue P) parts service c n g tt (λ ended finished. opens-finishes k c n g (place_in n 0 c.form))
    (λ ended. acts-split P c s
    (λ f given_nothing. subst (λ b. OnValue (OpensAfter k (times_open k c.form) b) (raised c n f.name (throw n f 0 c.form)))
    (sym (ap (asks k (place_in n 0 c.form)) given_nothing ∙ asks-nothing k (place_in n 0 c.form)))
    (opens-raised k c n f.name (throw n f 0 c.form) (held-throw only none n f 0 c.form)))
    (OnValue-imp (Leaving k (times_open k c.form) opened) (λ m. P (moved c m)) (moves s 0 c.form)
    (opens-moved k (times_open k c.form) opened c) (opens-moves k s 0 c.form))))

-- ---- a run

-- the answers of a first step and of the rest
replied-cons : (k : ℕ) (s : TakenStep) (steps : List TakenStep)
    → times_replied k (s ∷ steps) ≡ once (replies_to k s.event) + times_replied k steps
replied-cons k s steps = sum_by-cons (λ x. once (replies_to k x.event)) s steps

-- the requests of a first step and of the rest
asked-cons : (parts : ProgramParts) (service k : ℕ) (from : Config) (s : TakenStep) (steps : List TakenStep) (d : Done)
    → after parts service from s.event.strand s.gift ≡ Some d
    → times_asked parts service k from (s ∷ steps) ≡ once (is_asked k from s) + times_asked parts service k d.config steps
asked-cons parts service k from s steps d e =
    ap (λ o. once (is_asked k from s) + unwrap_or (option_map (λ x. times_asked parts service k x.config steps) o) 0) e

-- each message was answered, or is open, as often as it was open before or came as a request
pub answers_all : AnswersAll
answers_all parts service [] from end w k = ap (λ c. 0 + times_open k c.form) (sym w)
answers_all parts service (s ∷ steps) from end w k =
    let d = w.0 in
    let now : times_open k d.config.form + once (replies_to k s.event) ≡ times_open k from.form + once (is_asked k from s)
    = subst (λ e. times_open k d.config.form + once (replies_to k e) ≡ times_open k from.form + once (is_asked k from s)) w.2
    (opens-after k parts service from s.event.strand s.gift d w.1) in
    add_up (times_replied k (s ∷ steps)) (once (replies_to k s.event)) (times_replied k steps) (times_open k end.form)
    (times_open k d.config.form) (times_open k from.form) (once (is_asked k from s)) (times_asked parts service k from (s ∷ steps))
    (times_asked parts service k d.config steps) (replied-cons k s steps) (asked-cons parts service k from s steps d w.1) now
    (answers_all parts service steps d.config end w.3 k)
