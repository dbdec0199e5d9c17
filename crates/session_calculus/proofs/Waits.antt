-- Which calls an event sends, and of which it brings the answer.
use Rattle.std.proofs.Common.{◌≡◌, ℕ, zero, ◌+◌, Bool, true, false, List, [], ◌∷◌, ◌++◌, Option, None, Some, option_map, if◌then◌else◌, nat_eq, refl, sym, ap, ◌∙◌, subst}
use Rattle.std.proofs.lemmas.List.Sums.{sum_by-cons}
use Rattle.jolie_trees.specs.declared.root.Root.{Root}
use Rattle.jolie_trees.specs.Data.{Tree}
use Rattle.behaviour_tree.specs.declared.words.Kind.TheVariants as kind
use Rattle.behaviour_tree.specs.declared.words.Event.{Event}
use Rattle.behaviour_tree.specs.declared.words.Given.{Given}
use Rattle.behaviour_tree.specs.declared.words.Given.TheVariants as given
use Rattle.behaviour_tree.specs.Values.{truth_of}
use Rattle.behaviour_tree.specs.Data.{PathTree, Proc, nothing, assign, undef, copy, bind, choose, repeat, choice, notify, solicit, install, comp, Branches, no_branches, one_way, request, HandlerList, ProgramParts}
use Rattle.session_calculus.specs.Names.{correlation_error, handler_too_large}
use Rattle.session_calculus.specs.Tables.{Table, entry, or_nothing, fits}
use Rattle.session_calculus.specs.Terms.{Term, Strands, done, place, seq, par, in_scope, exec, fail, wait, dead_wait, prot, no_strands, strand, State, live, caught, term, stands_in}
use Rattle.session_calculus.specs.Start.{start}
use Rattle.session_calculus.specs.Throw.{Carried, up, caught_at, ended_at, blocked, absent, throw}
use Rattle.session_calculus.specs.Moves.{Seen, Made, Move, moved_to, within, quietly, starts, instead, ungiven, inside, in_its_scope}
use Rattle.session_calculus.specs.Effects.{Effect, faults, stores, effect_of, copied, effect_of_undef, received}
use Rattle.session_calculus.specs.Faults.{binding}
use Rattle.behaviour_tree.specs.FormedBehaviours.{branch_operations}
use Rattle.session_calculus.specs.Inputs.{Coming, past, asked, goes_on, comes, inputs}
use Rattle.session_calculus.specs.Replies.{outcome_of_fault, reply_of, replies}
use Rattle.session_calculus.specs.Calls.{message_value, notifies, solicits, binds, asks_to_bind}
use Rattle.session_calculus.specs.Answers.{Read, answered, faulted, Call, call_of, with_handlers, answer_comes, sets_target, value_comes, answers, dead_answers, with_answer}
use Rattle.session_calculus.specs.Scopes.{installs, compensates, scope_acts}
use Rattle.session_calculus.specs.After.{Config, Done, changes, tests, turn_of, act, moves, moves_among, raised, moved, finishes, seen_by, after}
use Rattle.session_calculus.specs.Open.{held, held_among, only, none, waiting}
use Rattle.session_calculus.specs.Runs.{TakenStep}
use Rattle.session_calculus.specs.Laws.{times_sent, times_answered, times_waiting, WaitsForAll}
use Rattle.session_calculus.proofs.Options.{OnValue, OnValue-map, OnValue-if, OnValue-elim, OnValue-imp, OnValue-some}
use Rattle.session_calculus.proofs.Counting.{once, times, times-append, one_comes, one_goes, put_aside, put_before, add_up}
use Rattle.session_calculus.proofs.Kept.{held-start, held-normal}
use Rattle.session_calculus.proofs.Upward.{Leaves, held-throw}
use Rattle.session_calculus.proofs.Steps.{OnValue-ungiven, OnValue-with_answer, OnValue-scope}
use Rattle.session_calculus.proofs.Endings.{after-split, acts-split}

-- an event sends call k
abbrev pub sends_call : ℕ → Event → Bool
sends_call k e = elim e.kind [ kind.Solicit ↦ nat_eq k e.number | _ ↦ false ]

-- an event brings the answer of call k
abbrev pub brings : ℕ → Event → Bool
brings k e = elim e.kind [ kind.Answer ↦ nat_eq k e.number | _ ↦ false ]

-- what waits after an event: what waited before and what was sent, but for what was answered
abbrev pub Waits : ℕ → ℕ → List ℕ → Event → Type 0
Waits k before ns e = times k ns + once (brings k e) ≡ before + once (sends_call k e)

-- a move after which so much waits
abbrev pub Leaving : ℕ → ℕ → Move Term → Type 0
Leaving k before m = Waits k before (held none only m.form) m.made.event

-- the same of members
abbrev pub LeavingAmong : ℕ → ℕ → Move Strands → Type 0
LeavingAmong k before m = Waits k before (held_among none only m.form) m.made.event

-- a behaviour that starts waits for nothing
starts_quiet : (k : ℕ) (p : Proc) (n : ℕ) → times k (held none only (start p n).form) + 0 ≡ 0 + 0
starts_quiet k p n = ap (λ ns. times k ns + 0) (held-start none only p n)

-- an action on the store
waits-changes : (k : ℕ) (s : Seen) (e : Effect) → OnValue (Leaving k 0) (changes s e)
waits-changes k s (faults f) = tt
waits-changes k s (stores store) =
    OnValue-ungiven (Leaving k 0) s (moved_to done (record (quietly s kind.Local) { store = store })) refl

-- a test
waits-tests : (k : ℕ) (s : Seen) (t : Option Bool) (p q : Proc) → OnValue (Leaving k 0) (tests s t p q)
waits-tests k s None p q = tt
waits-tests k s (Some true) p q = OnValue-ungiven (Leaving k 0) s (starts p (quietly s kind.Local)) (starts_quiet k p s.next)
waits-tests k s (Some false) p q = OnValue-ungiven (Leaving k 0) s (starts q (quietly s kind.Local)) (starts_quiet k q s.next)

-- a message that came
waits-goes_on : (k : ℕ) (s : Seen) (m : Coming) (p : Proc) (e : Effect) → Leaving k 0 (goes_on s m p e)
waits-goes_on k s m p (faults f) = refl
waits-goes_on k s m p (stores store) = starts_quiet k p s.next

-- a message that comes to branches
waits-comes : (k : ℕ) (s : Seen) (m : Coming) (bs : Branches) → OnValue (Leaving k 0) (comes s m bs)
waits-comes k s m no_branches = tt
waits-comes k s m (one_way o x p bs) =
    OnValue-if (nat_eq o m.op) (Leaving k 0) (Some (goes_on s m p (received s.store x m.value))) (comes s (past m) bs)
    (waits-goes_on k s m p (received s.store x m.value)) (waits-comes k s (past m) bs)
waits-comes k s m (request o x y body p bs) =
    OnValue-if (nat_eq o m.op) (Leaving k 0)
    (Some (within (asked m y p) (goes_on s m body (received s.store x m.value)))) (comes s (past m) bs)
    (waits-goes_on k s m body (received s.store x m.value)) (waits-comes k s (past m) bs)

-- a choice
waits-inputs : (k : ℕ) (s : Seen) (bs : Branches) → OnValue (Leaving k 0) (inputs s bs)
waits-inputs k s bs = go s.gift
  where
    go : (g : Given)
        → OnValue (Leaving k 0)
        (elim g [
          | given.Mail m o v ↦ comes s (record { message = m; op = o; value = v; ops = branch_operations bs; branch = 0 }) bs
          | _ ↦ None
        ])
    go (given.Mail m o v) = waits-comes k s (record { message = m; op = o; value = v; ops = branch_operations bs; branch = 0 }) bs
    go g = tt

-- a binding
waits-binds : (k : ℕ) (s : Seen) (v : ℕ) (r : Root) → OnValue (Leaving k 0) (binds s v r)
waits-binds k s v r = go s.gift
  where
    go : (g : Given)
        → OnValue (Leaving k 0)
        (elim g [
          | given.Bound ↦ Some (moved_to done (asks_to_bind s v r))
          | given.Held t ↦ Some (moved_to (instead correlation_error) (asks_to_bind s v r))
          | given.Fixed ↦ Some (moved_to (instead correlation_error) (asks_to_bind s v r))
          | _ ↦ None
        ])
    go given.Bound = refl
    go (given.Held t) = refl
    go given.Fixed = refl
    go g = tt

-- what a behaviour does
waits-act : (k : ℕ) (s : Seen) (p : Proc) → OnValue (Leaving k 0) (act s p)
waits-act k s (assign p e) = waits-changes k s (effect_of s.store p e)
waits-act k s (undef p) = waits-changes k s (effect_of_undef s.store p)
waits-act k s (copy p e) = waits-changes k s (copied s.store p e)
waits-act k s (choose e p q) = waits-tests k s (truth_of s.store e) p q
waits-act k s (repeat e body) = waits-tests k s (truth_of s.store e) (turn_of e body) nothing
waits-act k s (install list) = OnValue-ungiven (Leaving k 0) s (installs s list) refl
waits-act k s (comp r) =
    OnValue-ungiven (Leaving k 0) s (compensates s r) (starts_quiet k (or_nothing (entry r s.table.scopes)) s.next)
waits-act k s (choice bs) = waits-inputs k s bs
waits-act k s (notify port op e) =
    OnValue-elim (Leaving k 0) (message_value s port op e) (λ v. ungiven s (notifies s port op v))
    (λ v. OnValue-ungiven (Leaving k 0) s (notifies s port op v) refl)
waits-act k s (solicit port op e x list) =
    OnValue-elim (Leaving k 0) (message_value s port op e)
    (λ v. ungiven s (solicits s port op v (wait s.call port op x list)))
    (λ v. OnValue-ungiven (Leaving k 0) s (solicits s port op v (wait s.call port op x list)) (one_comes k s.call))
waits-act k s (bind v e) = OnValue-elim (Leaving k 0) (binding s.store e) (binds s v) (waits-binds k s v)
waits-act k s p = tt

-- the target of a call
waits-sets_target : (k before : ℕ) (m : Made) (e : Effect) → Waits k before [] m.event → Leaving k before (sets_target m e)
waits-sets_target k before m (faults f) h = h
waits-sets_target k before m (stores store) h = h

-- a value for a call that waits
waits-value_comes : (k : ℕ) (s : Seen) (c : Call) (x : Option PathTree) (list : HandlerList) (v : Tree)
    → Leaving k (times k (c.number ∷ [])) (value_comes s c x list v)
waits-value_comes k s c x list v = go (fits s.scope s.table list)
  where
    go : (b : Bool)
        → Leaving k (times k (c.number ∷ []))
        (elim b [
          | false ↦ moved_to (instead handler_too_large) (answer_comes s c)
          | true ↦ sets_target (with_handlers s c list) (received s.store x v)
        ])
    go true =
        waits-sets_target k (times k (c.number ∷ [])) (with_handlers s c list) (received s.store x v) (one_goes k c.number)
    go false = one_goes k c.number

-- an answer for a call that waits
waits-answers : (k : ℕ) (s : Seen) (c : Call) (x : Option PathTree) (list : HandlerList) (r : Read)
    → Leaving k (times k (c.number ∷ [])) (answers s c x list r)
waits-answers k s c x list (answered v) = waits-value_comes k s c x list v
waits-answers k s c x list (faulted f) = one_goes k c.number

-- one of two
Waits-if : (k before : ℕ) (b : Bool) (m m' : Made) → Waits k before [] m.event → Waits k before [] m'.event
    → Waits k before [] (if b then m else m').event
Waits-if k before true m m' h h' = h
Waits-if k before false m m' h h' = h'

-- an answer for a call that was killed
waits-dead_answers : (k : ℕ) (s : Seen) (c : Call) (list : HandlerList) (r : Read)
    → Leaving k (times k (c.number ∷ [])) (dead_answers s c list r)
waits-dead_answers k s c list (answered v) =
    Waits-if k (times k (c.number ∷ [])) (fits s.scope s.table list) (with_handlers s c list) (answer_comes s c)
    (one_goes k c.number) (one_goes k c.number)
waits-dead_answers k s c list (faulted f) = one_goes k c.number

-- a scope whose body is done
waits-scope_acts : (k : ℕ) (s : Seen) (q : ℕ) (h : Table) (u : State) → OnValue (Leaving k 0) (scope_acts s q h u)
waits-scope_acts k s q h live = refl
waits-scope_acts k s q h (caught f) = starts_quiet k (or_nothing (entry f.name h.faults)) s.next
waits-scope_acts k s q h term = starts_quiet k (or_nothing (entry q h.scopes)) s.next
waits-scope_acts k s q h u = tt

-- a member that moved, beside the others
waits-first : (k i : ℕ) (before : ℕ) (ts : Strands) (o : Option (Move Term)) → OnValue (Leaving k before) o
    → OnValue (LeavingAmong k (before + times k (held_among none only ts))) (option_map (within (λ t'. strand i t' ts)) o)
waits-first k i before ts None h = tt
waits-first k i before ts (Some m) h =
    put_aside (times k (held none only m.form)) (times k (held none only m.form ++ held_among none only ts))
    (once (brings k m.made.event)) before (before + times k (held_among none only ts)) (once (sends_call k m.made.event))
    (times k (held_among none only ts)) (times-append k (held none only m.form) (held_among none only ts)) refl h

-- the others that moved, beside a member
waits-rest : (k i : ℕ) (before : ℕ) (t : Term) (o : Option (Move Strands)) → OnValue (LeavingAmong k before) o
    → OnValue (LeavingAmong k (times k (held none only t) + before)) (option_map (within (strand i t)) o)
waits-rest k i before t None h = tt
waits-rest k i before t (Some m) h =
    put_before (times k (held_among none only m.form)) (times k (held none only t ++ held_among none only m.form))
    (once (brings k m.made.event)) before (times k (held none only t) + before) (once (sends_call k m.made.event))
    (times k (held none only t)) (times-append k (held none only t) (held_among none only m.form)) refl h

-- the member that a strand stands in
waits-member : (k : ℕ) (s : Seen) (i : ℕ) (t : Term) (ts : Strands) (b : Bool)
    → OnValue (Leaving k (times k (held none only t))) (moves s i t)
    → OnValue (LeavingAmong k (times k (held_among none only ts))) (moves_among s ts)
    → OnValue (LeavingAmong k (times k (held_among none only (strand i t ts))))
    (elim b [
      | true ↦ option_map (within (λ t'. strand i t' ts)) (moves s i t)
      | false ↦ option_map (within (strand i t)) (moves_among s ts)
    ])
waits-member k s i t ts true here there =
    subst (λ n. OnValue (LeavingAmong k n) (option_map (within (λ t'. strand i t' ts)) (moves s i t)))
    (sym (times-append k (held none only t) (held_among none only ts)))
    (waits-first k i (times k (held none only t)) ts (moves s i t) here)
waits-member k s i t ts false here there =
    subst (λ n. OnValue (LeavingAmong k n) (option_map (within (strand i t)) (moves_among s ts)))
    (sym (times-append k (held none only t) (held_among none only ts)))
    (waits-rest k i (times k (held_among none only ts)) t (moves_among s ts) there)

mutual
  -- a move sends what it sends, and brings what it brings
  pub waits-moves : (k : ℕ) (s : Seen) (i : ℕ) (t : Term) → OnValue (Leaving k (times k (held none only t))) (moves s i t)
  waits-moves k s i (place p) = OnValue-if (nat_eq s.strand i) (Leaving k 0) (act s p) None (waits-act k s p) tt
  waits-moves k s i (seq t rest) =
      OnValue-map (Leaving k (times k (held none only t))) (within (λ t'. seq t' rest)) (moves s i t) (waits-moves k s i t)
  waits-moves k s i (par ts) =
      OnValue-map (Leaving k (times k (held_among none only ts))) (within par) (moves_among s ts) (waits-moves_among k s ts)
  waits-moves k s i (in_scope q done h u) =
      OnValue-if (nat_eq s.strand i) (Leaving k 0) (elim (scope_acts s q h u) [ None ↦ None | Some m ↦ ungiven s m ]) None
      (OnValue-scope (Leaving k 0) s (scope_acts s q h u) (waits-scope_acts k s q h u)) tt
  waits-moves k s i (in_scope q t h u) =
      OnValue-map (Leaving k (times k (held none only t))) (in_its_scope s q u) (moves (inside s q h) i t)
      (waits-moves k (inside s q h) i t)
  waits-moves k s i (exec m o y done) =
      OnValue-if (nat_eq s.strand i) (Leaving k 0) (ungiven s (replies s m (reply_of s o y) done)) None
      (OnValue-ungiven (Leaving k 0) s (replies s m (reply_of s o y) done) refl) tt
  waits-moves k s i (exec m o y t) =
      OnValue-map (Leaving k (times k (held none only t))) (within (exec m o y)) (moves s i t) (waits-moves k s i t)
  waits-moves k s i (fail m f t) =
      OnValue-if (nat_eq s.strand i) (Leaving k (times k (held none only t)))
      (ungiven s (replies s m (outcome_of_fault s.parts f) t)) None
      (OnValue-ungiven (Leaving k (times k (held none only t))) s (replies s m (outcome_of_fault s.parts f) t) refl) tt
  waits-moves k s i (wait n port op x list) =
      let c = call_of n port op in
      OnValue-if (nat_eq s.strand i) (Leaving k (times k (n ∷ []))) (with_answer s c (answers s c x list)) None
      (OnValue-with_answer (Leaving k (times k (n ∷ []))) s c (answers s c x list) (waits-answers k s c x list)) tt
  waits-moves k s i (dead_wait n port op list) =
      let c = call_of n port op in
      OnValue-if (nat_eq s.strand i) (Leaving k (times k (n ∷ []))) (with_answer s c (dead_answers s c list)) None
      (OnValue-with_answer (Leaving k (times k (n ∷ []))) s c (dead_answers s c list) (waits-dead_answers k s c list)) tt
  waits-moves k s i (prot t) =
      OnValue-map (Leaving k (times k (held none only t))) (within prot) (moves s i t) (waits-moves k s i t)
  waits-moves k s i t = tt

  -- the same in a member
  pub waits-moves_among : (k : ℕ) (s : Seen) (ts : Strands)
      → OnValue (LeavingAmong k (times k (held_among none only ts))) (moves_among s ts)
  waits-moves_among k s no_strands = tt
  waits-moves_among k s (strand i t ts) =
      waits-member k s i t ts (stands_in s.strand i t) (waits-moves k s i t) (waits-moves_among k s ts)

-- ---- an event of a configuration

-- an event after which so much waits
abbrev pub WaitsAfter : ℕ → ℕ → Done → Type 0
WaitsAfter k before d = Waits k before (waiting d.config.form) d.event

-- a fault that is carried upward neither sends nor brings
waits-raised : (k : ℕ) (c : Config) (n f : ℕ) (x : Carried Term) → Leaves (held none only) (held none only c.form) x
    → OnValue (WaitsAfter k (times_waiting k c.form)) (raised c n f x)
waits-raised k c n f (up t) l = ap (λ ns. times k ns + 0) (held-normal none only t c.next ∙ l)
waits-raised k c n f (caught_at t q) l = ap (λ ns. times k ns + 0) (held-normal none only t c.next ∙ l)
waits-raised k c n f (ended_at t q) l = ap (λ ns. times k ns + 0) (held-normal none only t c.next ∙ l)
waits-raised k c n f (blocked m) l = tt
waits-raised k c n f absent l = tt

-- the last event neither sends nor brings
waits-finishes : (k : ℕ) (c : Config) (n : ℕ) (g : Given) → OnValue (WaitsAfter k (times_waiting k c.form)) (finishes c n g)
waits-finishes k c zero given.Nothing = refl
waits-finishes k c n g = tt

-- the normal form of a move waits like the move
waits-moved : (k before : ℕ) (c : Config) (m : Move Term) → Leaving k before m → WaitsAfter k before (moved c m)
waits-moved k before c m h =
    ap (λ ns. times k ns + once (brings k m.made.event)) (held-normal none only m.form m.made.next) ∙ h

-- an event sends what it sends, and brings what it brings
pub waits-after : (k : ℕ) (parts : ProgramParts) (service : ℕ) (c : Config) (n : ℕ) (g : Given) (d : Done)
    → after parts service c n g ≡ Some d → WaitsAfter k (times_waiting k c.form) d
waits-after k parts service c n g d e =
    let P : Done → Type 0 = WaitsAfter k (times_waiting k c.form) in
    let s = seen_by parts service c n g in
    OnValue-some P (after parts service c n g) d e
    (after-split (OnValue P) parts service c n g tt (λ ended finished. waits-finishes k c n g)
    (λ ended. acts-split P c s
    (λ f g. waits-raised k c n f.name (throw n f 0 c.form) (held-throw none only n f 0 c.form))
    (OnValue-imp (Leaving k (times_waiting k c.form)) (λ m. P (moved c m)) (moves s 0 c.form)
    (waits-moved k (times_waiting k c.form) c) (waits-moves k s 0 c.form))))

-- ---- a run

-- the answers of a first step and of the rest
answered-cons : (k : ℕ) (s : TakenStep) (steps : List TakenStep)
    → times_answered k (s ∷ steps) ≡ once (brings k s.event) + times_answered k steps
answered-cons k s steps = sum_by-cons (λ x. once (brings k x.event)) s steps

-- the calls of a first step and of the rest
sent-cons : (k : ℕ) (s : TakenStep) (steps : List TakenStep)
    → times_sent k (s ∷ steps) ≡ once (sends_call k s.event) + times_sent k steps
sent-cons k s steps = sum_by-cons (λ x. once (sends_call k x.event)) s steps

-- the answer of each call came, or it waits, as often as it waited before or was sent
pub waits_for_all : WaitsForAll
waits_for_all parts service [] from end w k = ap (λ c. 0 + times_waiting k c.form) (sym w)
waits_for_all parts service (s ∷ steps) from end w k =
    let d = w.0 in
    let now : times_waiting k d.config.form + once (brings k s.event) ≡ times_waiting k from.form + once (sends_call k s.event)
    = subst (λ e. times_waiting k d.config.form + once (brings k e) ≡ times_waiting k from.form + once (sends_call k e)) w.2
    (waits-after k parts service from s.event.strand s.gift d w.1) in
    add_up (times_answered k (s ∷ steps)) (once (brings k s.event)) (times_answered k steps) (times_waiting k end.form)
    (times_waiting k d.config.form) (times_waiting k from.form) (once (sends_call k s.event)) (times_sent k (s ∷ steps)) (times_sent k steps)
    (answered-cons k s steps) (sent-cons k s steps) now (waits_for_all parts service steps d.config end w.3 k)
