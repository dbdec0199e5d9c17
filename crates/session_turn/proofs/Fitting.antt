-- A strand that has an event has one for whatever gift suits what the event asks.
use Rattle.std.proofs.Common.{◌≡◌, ℕ, zero, Bool, true, false, ◌||◌, ◌∷◌, Option, None, Some, is_some, option_map, if◌then◌else◌, nat_eq, refl, sym, ap, subst, ◌∙◌, eq-eqb, eqb-true}
use Rattle.std.specs.List.{list_any}
use Rattle.std.proofs.lemmas.Bool.{false≢true}
use Rattle.jolie_trees.specs.declared.root.Root.{Root}
use Rattle.jolie_trees.specs.Data.{Tree}
use Rattle.behaviour_tree.specs.declared.words.Kind.TheVariants as kind
use Rattle.behaviour_tree.specs.declared.words.Need.{Need}
use Rattle.behaviour_tree.specs.declared.words.Need.TheVariants as need
use Rattle.behaviour_tree.specs.declared.words.Given.{Given}
use Rattle.behaviour_tree.specs.declared.words.Given.TheVariants as given
use Rattle.behaviour_tree.specs.declared.words.Outcome.{Outcome}
use Rattle.behaviour_tree.specs.Values.{truth_of}
use Rattle.behaviour_tree.specs.Data.{PathTree, Proc, nothing, assign, undef, copy, bind, choose, repeat, choice, notify, solicit, install, comp, Branches, no_branches, one_way, request, HandlerList, ProgramParts}
use Rattle.session_calculus.specs.Names.{handler_too_large}
use Rattle.session_calculus.specs.Tables.{Table, fits}
use Rattle.session_calculus.specs.Terms.{Fault, Term, Strands, done, place, seq, par, in_scope, exec, fail, wait, dead_wait, prot, no_strands, strand, State, live, caught, term, stands_in}
use Rattle.session_calculus.specs.Throw.{Carried, up, caught_at, ended_at, blocked, absent, throw}
use Rattle.session_calculus.specs.Moves.{Seen, Made, Move, moved_to, within, quietly, starts, ungiven, instead, inside, in_its_scope}
use Rattle.session_calculus.specs.Effects.{Effect, faults, stores, effect_of, copied, effect_of_undef, received}
use Rattle.session_calculus.specs.Faults.{binding, fault_in}
use Rattle.behaviour_tree.specs.FormedBehaviours.{branch_operations}
use Rattle.session_calculus.specs.Inputs.{Coming, past, goes_on, asked, comes, inputs}
use Rattle.session_calculus.specs.Replies.{outcome_of_fault, reply_of, replies}
use Rattle.session_calculus.specs.Calls.{message_value, notifies, solicits, binds}
use Rattle.session_calculus.specs.Answers.{Read, answered, faulted, Call, call_of, read, with_handlers, answer_comes, sets_target, answers, dead_answers, with_answer}
use Rattle.session_calculus.specs.Scopes.{installs, compensates, ends, handles_fault, handles_end, scope_acts}
use Rattle.session_calculus.specs.After.{Config, Done, changes, tests, turn_of, act, moves, moves_among, is_finished, raised, raises, moved, finishes, seen_by, after}
use Rattle.session_laws.proofs.Options.{OnValue, OnValue-if, OnValue-some}
use Rattle.session_laws.proofs.Moving.{coming}
use Rattle.session_laws.proofs.Asking.{fault-blind}

-- a gift that an event may have which asks this
abbrev pub Suits : Need → Given → Type 0
Suits need.Nothing given.Nothing = Unit {0}
Suits (need.Take ops) (given.Mail m o v) = list_any (nat_eq o) ops ≡ true
Suits (need.Answer k) (given.Answer o) = Unit {0}
Suits (need.Bind v x) given.Bound = Unit {0}
Suits (need.Bind v x) (given.Held s) = Unit {0}
Suits (need.Bind v x) given.Fixed = Unit {0}
Suits (need.Reply m o) given.Nothing = Unit {0}
Suits (need.Send k port op v wants) given.Nothing = Unit {0}
Suits need.Finish given.Nothing = Unit {0}
Suits n g = ⊥

-- what is seen with another gift
abbrev given_as : Given → Seen → Seen
given_as g s = record s { gift = g }

-- where there is a move, there is one of the others for each gift that suits what it asks
abbrev Fits : {A B : Type 0} → Option (Move A) → (Given → Option B) → Type 0
Fits o others = OnValue (λ m. (g : Given) → Suits m.made.need g → is_some (others g) ≡ true) o

-- what asks for no gift
abbrev IsPlain : Need → Type 0
IsPlain n = (g : Given) → Suits n g → g ≡ given.Nothing

plain-nothing : IsPlain need.Nothing
plain-nothing given.Nothing h = refl
plain-nothing g h = absurd h

plain-reply : (m : ℕ) (o : Outcome) → IsPlain (need.Reply m o)
plain-reply m o given.Nothing h = refl
plain-reply m o g h = absurd h

plain-send : (k port op : ℕ) (v : Tree) (wants : Bool) → IsPlain (need.Send k port op v wants)
plain-send k port op v wants given.Nothing h = refl
plain-send k port op v wants g h = absurd h

plain-finish : IsPlain need.Finish
plain-finish given.Nothing h = refl
plain-finish g h = absurd h

-- a mapped option is there where the option is
mapped : {A B : Type 0} (f : A → B) (o : Option A) → is_some o ≡ true → is_some (option_map f o) ≡ true
mapped f None e = absurd (false≢true e)
mapped f (Some x) e = refl

fits-map : {A B C D : Type 0} (f : Move A → Move B) (f' : Given → C → D) (o : Option (Move A)) (others : Given → Option C)
    → ((m : Move A) → (f m).made.need ≡ m.made.need) → Fits o others
    → Fits (option_map f o) (λ g. option_map (f' g) (others g))
fits-map f f' None others e h = tt
fits-map f f' (Some m) others e h = λ g s. mapped (f' g) (others g) (h g (subst (λ n. Suits n g) (e m) s))

fits-test : {A B : Type 0} (b : Bool) (o : Option (Move A)) (others : Given → Option B) → Fits o others
    → Fits (if b then o else None) (λ g. if b then others g else None)
fits-test true o others h = h
fits-test false o others h = tt

-- what is done where nothing is given
fits-ungiven : (s : Seen) (m : Move Term) (others : Given → Move Term) → IsPlain m.made.need
    → Fits (ungiven s m) (λ g. ungiven (given_as g s) (others g))
fits-ungiven s m others p = go s.gift
  where
    go : (h : Given) → Fits (elim h [ given.Nothing ↦ Some m | _ ↦ None ]) (λ g. ungiven (given_as g s) (others g))
    go given.Nothing = λ g k. subst (λ x. is_some (ungiven (given_as x s) (others x)) ≡ true) (sym (p g k)) refl
    go h = tt

-- an action on the store
fits-changes : (s : Seen) (e : Effect) → Fits (changes s e) (λ g. changes (given_as g s) e)
fits-changes s (faults f) = tt
fits-changes s (stores x) =
    fits-ungiven s (moved_to done (record (quietly s kind.Local) { store = x }))
    (λ g. moved_to done (record (quietly (given_as g s) kind.Local) { store = x })) plain-nothing

-- a test
fits-tests : (s : Seen) (b : Option Bool) (p q : Proc) → Fits (tests s b p q) (λ g. tests (given_as g s) b p q)
fits-tests s None p q = tt
fits-tests s (Some true) p q =
    fits-ungiven s (starts p (quietly s kind.Local)) (λ g. starts p (quietly (given_as g s) kind.Local)) plain-nothing
fits-tests s (Some false) p q =
    fits-ungiven s (starts q (quietly s kind.Local)) (λ g. starts q (quietly (given_as g s) kind.Local)) plain-nothing

-- a message that is sent
fits-sends : (s : Seen) (v : Option Tree) (f : Tree → Move Term) (f' : Given → Tree → Move Term)
    → ((x : Tree) → IsPlain (f x).made.need)
    → Fits (elim v [ None ↦ None | Some x ↦ ungiven s (f x) ])
    (λ g. elim v [ None ↦ None | Some x ↦ ungiven (given_as g s) (f' g x) ])
fits-sends s None f f' p = tt
fits-sends s (Some x) f f' p = fits-ungiven s (f x) (λ g. f' g x) (p x)

-- one of two numbers is another, and the first is not
rest-any : (b : Bool) (n m : ℕ) (rest : Bool) → nat_eq n m ≡ b → nat_eq m n ≡ false → (b || rest) ≡ true → rest ≡ true
rest-any true n m rest e f h = absurd (false≢true (sym f ∙ eq-eqb m n (sym (eqb-true n m e))))
rest-any false n m rest e f h = h

-- one of the operations of the rest, where it is not the first
rest-there : (s : Seen) (c : Coming) (o : ℕ) (bs : Branches) (here : Option (Move Term))
    → (list_any (nat_eq c.op) (branch_operations bs) ≡ true → is_some (comes s (past c) bs) ≡ true)
    → is_some here ≡ true → list_any (nat_eq c.op) (o ∷ branch_operations bs) ≡ true
    → is_some (if nat_eq o c.op then here else comes s (past c) bs) ≡ true
rest-there s c o bs here later now h = go (nat_eq o c.op) refl
  where
    go : (b : Bool) → nat_eq o c.op ≡ b → is_some (if b then here else comes s (past c) bs) ≡ true
    go true e = now
    go false e = later (rest-any (nat_eq c.op o) c.op o (list_any (nat_eq c.op) (branch_operations bs)) refl e h)

-- a message of one of the operations comes
comes-there : (s : Seen) (c : Coming) (bs : Branches) → list_any (nat_eq c.op) (branch_operations bs) ≡ true
    → is_some (comes s c bs) ≡ true
comes-there s c no_branches h = absurd (false≢true h)
comes-there s c (one_way o x p bs) h =
    rest-there s c o bs (Some (goes_on s c p (received s.store x c.value))) (comes-there s (past c) bs) refl h
comes-there s c (request o x y body p bs) h =
    rest-there s c o bs (Some (within (asked c y p) (goes_on s c body (received s.store x c.value))))
    (comes-there s (past c) bs) refl h

asks-goes_on : (s : Seen) (c : Coming) (p : Proc) (e : Effect) → (goes_on s c p e).made.need ≡ need.Take c.ops
asks-goes_on s c p (faults f) = refl
asks-goes_on s c p (stores x) = refl

-- what a message that comes asks
asks-comes : (s : Seen) (c : Coming) (bs : Branches) → OnValue (λ m. m.made.need ≡ need.Take c.ops) (comes s c bs)
asks-comes s c no_branches = tt
asks-comes s c (one_way o x p bs) =
    OnValue-if (nat_eq o c.op) (λ m. m.made.need ≡ need.Take c.ops)
    (Some (goes_on s c p (received s.store x c.value))) (comes s (past c) bs)
    (asks-goes_on s c p (received s.store x c.value)) (asks-comes s (past c) bs)
asks-comes s c (request o x y body p bs) =
    OnValue-if (nat_eq o c.op) (λ m. m.made.need ≡ need.Take c.ops) _ (comes s (past c) bs)
    (asks-goes_on s c body (received s.store x c.value)) (asks-comes s (past c) bs)

-- a choice
fits-inputs : (s : Seen) (bs : Branches) → Fits (inputs s bs) (λ g. inputs (given_as g s) bs)
fits-inputs s bs = go s.gift
  where
    suited : (m : Move Term) → m.made.need ≡ need.Take (branch_operations bs) → (g : Given) → Suits m.made.need g
        → is_some (inputs (given_as g s) bs) ≡ true
    suited m e g k = by_gift g (subst (λ n. Suits n g) e k)
      where
        by_gift : (g : Given) → Suits (need.Take (branch_operations bs)) g → is_some (inputs (given_as g s) bs) ≡ true
        by_gift (given.Mail i o v) k = comes-there (given_as (given.Mail i o v) s) (coming i o v bs) bs k
        by_gift g k = absurd k

    there : (o : Option (Move Term)) → OnValue (λ m. m.made.need ≡ need.Take (branch_operations bs)) o
        → Fits o (λ g. inputs (given_as g s) bs)
    there None h = tt
    there (Some m) h = suited m h

    go : (h : Given)
        → Fits (elim h [ given.Mail m o v ↦ comes s (coming m o v bs) bs | _ ↦ None ]) (λ g. inputs (given_as g s) bs)
    go (given.Mail m o v) = there (comes s (coming m o v bs) bs) (asks-comes s (coming m o v bs) bs)
    go h = tt

-- a binding
fits-binds : (s : Seen) (v : ℕ) (r : Root) → Fits (binds s v r) (λ g. binds (given_as g s) v r)
fits-binds s v r = go s.gift
  where
    suited : (g : Given) → Suits (need.Bind v r) g → is_some (binds (given_as g s) v r) ≡ true
    suited given.Bound k = refl
    suited (given.Held t) k = refl
    suited given.Fixed k = refl
    suited g k = absurd k

    go : (h : Given) → Fits (binds (given_as h s) v r) (λ g. binds (given_as g s) v r)
    go given.Bound = suited
    go (given.Held t) = suited
    go given.Fixed = suited
    go h = tt

fits-binding : (s : Seen) (v : ℕ) (o : Option Root)
    → Fits (elim o [ None ↦ None | Some r ↦ binds s v r ]) (λ g. elim o [ None ↦ None | Some r ↦ binds (given_as g s) v r ])
fits-binding s v None = tt
fits-binding s v (Some r) = fits-binds s v r

-- what a behaviour does
fits-act : (s : Seen) (p : Proc) → Fits (act s p) (λ g. act (given_as g s) p)
fits-act s (assign p e) = fits-changes s (effect_of s.store p e)
fits-act s (undef p) = fits-changes s (effect_of_undef s.store p)
fits-act s (copy p e) = fits-changes s (copied s.store p e)
fits-act s (choose e p q) = fits-tests s (truth_of s.store e) p q
fits-act s (repeat e p) = fits-tests s (truth_of s.store e) (turn_of e p) nothing
fits-act s (install list) = fits-ungiven s (installs s list) (λ g. installs (given_as g s) list) plain-nothing
fits-act s (comp r) = fits-ungiven s (compensates s r) (λ g. compensates (given_as g s) r) plain-nothing
fits-act s (choice bs) = fits-inputs s bs
fits-act s (notify port op e) =
    fits-sends s (message_value s port op e) (notifies s port op) (λ g. notifies (given_as g s) port op)
    (λ x. plain-send s.call port op x false)
fits-act s (solicit port op e x list) =
    fits-sends s (message_value s port op e) (λ v. solicits s port op v (wait s.call port op x list))
    (λ g v. solicits (given_as g s) port op v (wait s.call port op x list))
    (λ v. plain-send s.call port op v true)
fits-act s (bind v e) = fits-binding s v (binding s.store e)
fits-act s p = tt

-- a call whose answer comes
fits-answer : (s : Seen) (c : Call) (f : Read → Move Term) (f' : Given → Read → Move Term)
    → ((r : Read) → (f r).made.need ≡ need.Answer c.number)
    → Fits (with_answer s c f) (λ g. with_answer (given_as g s) c (f' g))
fits-answer s c f f' e = go s.gift
  where
    suited : (g : Given) → Suits (need.Answer c.number) g → is_some (with_answer (given_as g s) c (f' g)) ≡ true
    suited (given.Answer o) k = refl
    suited g k = absurd k

    go : (h : Given)
        → Fits (elim h [ given.Answer o ↦ Some (f (read s c o)) | _ ↦ None ]) (λ g. with_answer (given_as g s) c (f' g))
    go (given.Answer o) = λ g k. suited g (subst (λ n. Suits n g) (e (read s c o)) k)
    go h = tt

asks-sets_target : (m : Made) (e : Effect) → (sets_target m e).made.need ≡ m.need
asks-sets_target m (faults f) = refl
asks-sets_target m (stores x) = refl

asks-answers : (s : Seen) (c : Call) (x : Option PathTree) (list : HandlerList) (r : Read)
    → (answers s c x list r).made.need ≡ need.Answer c.number
asks-answers s c x list (faulted f) = refl
asks-answers s c x list (answered v) = go (fits s.scope s.table list)
  where
    go : (b : Bool)
        → ◌≡◌ {A = Need}
        (elim b as (λ _. Move Term) [
          | false ↦ moved_to (instead handler_too_large) (answer_comes s c)
          | true ↦ sets_target (with_handlers s c list) (received s.store x v)
        ]).made.need (need.Answer c.number)
    go true = asks-sets_target (with_handlers s c list) (received s.store x v)
    go false = refl

asks-dead_answers : (s : Seen) (c : Call) (list : HandlerList) (r : Read)
    → (dead_answers s c list r).made.need ≡ need.Answer c.number
asks-dead_answers s c list (faulted f) = refl
asks-dead_answers s c list (answered v) = go (fits s.scope s.table list)
  where
    go : (b : Bool)
        → (if b then with_handlers s c list else answer_comes s c).need ≡ need.Answer c.number
    go true = refl
    go false = refl

-- a scope whose body is done
fits-scope : (s : Seen) (q : ℕ) (h : Table) (u : State)
    → Fits (elim (scope_acts s q h u) [ None ↦ None | Some m ↦ ungiven s m ])
    (λ g. elim (scope_acts (given_as g s) q h u) [ None ↦ None | Some m ↦ ungiven (given_as g s) m ])
fits-scope s q h live = fits-ungiven s (ends s q h) (λ g. ends (given_as g s) q h) plain-nothing
fits-scope s q h (caught f) = fits-ungiven s (handles_fault s q h f) (λ g. handles_fault (given_as g s) q h f) plain-nothing
fits-scope s q h term = fits-ungiven s (handles_end s q h) (λ g. handles_end (given_as g s) q h) plain-nothing
fits-scope s q h u = tt

-- whichever member it is
fits-member : {A B : Type 0} (b : Bool) (o p : Option (Move A)) (o' p' : Given → Option B) → Fits o o' → Fits p p'
    → Fits (elim b [ true ↦ o | false ↦ p ]) (λ g. elim b [ true ↦ o' g | false ↦ p' g ])
fits-member true o p o' p' h k = h
fits-member false o p o' p' h k = k

mutual
  -- a move of a form
  fits-moves : (s : Seen) (k : ℕ) (t : Term) → Fits (moves s k t) (λ g. moves (given_as g s) k t)
  fits-moves s k (place p) = fits-test (nat_eq s.strand k) (act s p) (λ g. act (given_as g s) p) (fits-act s p)
  fits-moves s k (seq t rest) =
      fits-map (within (λ t'. seq t' rest)) (λ g. within (λ t'. seq t' rest)) (moves s k t)
      (λ g. moves (given_as g s) k t) (λ m. refl) (fits-moves s k t)
  fits-moves s k (par ts) =
      fits-map (within par) (λ g. within par) (moves_among s ts) (λ g. moves_among (given_as g s) ts) (λ m. refl)
      (fits-moves_among s ts)
  fits-moves s k (in_scope q done h u) =
      fits-test (nat_eq s.strand k) (elim (scope_acts s q h u) [ None ↦ None | Some m ↦ ungiven s m ])
      (λ g. elim (scope_acts (given_as g s) q h u) [ None ↦ None | Some m ↦ ungiven (given_as g s) m ])
      (fits-scope s q h u)
  fits-moves s k (in_scope q t h u) =
      fits-map (in_its_scope s q u) (λ g. in_its_scope (given_as g s) q u) (moves (inside s q h) k t)
      (λ g. moves (given_as g (inside s q h)) k t) (λ m. refl) (fits-moves (inside s q h) k t)
  fits-moves s k (exec m o y done) =
      fits-test (nat_eq s.strand k) (ungiven s (replies s m (reply_of s o y) done))
      (λ g. ungiven (given_as g s) (replies (given_as g s) m (reply_of s o y) done))
      (fits-ungiven s (replies s m (reply_of s o y) done) (λ g. replies (given_as g s) m (reply_of s o y) done)
      (plain-reply m (reply_of s o y)))
  fits-moves s k (exec m o y t) =
      fits-map (within (exec m o y)) (λ g. within (exec m o y)) (moves s k t) (λ g. moves (given_as g s) k t) (λ m. refl)
      (fits-moves s k t)
  fits-moves s k (fail m f t) =
      fits-test (nat_eq s.strand k) (ungiven s (replies s m (outcome_of_fault s.parts f) t))
      (λ g. ungiven (given_as g s) (replies (given_as g s) m (outcome_of_fault s.parts f) t))
      (fits-ungiven s (replies s m (outcome_of_fault s.parts f) t)
      (λ g. replies (given_as g s) m (outcome_of_fault s.parts f) t)
      (plain-reply m (outcome_of_fault s.parts f)))
  fits-moves s k (wait n port op x list) =
      let c = call_of n port op in
      fits-test (nat_eq s.strand k) (with_answer s c (answers s c x list))
      (λ g. with_answer (given_as g s) c (answers (given_as g s) c x list))
      (fits-answer s c (answers s c x list) (λ g. answers (given_as g s) c x list) (asks-answers s c x list))
  fits-moves s k (dead_wait n port op list) =
      let c = call_of n port op in
      fits-test (nat_eq s.strand k) (with_answer s c (dead_answers s c list))
      (λ g. with_answer (given_as g s) c (dead_answers (given_as g s) c list))
      (fits-answer s c (dead_answers s c list) (λ g. dead_answers (given_as g s) c list) (asks-dead_answers s c list))
  fits-moves s k (prot t) =
      fits-map (within prot) (λ g. within prot) (moves s k t) (λ g. moves (given_as g s) k t) (λ m. refl) (fits-moves s k t)
  fits-moves s k t = tt

  -- the same in members
  fits-moves_among : (s : Seen) (ts : Strands) → Fits (moves_among s ts) (λ g. moves_among (given_as g s) ts)
  fits-moves_among s no_strands = tt
  fits-moves_among s (strand k t ts) =
      fits-member (stands_in s.strand k t) (option_map (within (λ t'. strand k t' ts)) (moves s k t))
      (option_map (within (strand k t)) (moves_among s ts))
      (λ g. option_map (within (λ t'. strand k t' ts)) (moves (given_as g s) k t))
      (λ g. option_map (within (strand k t)) (moves_among (given_as g s) ts))
      (fits-map (within (λ t'. strand k t' ts)) (λ g. within (λ t'. strand k t' ts)) (moves s k t)
      (λ g. moves (given_as g s) k t) (λ m. refl) (fits-moves s k t))
      (fits-map (within (strand k t)) (λ g. within (strand k t)) (moves_among s ts)
      (λ g. moves_among (given_as g s) ts) (λ m. refl) (fits-moves_among s ts))

-- ---- an event

-- for each gift that suits what an event asks there is one
abbrev FitsEvent : Option Done → (Given → Option Done) → Type 0
FitsEvent o others = OnValue (λ d. (g : Given) → Suits d.need g → is_some (others g) ≡ true) o

fits-finishes : (c : Config) (n : ℕ) (g : Given) → FitsEvent (finishes c n g) (finishes c n)
fits-finishes c zero given.Nothing = λ g k. subst (λ x. is_some (finishes c zero x) ≡ true) (sym (plain-finish g k)) refl
fits-finishes c n g = tt

-- a fault is raised where nothing is given
fits-raised : (c : Config) (n f : ℕ) (x : Carried Term) → FitsEvent (raised c n f x) (λ g. elim g [ given.Nothing ↦ raised c n f x | _ ↦ None ])
fits-raised c n f (up t) = λ g k. subst (λ y. is_some (elim y [ given.Nothing ↦ raised c n f (up t) | _ ↦ None ]) ≡ true) (sym (plain-nothing g k)) refl
fits-raised c n f (caught_at t q) = λ g k. subst (λ y. is_some (elim y [ given.Nothing ↦ raised c n f (caught_at t q) | _ ↦ None ]) ≡ true) (sym (plain-nothing g k)) refl
fits-raised c n f (ended_at t q) = λ g k. subst (λ y. is_some (elim y [ given.Nothing ↦ raised c n f (ended_at t q) | _ ↦ None ]) ≡ true) (sym (plain-nothing g k)) refl
fits-raised c n f (blocked m) = tt
fits-raised c n f absent = tt

fits-raises : (c : Config) (n : ℕ) (g : Given) (f : Fault) → FitsEvent (raises c n g f) (λ h. raises c n h f)
fits-raises c n given.Nothing f = fits-raised c n f.name (throw n f 0 c.form)
fits-raises c n g f = tt

fits-moved : (c : Config) (o : Option (Move Term)) (others : Given → Option (Move Term)) → Fits o others
    → FitsEvent (option_map (moved c) o) (λ g. option_map (moved c) (others g))
fits-moved c None others h = tt
fits-moved c (Some m) others h = λ g k. mapped (moved c) (others g) (h g k)

-- the event of a strand by the fault that it has
abbrev after_fault : ProgramParts → ℕ → Config → ℕ → Option Fault → Given → Option Done
after_fault parts service c n o g =
    elim o [
      | Some f ↦ raises c n g f
      | None ↦ option_map (moved c) (moves (seen_by parts service c n g) 0 c.form)
    ]

-- and by whether the session ended, and whether nothing is left to do
abbrev after_these : ProgramParts → ℕ → Config → ℕ → Bool → Bool → Option Fault → Given → Option Done
after_these parts service c n ended finished o g =
    elim ended [
      | true ↦ None
      | false ↦ elim finished [ true ↦ finishes c n g | false ↦ after_fault parts service c n o g ]
    ]

-- the fault of a strand does not hang on the gift
abbrev fault_at : ProgramParts → ℕ → Config → ℕ → Given → Option Fault
fault_at parts service c n g = fault_in (seen_by parts service c n g) 0 c.form

fault_same : (parts : ProgramParts) (service : ℕ) (c : Config) (n : ℕ) (g : Given)
    → fault_at parts service c n g ≡ fault_at parts service c n given.Nothing
fault_same parts service c n g = fault-blind (seen_by parts service c n g) 0 c.form

fits-fault : (parts : ProgramParts) (service : ℕ) (c : Config) (n : ℕ) (g : Given) (o : Option Fault)
    → FitsEvent (after_fault parts service c n o g) (after_fault parts service c n o)
fits-fault parts service c n g (Some f) = fits-raises c n g f
fits-fault parts service c n g None =
    fits-moved c (moves (seen_by parts service c n g) 0 c.form) (λ h. moves (seen_by parts service c n h) 0 c.form)
    (fits-moves (seen_by parts service c n g) 0 c.form)

fits-these : (parts : ProgramParts) (service : ℕ) (c : Config) (n : ℕ) (g : Given) (ended finished : Bool) (o : Option Fault)
    → FitsEvent (after_these parts service c n ended finished o g) (after_these parts service c n ended finished o)
fits-these parts service c n g true finished o = tt
fits-these parts service c n g false true o = fits-finishes c n g
fits-these parts service c n g false false o = fits-fault parts service c n g o

-- where a strand has an event, it has one for each gift that suits what that asks
pub fits_gift : (parts : ProgramParts) (service : ℕ) (c : Config) (n : ℕ) (g : Given) (d : Done)
    → after parts service c n g ≡ Some d → (h : Given) → Suits d.need h → is_some (after parts service c n h) ≡ true
fits_gift parts service c n g d e h k =
    let by : Given → Option Fault → Option Done
    = λ g o. after_these parts service c n c.ended (is_finished c.form) o g in
    let first : after parts service c n g ≡ by g (fault_at parts service c n given.Nothing)
    = ap (by g) (fault_same parts service c n g) in
    let second : after parts service c n h ≡ by h (fault_at parts service c n given.Nothing)
    = ap (by h) (fault_same parts service c n h) in
    subst (λ o. is_some o ≡ true) (sym second)
    (OnValue-some (λ d. (h : Given) → Suits d.need h → is_some (by h (fault_at parts service c n given.Nothing)) ≡ true)
    (by g (fault_at parts service c n given.Nothing)) d
    (sym first ∙ e)
    (fits-these parts service c n g c.ended (is_finished c.form) (fault_at parts service c n given.Nothing)) h k)
