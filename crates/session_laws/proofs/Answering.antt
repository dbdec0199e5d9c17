-- Each message that came in is answered at most once.
use Rattle.std.proofs.Common.{◌≡◌, ℕ, zero, ◌+◌, ◌≤◌, Bool, true, false, List, [], ◌∷◌, Option, None, Some, option_map, unwrap_or, slice_get, if◌then◌else◌, nat_eq, count_by, refl, sym, ap, ◌∙◌, subst, arith}
use Rattle.std.proofs.lemmas.Bool.{false≢true, and_parts}
use Rattle.std.proofs.lemmas.List.Sums.{sum_by-cons}
use Rattle.behaviour_tree.specs.declared.words.Kind.TheVariants as kind
use Rattle.behaviour_tree.specs.declared.words.Event.{Event}
use Rattle.behaviour_tree.specs.declared.words.Given.{Given}
use Rattle.behaviour_tree.specs.declared.words.Given.TheVariants as given
use Rattle.jolie_trees.specs.Data.{Tree}
use Rattle.behaviour_tree.specs.Data.{Exp, Proc, bind, choose, repeat, choice, notify, solicit, install, comp, Branches, no_branches, one_way, request, ProgramParts, behaviour_of}
use Rattle.session_calculus.specs.Terms.{Term, Strands, place}
use Rattle.session_calculus.specs.Throw.{throw}
use Rattle.session_calculus.specs.Moves.{Seen, Move, within}
use Rattle.session_calculus.specs.Start.{begin}
use Rattle.session_calculus.specs.Effects.{Effect, faults, stores, received}
use Rattle.session_calculus.specs.Inputs.{Coming, past, goes_on, asked, comes}
use Rattle.session_calculus.specs.After.{Config, Done, first_config, raised, finishes, seen_by, after}
use Rattle.session_calculus.specs.Open.{only, none, open_requests}
use Rattle.session_calculus.specs.Runs.{TakenStep, Leads, start_of}
use Rattle.session_calculus.specs.Laws.{is_request_of, place_in, place_among, asks, is_asked, times_asked, times_in, times_open, AnswersAll, AnswersOnce}
use Rattle.session_laws.proofs.Options.{OnValue, OnValue-if, OnValue-imp, OnValue-all, OnValue-lift, OnValue-some}
use Rattle.session_laws.proofs.Counting.{once}
use Rattle.session_laws.proofs.Moving.{Alone, coming, Keeps, keeps-moves}
use Rattle.session_laws.proofs.Fresh.{fresh-begin, fresh-held}
use Rattle.session_laws.proofs.Events.{of_event}

-- message m comes in by an event
abbrev is_in : ℕ → Event → Bool
is_in m e = elim e.kind [ kind.In ↦ nat_eq m e.number | _ ↦ false ]

-- nothing asks where nothing was given
asks-nothing : (m : ℕ) (p : Option Proc) (g : Given) → g ≡ given.Nothing → asks m p g ≡ true → ⊥
asks-nothing m p g e h = false≢true (sym (ap (asks m p) e ∙ quiet p) ∙ h)
  where
    quiet : (p : Option Proc) → asks m p given.Nothing ≡ false
    quiet None = refl
    quiet (Some (choice bs)) = refl
    quiet (Some p) = refl

-- where a move asks for message m, the message comes in by it
abbrev InIfAsked : ℕ → Seen → ℕ → Term → Move Term → Type 0
InIfAsked m s k t x = asks m (place_in s.strand k t) s.gift ≡ true → is_in m x.made.event ≡ true

-- the same of members
abbrev InAmong : ℕ → Seen → Strands → Move Strands → Type 0
InAmong m s ts x = asks m (place_among s.strand ts) s.gift ≡ true → is_in m x.made.event ≡ true

-- a strand that is given nothing asks for nothing
asks-alone : (m : ℕ) (s : Seen) (k : ℕ) (t : Term) → Alone s k → asks m (place_in s.strand k t) s.gift ≡ true → ⊥
asks-alone m s k t a h = asks-nothing m (place_in s.strand k t) s.gift a.given h

-- a message that came
in-goes_on : (m : ℕ) (s : Seen) (c : Coming) (p : Proc) (e : Effect)
    → is_in m (goes_on s c p e).made.event ≡ nat_eq m c.message
in-goes_on m s c p (faults f) = refl
in-goes_on m s c p (stores x) = refl

-- a message that comes to branches
in-comes : (m : ℕ) (s : Seen) (c : Coming) (bs : Branches)
    → OnValue (λ x. is_in m x.made.event ≡ nat_eq m c.message) (comes s c bs)
in-comes m s c no_branches = tt
in-comes m s c (one_way o x p bs) =
    OnValue-if (nat_eq o c.op) (λ z. is_in m z.made.event ≡ nat_eq m c.message)
    (Some (goes_on s c p (received s.store x c.value)))
    (comes s (past c) bs) (in-goes_on m s c p (received s.store x c.value)) (in-comes m s (past c) bs)
in-comes m s c (request o x y body p bs) =
    OnValue-if (nat_eq o c.op) (λ z. is_in m z.made.event ≡ nat_eq m c.message)
    (Some (within (asked c y p) (goes_on s c body (received s.store x c.value)))) (comes s (past c) bs)
    (in-goes_on m s c body (received s.store x c.value)) (in-comes m s (past c) bs)

-- a choice that asks for a message
in-choice : (m : ℕ) (bs : Branches) (n o : ℕ) (v : Tree) (g : Given) (b : Bool) → b ≡ true → g ≡ given.Mail n o v
    → asks m (if b then Some (choice bs) else None) g ≡ true → nat_eq m n ≡ true
in-choice m bs n o v g b own e h =
    (and_parts (is_request_of o bs) (nat_eq m n)
    (sym (ap (λ x. asks m (if x then Some (choice bs) else None) g) own ∙ ap (asks m (Some (choice bs))) e) ∙ h)).1

-- a binding asks for none
in-binding : (m v : ℕ) (e : Exp) (g : Given) (b : Bool) → b ≡ true
    → asks m (if b then Some (bind v e) else None) g ≡ true → ⊥
in-binding m v e g b own h = false≢true (sym (ap (λ x. asks m (if x then Some (bind v e) else None) g) own) ∙ h)

-- of every move
in-keeps : (m : ℕ) → Keeps (InIfAsked m) (InAmong m)
in-keeps m = record {
  store = λ s k p x w a h. absurd (asks-alone m s k (place p) a h);
  first = λ s k e p q a h. absurd (asks-alone m s k (place (choose e p q)) a h);
  second = λ s k e p q a h. absurd (asks-alone m s k (place (choose e p q)) a h);
  turn = λ s k e p a h. absurd (asks-alone m s k (place (repeat e p)) a h);
  leave = λ s k e p a h. absurd (asks-alone m s k (place (repeat e p)) a h);
  installed = λ s k list a h. absurd (asks-alone m s k (place (install list)) a h);
  compensated = λ s k r a h. absurd (asks-alone m s k (place (comp r)) a h);
  came = λ s k bs n o v own e.
      OnValue-imp (λ x. is_in m x.made.event ≡ nat_eq m n) (InIfAsked m s k (place (choice bs)))
      (comes s (coming n o v bs) bs)
      (λ x h asked. h ∙ in-choice m bs n o v s.gift (nat_eq s.strand k) own e asked)
      (in-comes m s (coming n o v bs) bs);
  notified = λ s k port op e v a eq h. absurd (asks-alone m s k (place (notify port op e)) a h);
  solicited = λ s k port op e x list v a eq h. absurd (asks-alone m s k (place (solicit port op e x list)) a h);
  bound = λ s k v e r own eq h. absurd (in-binding m v e s.gift (nat_eq s.strand k) own h);
  unbound = λ s k v e r own eq h. absurd (in-binding m v e s.gift (nat_eq s.strand k) own h);
  answer_faults = λ s k n port op x list f own h. absurd (false≢true h);
  answer_overflows = λ s k n port op x list f own fit h. absurd (false≢true h);
  answer_sets = λ s k n port op x list y own fit h. absurd (false≢true h);
  dead_installs = λ s k n port op list own fit h. absurd (false≢true h);
  dead_ends = λ s k n port op list own h. absurd (false≢true h);
  ended = λ s k q h a x. absurd (false≢true x);
  handled = λ s k q h f a x. absurd (false≢true x);
  terminated = λ s k q h a x. absurd (false≢true x);
  replied = λ s k n o y a x. absurd (false≢true x);
  told = λ s k n f t a x. absurd (false≢true x);
  in_head = λ s k t rest x h. h;
  in_members = λ s k ts x h. h;
  in_body = λ s k q t h u x d i. i;
  in_request = λ s k n o y t x d h. h;
  in_prot = λ s k t x h. h;
  in_member = λ s k t ts x e h asked.
      h (sym (ap (λ b. asks m (elim b [ true ↦ place_in s.strand k t | false ↦ place_among s.strand ts ]) s.gift) e)
      ∙ asked);
  in_others = λ s k t ts x e h asked.
      h (sym (ap (λ b. asks m (elim b [ true ↦ place_in s.strand k t | false ↦ place_among s.strand ts ]) s.gift) e)
      ∙ asked);
}

-- ---- an event

-- where strand n asks for message m, the message comes in
abbrev InAfter : ℕ → Config → ℕ → Given → Done → Type 0
InAfter m c n g d = asks m (place_in n 0 c.form) g ≡ true → is_in m d.event ≡ true

-- the last event asks for nothing
in-finishes : (m : ℕ) (c : Config) (n : ℕ) (g : Given) → OnValue (InAfter m c n g) (finishes c n g)
in-finishes m c zero given.Nothing = λ h. absurd (asks-nothing m (place_in 0 0 c.form) given.Nothing refl h)
in-finishes m c n g = tt

-- where an event asks for a message, the message comes in by it
in-after : (m : ℕ) (parts : ProgramParts) (service : ℕ) (c : Config) (n : ℕ) (g : Given) (d : Done)
    → after parts service c n g ≡ Some d → InAfter m c n g d
in-after m parts service c n g =
    of_event (InAfter m c n g) parts service c n g (λ ended finished. in-finishes m c n g)
    (λ f going e there. OnValue-all (InAfter m c n g) (raised c n f.name (throw n f 0 c.form))
    (λ d h. absurd (asks-nothing m (place_in n 0 c.form) g e h)))
    (λ going none. keeps-moves (InIfAsked m) (InAmong m) (in-keeps m) (seen_by parts service c n g) 0 c.form)

-- ---- a run

-- what follows from a test counts as often at least
once-follows : (b b' : Bool) → (b ≡ true → b' ≡ true) → once b ≤ once b'
once-follows true b' h = rw (h refl) (omega arith)
once-follows false b' h = omega arith

-- the messages of a first step and of the rest
came-cons : (m : ℕ) (s : TakenStep) (steps : List TakenStep)
    → times_in m (s ∷ steps) ≡ once (is_in m s.event) + times_in m steps
came-cons m s steps = sum_by-cons (λ x. once (is_in m x.event)) s steps

-- the requests of a first step and of the rest
pub asked-cons : (parts : ProgramParts) (service m : ℕ) (from : Config) (s : TakenStep) (steps : List TakenStep)
    (d : Done)
    → after parts service from s.event.strand s.gift ≡ Some d
    → times_asked parts service m from (s ∷ steps)
    ≡ once (is_asked m from s) + times_asked parts service m d.config steps
asked-cons parts service m from s steps d e =
    ap (λ o. once (is_asked m from s) + unwrap_or (option_map (λ x. times_asked parts service m x.config steps) o) 0) e

-- a message comes as a request no more often than it comes in
asked-came : (parts : ProgramParts) (service m : ℕ) (steps : List TakenStep) (from last : Config)
    → Leads parts service from steps last
    → times_asked parts service m from steps ≤ times_in m steps
asked-came parts service m [] from last w = omega arith
asked-came parts service m (s ∷ steps) from last w =
    let now = once-follows (is_asked m from s) (is_in m s.event)
    (subst (λ e. asks m (place_in s.event.strand 0 from.form) s.gift ≡ true → is_in m e ≡ true) w.2
    (in-after m parts service from s.event.strand s.gift w.0 w.1)) in
    omega (
      arith,
      now,
      came-cons m s steps,
      asked-cons parts service m from s steps w.0 w.1,
      asked-came parts service m steps w.0.config last w.3,
    )

-- where a session begins nothing is open
begins-closed : (parts : ProgramParts) (service : ℕ) (from : Config) → start_of parts service ≡ Some from
    → open_requests from.form ≡ []
begins-closed parts service from e =
    let found = slice_get parts.services service in
    OnValue-some (λ c. open_requests c.form ≡ []) (start_of parts service) from e
    (OnValue-lift (λ s. Unit {0}) (λ c. open_requests c.form ≡ []) (λ s. first_config (behaviour_of s)) found
    (λ s u. fresh-held only none (begin (behaviour_of s) 1).form (fresh-begin (behaviour_of s) 1))
    (OnValue-all (λ s. Unit {0}) found (λ s. tt)))

-- each message that came in is answered at most once, and not before that while it is open
pub answers_once : AnswersAll → AnswersOnce
answers_once all parts service steps last run differ m =
    let from = run.0 in
    let closed : times_open m from.form ≡ 0 = ap (λ ms. count_by (nat_eq m) ms) (begins-closed parts service from run.1)
    in
    omega (arith, closed, all parts service steps from last run.2 m, asked-came parts service m steps from last run.2)
