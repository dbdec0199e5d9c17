-- What a strand asks of the office does not hang on what the office gives.
use Rattle.std.proofs.Common.{◌≡◌, ℕ, zero, Bool, true, false, Option, None, Some, if◌then◌else◌, nat_eq, refl, sym, ap, ◌∙◌}
use Rattle.behaviour_tree.specs.declared.words.Need.{Need}
use Rattle.behaviour_tree.specs.declared.words.Need.TheVariants as need
use Rattle.behaviour_tree.specs.declared.words.Given.{Given}
use Rattle.behaviour_tree.specs.declared.words.Given.TheVariants as given
use Rattle.behaviour_tree.specs.Data.{PathTree, Proc, assign, undef, copy, bind, choice, notify, solicit, Branches, no_branches, one_way, request, ProgramParts}
use Rattle.session_calculus.specs.Terms.{Fault, Term, Strands, done, place, thrown, seq, par, in_scope, exec, fail, wait, dead_wait, prot, no_strands, strand, stands_in}
use Rattle.session_calculus.specs.Throw.{Carried, up, caught_at, ended_at, blocked, absent}
use Rattle.session_calculus.specs.Moves.{Seen, Move, inside}
use Rattle.session_calculus.specs.Effects.{Effect, faults, stores, received}
use Rattle.session_calculus.specs.Faults.{binding, fault_of, fault_in, fault_among}
use Rattle.behaviour_tree.specs.FormedBehaviours.{branch_operations}
use Rattle.session_calculus.specs.Inputs.{Coming, past, goes_on, comes}
use Rattle.session_calculus.specs.Replies.{outcome_of_fault, reply_of}
use Rattle.session_calculus.specs.Calls.{message_value}
use Rattle.session_calculus.specs.After.{Config, Done, moves, is_finished, raised, finishes, seen_by, after}
use Rattle.session_calculus.specs.Laws.{AsksOneThing}
use Rattle.session_laws.proofs.Options.{OnValue, OnValue-if, OnValue-imp}
use Rattle.session_laws.proofs.Moving.{NotDone, Writes, coming, Keeps, keeps-moves}
use Rattle.session_laws.proofs.Events.{of_event}

-- what is seen where the office gives nothing
abbrev pub blind : Seen → Seen
blind s = record s { gift = given.Nothing }

-- what a behaviour asks of the office
abbrev need_of : Seen → Proc → Need
need_of s (choice bs) = need.Take (branch_operations bs)
need_of s (notify port op e) =
    elim (message_value s port op e) [ None ↦ need.Nothing | Some v ↦ need.Send s.call port op v false ]
need_of s (solicit port op e x list) =
    elim (message_value s port op e) [ None ↦ need.Nothing | Some v ↦ need.Send s.call port op v true ]
need_of s (bind v e) = elim (binding s.store e) [ None ↦ need.Nothing | Some r ↦ need.Bind v r ]
need_of s p = need.Nothing

abbrev mutual
  -- what the strand that acts asks of the office
  need_in : Seen → Term → Need
  need_in s (place p) = need_of s p
  need_in s (seq t rest) = need_in s t
  need_in s (par ts) = need_among s ts
  need_in s (in_scope q t h u) = need_in (inside s q h) t
  need_in s (exec m o y done) = need.Reply m (reply_of s o y)
  need_in s (exec m o y t) = need_in s t
  need_in s (fail m f t) = need.Reply m (outcome_of_fault s.parts f)
  need_in s (wait k port op x list) = need.Answer k
  need_in s (dead_wait k port op list) = need.Answer k
  need_in s (prot t) = need_in s t
  need_in s t = need.Nothing

  -- the same in the member that it stands in
  need_among : Seen → Strands → Need
  need_among s no_strands = need.Nothing
  need_among s (strand k t ts) = elim (stands_in s.strand k t) [ true ↦ need_in s t | false ↦ need_among s ts ]

-- a move asks what the blind strand asks
abbrev Asks : Seen → ℕ → Term → Move Term → Type 0
Asks s k t m = m.made.need ≡ need_in (blind s) t

-- the same of members
abbrev AsksAmong : Seen → Strands → Move Strands → Type 0
AsksAmong s ts m = m.made.need ≡ need_among (blind s) ts

-- an action on the store asks nothing
asks-store : (s : Seen) (p : Proc) → Writes p → need.Nothing ≡ need_of (blind s) p
asks-store s (assign p e) w = refl
asks-store s (undef p) w = refl
asks-store s (copy p e) w = refl
asks-store s p w = absurd w

-- a message that came
asks-goes_on : (s : Seen) (m : Coming) (p : Proc) (e : Effect) → (goes_on s m p e).made.need ≡ need.Take m.ops
asks-goes_on s m p (faults f) = refl
asks-goes_on s m p (stores x) = refl

-- a choice asks for a message of its operations
asks-comes : (s : Seen) (m : Coming) (bs : Branches) → OnValue (λ x. x.made.need ≡ need.Take m.ops) (comes s m bs)
asks-comes s m no_branches = tt
asks-comes s m (one_way o x p bs) =
    OnValue-if (nat_eq o m.op) (λ z. z.made.need ≡ need.Take m.ops) (Some (goes_on s m p (received s.store x m.value)))
    (comes s (past m) bs) (asks-goes_on s m p (received s.store x m.value)) (asks-comes s (past m) bs)
asks-comes s m (request o x y body p bs) =
    OnValue-if (nat_eq o m.op) (λ z. z.made.need ≡ need.Take m.ops) _
    (comes s (past m) bs) (asks-goes_on s m body (received s.store x m.value)) (asks-comes s (past m) bs)

-- a request whose body is not done asks what its body asks
asks-request : (s : Seen) (m o : ℕ) (y : Option PathTree) (t : Term) → NotDone t
    → need_in s (exec m o y t) ≡ need_in s t
asks-request s m o y done d = absurd d
asks-request s m o y t d = refl

-- every move asks what the blind strand asks
asks-keeps : Keeps Asks AsksAmong
asks-keeps = record {
  store = λ s k p x w a. asks-store s p w;
  first = λ s k e p q a. refl;
  second = λ s k e p q a. refl;
  turn = λ s k e p a. refl;
  leave = λ s k e p a. refl;
  installed = λ s k list a. refl;
  compensated = λ s k r a. refl;
  came = λ s k bs m o v own e. asks-comes s (coming m o v bs) bs;
  notified = λ s k port op e v a eq.
      sym (ap (λ o. elim o [ None ↦ need.Nothing | Some v ↦ need.Send s.call port op v false ]) eq);
  solicited = λ s k port op e x list v a eq.
      sym (ap (λ o. elim o [ None ↦ need.Nothing | Some v ↦ need.Send s.call port op v true ]) eq);
  bound = λ s k v e r own eq. sym (ap (λ o. elim o [ None ↦ need.Nothing | Some r ↦ need.Bind v r ]) eq);
  unbound = λ s k v e r own eq. sym (ap (λ o. elim o [ None ↦ need.Nothing | Some r ↦ need.Bind v r ]) eq);
  answer_faults = λ s k n port op x list f own. refl;
  answer_overflows = λ s k n port op x list f own fit. refl;
  answer_sets = λ s k n port op x list y own fit. refl;
  dead_installs = λ s k n port op list own fit. refl;
  dead_ends = λ s k n port op list own. refl;
  ended = λ s k q h a. refl;
  handled = λ s k q h f a. refl;
  terminated = λ s k q h a. refl;
  replied = λ s k m o y a. refl;
  told = λ s k m f t a. refl;
  in_head = λ s k t rest m h. h;
  in_members = λ s k ts m h. h;
  in_body = λ s k q t h u m d k'. k';
  in_request = λ s k n o y t m d h. h ∙ sym (asks-request (blind s) n o y t d);
  in_prot = λ s k t m h. h;
  in_member = λ s k t ts m e h.
      h ∙ sym (ap (λ b. elim b [ true ↦ need_in (blind s) t | false ↦ need_among (blind s) ts ]) e);
  in_others = λ s k t ts m e h.
      h ∙ sym (ap (λ b. elim b [ true ↦ need_in (blind s) t | false ↦ need_among (blind s) ts ]) e);
}

-- ---- faults

-- the fault of a behaviour does not hang on the gift
fault_of-blind : (s : Seen) (p : Proc) → fault_of s p ≡ fault_of (blind s) p
fault_of-blind s p = refl

-- whichever member it is
fault-member : (b : Bool) (x x' y y' : Option Fault) → x ≡ x' → y ≡ y'
    → ◌≡◌ {A = Option Fault} (elim b [ true ↦ x | false ↦ y ]) (elim b [ true ↦ x' | false ↦ y' ])
fault-member true x x' y y' e e' = e
fault-member false x x' y y' e e' = e'

mutual
  -- nor does the fault in a form
  pub fault-blind : (s : Seen) (k : ℕ) (t : Term) → fault_in s k t ≡ fault_in (blind s) k t
  fault-blind s k (place p) = ap (λ o. if nat_eq s.strand k then o else None) (fault_of-blind s p)
  fault-blind s k (thrown f) = refl
  fault-blind s k (seq t rest) = fault-blind s k t
  fault-blind s k (par ts) = fault-blind_among s ts
  fault-blind s k (in_scope q t h u) = fault-blind (inside s q h) k t
  fault-blind s k (exec m o y t) = fault-blind s k t
  fault-blind s k (prot t) = fault-blind s k t
  fault-blind s k t = refl

  -- nor in members
  fault-blind_among : (s : Seen) (ts : Strands) → fault_among s ts ≡ fault_among (blind s) ts
  fault-blind_among s no_strands = refl
  fault-blind_among s (strand k t ts) =
      fault-member (stands_in s.strand k t) (fault_in s k t) (fault_in (blind s) k t) (fault_among s ts)
      (fault_among (blind s) ts)
      (fault-blind s k t) (fault-blind_among s ts)

-- ---- an event

-- what a configuration asks of the office, by its fault and whether nothing is left to do
abbrev asked_if : Seen → Term → Bool → Option Fault → Need
asked_if s t true o = need.Finish
asked_if s t false (Some f) = need.Nothing
asked_if s t false None = need_in s t

-- what strand n of a configuration asks
abbrev asked_by : ProgramParts → ℕ → Config → ℕ → Need
asked_by parts service c n =
    let s = seen_by parts service c n given.Nothing in asked_if s c.form (is_finished c.form) (fault_in s 0 c.form)

-- a fault that was carried asks nothing
asks-raised : (c : Config) (n f : ℕ) (x : Carried Term) (a : Need) → need.Nothing ≡ a
    → OnValue (λ d. d.need ≡ a) (raised c n f x)
asks-raised c n f (up t) a e = e
asks-raised c n f (caught_at t q) a e = e
asks-raised c n f (ended_at t q) a e = e
asks-raised c n f (blocked m) a e = tt
asks-raised c n f absent a e = tt

-- the last event ends the session
asks-finishes : (c : Config) (n : ℕ) (g : Given) (a : Need) → need.Finish ≡ a
    → OnValue (λ d. d.need ≡ a) (finishes c n g)
asks-finishes c zero given.Nothing a e = e
asks-finishes c n g a e = tt

-- by what is finished and what fault there is
asked-by : (s : Seen) (t : Term) (b b' : Bool) (o o' : Option Fault) → b ≡ b' → o ≡ o'
    → asked_if s t b o ≡ asked_if s t b' o'
asked-by s t b b' o o' e e' = rw (e, e') refl

-- a move asks what the blind strand asks
moves-ask : (s : Seen) (t : Term) (a : Need) → need_in (blind s) t ≡ a → OnValue (λ m. m.made.need ≡ a) (moves s 0 t)
moves-ask s t a e =
    OnValue-imp (Asks s 0 t) (λ m. m.made.need ≡ a) (moves s 0 t) (λ m h. h ∙ e)
    (keeps-moves Asks AsksAmong asks-keeps s 0 t)

-- an event asks what the blind strand asks
asks-after : (parts : ProgramParts) (service : ℕ) (c : Config) (n : ℕ) (g : Given) (d : Done)
    → after parts service c n g ≡ Some d
    → d.need ≡ asked_by parts service c n
asks-after parts service c n g =
    let s = seen_by parts service c n g in
    let b = seen_by parts service c n given.Nothing in
    let seen = fault-blind s 0 c.form in
    of_event (λ d. d.need ≡ asked_by parts service c n) parts service c n g
    (λ ended finished. asks-finishes c n g (asked_by parts service c n)
    (sym (ap (λ x. asked_if b c.form x (fault_in b 0 c.form)) finished)))
    (λ f going e there. asks-raised c n f.name _ (asked_by parts service c n)
    (sym (asked-by b c.form (is_finished c.form) false (fault_in b 0 c.form) (Some f) going (sym seen ∙ there))))
    (λ going none. moves-ask s c.form (asked_by parts service c n)
    (sym (asked-by b c.form (is_finished c.form) false (fault_in b 0 c.form) None going (sym seen ∙ none))))

-- what a strand asks does not hang on the gift
pub asks_one_thing : AsksOneThing
asks_one_thing parts service c n g g' d d' e e' =
    asks-after parts service c n g d e ∙ sym (asks-after parts service c n g' d' e')
