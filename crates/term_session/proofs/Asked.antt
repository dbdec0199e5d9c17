-- Every event asks what its strand is said to ask.
use Rattle.std.proofs.Common.{◌≡◌, ℕ, zero, suc, Bool, true, false, List, [], ◌∷◌, Option, None, Some, option_map, if◌then◌else◌, nat_eq, refl, sym, ap, ◌∙◌}
use Rattle.std.proofs.lemmas.Option.{none-some}
use Rattle.behaviour_tree.specs.declared.words.Need.{Need}
use Rattle.behaviour_tree.specs.declared.words.Need.TheVariants as need
use Rattle.behaviour_tree.specs.declared.words.Given.{Given}
use Rattle.behaviour_tree.specs.declared.words.Given.TheVariants as given
use Rattle.behaviour_tree.specs.Data.{PathTree, Proc, assign, undef, copy, Branches, no_branches, one_way, request, ProgramParts}
use Rattle.session_calculus.specs.Tables.{Table}
use Rattle.session_calculus.specs.Terms.{Fault, Term, Strands, done, place, seq, par, in_scope, exec, prot, strand, State, stands_in}
use Rattle.session_calculus.specs.Throw.{Carried, up, caught_at, ended_at, blocked, absent, throw}
use Rattle.session_calculus.specs.Moves.{Seen, Move, moved_to, inside}
use Rattle.session_calculus.specs.Effects.{Effect, faults, stores, received}
use Rattle.session_calculus.specs.Faults.{fault_in}
use Rattle.behaviour_tree.specs.FormedBehaviours.{branch_operations}
use Rattle.session_calculus.specs.Inputs.{Coming, past, goes_on, comes}
use Rattle.session_calculus.specs.Calls.{message_value}
use Rattle.session_calculus.specs.After.{Config, Done, moves, is_finished, raised, acts, finishes, seen_by, after}
use Rattle.session_laws.proofs.Options.{OnValue, OnValue-if, OnValue-imp}
use Rattle.session_laws.proofs.Moving.{NotDone, Writes, Alone, coming, Keeps, keeps-moves}
use Rattle.session_laws.proofs.Events.{of_event}
use Rattle.session_laws.proofs.Asking.{blind, fault-blind}
use Rattle.session_events.specs.Asked.{asked, one_of}
use Rattle.term_session.specs.Asks.{asked_alone, asked_in, asked_among, asked_at_end, asked_by_throw, asked_with, needed}

-- a move asks what the strand that acts is said to ask
abbrev Asks : Seen → ℕ → Term → Move Term → Type 0
Asks s k t m = asked_in (blind s) k t ≡ Some m.made.need

-- the same of members
abbrev AsksAmong : Seen → Strands → Move Strands → Type 0
AsksAmong s ts m = asked_among (blind s) ts ≡ Some m.made.need

-- what the strand asks in its own form
alone : (s : Seen) (k : ℕ) (o : Option Need) → nat_eq s.strand k ≡ true → asked_alone s k o ≡ o
alone s k o e = ap (λ b. if b then o else None) e

-- an action on the store
asks-store : (s : Seen) (p : Proc) → Writes p → asked s p ≡ Some need.Nothing
asks-store s (assign p e) w = refl
asks-store s (undef p) w = refl
asks-store s (copy p e) w = refl
asks-store s p w = absurd w

-- a message that came
asks-goes_on : (s : Seen) (m : Coming) (p : Proc) (e : Effect) → (goes_on s m p e).made.need ≡ need.Take m.ops
asks-goes_on s m p (faults f) = refl
asks-goes_on s m p (stores x) = refl

-- a choice asks for a message of its operations
asks-comes : (s : Seen) (m : Coming) (bs : Branches) → OnValue (λ x. x.made.need ≡ need.Take m.ops) (comes s m bs)
asks-comes s m no_branches = tt
asks-comes s m (one_way o x p bs) =
    OnValue-if (nat_eq o m.op) (λ z. z.made.need ≡ need.Take m.ops) (Some (goes_on s m p (received s.store x m.value)))
    (comes s (past m) bs) (asks-goes_on s m p (received s.store x m.value)) (asks-comes s (past m) bs)
asks-comes s m (request o x y body p bs) =
    OnValue-if (nat_eq o m.op) (λ z. z.made.need ≡ need.Take m.ops) _
    (comes s (past m) bs) (asks-goes_on s m body (received s.store x m.value)) (asks-comes s (past m) bs)

-- a choice that takes a message has branches
asks-choice : (s : Seen) (m : Coming) (bs : Branches) → m.ops ≡ branch_operations bs
    → OnValue (λ x. one_of (branch_operations bs) ≡ Some x.made.need) (comes s m bs)
asks-choice s m no_branches e = tt
asks-choice s m (one_way o x p bs) e =
    OnValue-imp (λ z. z.made.need ≡ need.Take m.ops) (λ z. Some (need.Take (o ∷ branch_operations bs)) ≡ Some z.made.need)
    (comes s m (one_way o x p bs)) (λ z h. ap Some (sym (h ∙ ap need.Take e))) (asks-comes s m (one_way o x p bs))
asks-choice s m (request o x y body p bs) e =
    OnValue-imp (λ z. z.made.need ≡ need.Take m.ops) (λ z. Some (need.Take (o ∷ branch_operations bs)) ≡ Some z.made.need)
    (comes s m (request o x y body p bs)) (λ z h. ap Some (sym (h ∙ ap need.Take e))) (asks-comes s m (request o x y body p bs))

-- a request whose body is not done asks what its body asks
asks-request : (s : Seen) (k m o : ℕ) (y : Option PathTree) (t : Term) → NotDone t → asked_in s k (exec m o y t) ≡ asked_in s k t
asks-request s k m o y done d = absurd d
asks-request s k m o y t d = refl

-- a scope whose body is not done asks what its body asks
asks-scope : (s : Seen) (k q : ℕ) (t : Term) (h : Table) (u : State) → NotDone t
    → asked_in s k (in_scope q t h u) ≡ asked_in (inside s q h) k t
asks-scope s k q done h u d = absurd d
asks-scope s k q t h u d = refl

-- whichever member it is
asks-member : (s : Seen) (k : ℕ) (t : Term) (ts : Strands) (b : Bool) → stands_in s.strand k t ≡ b
    → asked_among s (strand k t ts) ≡ elim b [ true ↦ asked_in s k t | false ↦ asked_among s ts ]
asks-member s k t ts b e = ap (λ b. elim b [ true ↦ asked_in s k t | false ↦ asked_among s ts ]) e

-- every move asks it
asks-keeps : Keeps Asks AsksAmong
asks-keeps = record {
  store = λ s k p x w a. alone s k (asked s p) a.own ∙ asks-store s p w;
  first = λ s k e p q a. alone s k (Some need.Nothing) a.own;
  second = λ s k e p q a. alone s k (Some need.Nothing) a.own;
  turn = λ s k e p a. alone s k (Some need.Nothing) a.own;
  leave = λ s k e p a. alone s k (Some need.Nothing) a.own;
  installed = λ s k list a. alone s k (Some need.Nothing) a.own;
  compensated = λ s k r a. alone s k (Some need.Nothing) a.own;
  came = λ s k bs m o v own e.
      OnValue-imp (λ x. one_of (branch_operations bs) ≡ Some x.made.need) (λ x. asked_alone s k (one_of (branch_operations bs)) ≡ Some x.made.need)
      (comes s (coming m o v bs) bs) (λ x h. alone s k (one_of (branch_operations bs)) own ∙ h) (asks-choice s (coming m o v bs) bs refl);
  notified = λ s k port op e v a eq.
      alone s k (option_map (λ v. need.Send s.call port op v false) (message_value s port op e)) a.own
      ∙ ap (option_map (λ v. need.Send s.call port op v false)) eq;
  solicited = λ s k port op e x list v a eq.
      alone s k (option_map (λ v. need.Send s.call port op v true) (message_value s port op e)) a.own
      ∙ ap (option_map (λ v. need.Send s.call port op v true)) eq;
  bound = λ s k v e r own eq. alone s k _ own ∙ ap (option_map (need.Bind v)) eq;
  unbound = λ s k v e r own eq. alone s k _ own ∙ ap (option_map (need.Bind v)) eq;
  answer_faults = λ s k n port op x list f own. alone s k (Some (need.Answer n)) own;
  answer_overflows = λ s k n port op x list f own fit. alone s k (Some (need.Answer n)) own;
  answer_sets = λ s k n port op x list y own fit. alone s k (Some (need.Answer n)) own;
  dead_installs = λ s k n port op list own fit. alone s k (Some (need.Answer n)) own;
  dead_ends = λ s k n port op list own. alone s k (Some (need.Answer n)) own;
  ended = λ s k q h a. alone s k (Some need.Nothing) a.own;
  handled = λ s k q h f a. alone s k (Some need.Nothing) a.own;
  terminated = λ s k q h a. alone s k (Some need.Nothing) a.own;
  replied = λ s k m o y a. alone s k _ a.own;
  told = λ s k m f t a. alone s k _ a.own;
  in_head = λ s k t rest m h. h;
  in_members = λ s k ts m h. h;
  in_body = λ s k q t h u m d k'. asks-scope (blind s) k q t h u d ∙ k';
  in_request = λ s k n o y t m d h. asks-request (blind s) k n o y t d ∙ h;
  in_prot = λ s k t m h. h;
  in_member = λ s k t ts m e h. asks-member (blind s) k t ts true e ∙ h;
  in_others = λ s k t ts m e h. asks-member (blind s) k t ts false e ∙ h;
}

-- ---- an event

-- a fault that was carried
asks-raised : (c : Config) (n f : ℕ) (x : Carried Term) → OnValue (λ d. asked_by_throw x ≡ Some d.need) (raised c n f x)
asks-raised c n f (up t) = refl
asks-raised c n f (caught_at t q) = refl
asks-raised c n f (ended_at t q) = refl
asks-raised c n f (blocked m) = tt
asks-raised c n f absent = tt

-- the last event
asks-finishes : (c : Config) (n : ℕ) (g : Given) → OnValue (λ d. asked_at_end n ≡ Some d.need) (finishes c n g)
asks-finishes c zero given.Nothing = refl
asks-finishes c n g = tt

-- what strand n of a session that goes on asks, by whether nothing is left to do and by the fault that it has
abbrev pub asked_now : Seen → Term → Bool → Option Fault → Option Need
asked_now s t true o = asked_at_end s.strand
asked_now s t false o = asked_with s t o

-- what it needs, by whether it ended
needed-going : (parts : ProgramParts) (service : ℕ) (c : Config) (n : ℕ) → c.ended ≡ false
    → needed parts service c n
    ≡ (let s = seen_by parts service c n given.Nothing in asked_now s c.form (is_finished c.form) (fault_in s 0 c.form))
needed-going parts service c n e = rw e (by-end (is_finished c.form))
  where
    by-end : (b : Bool)
        → ◌≡◌ {A = Option Need}
        (let s = seen_by parts service c n given.Nothing in if b then asked_at_end n else asked_with s c.form (fault_in s 0 c.form))
        (let s = seen_by parts service c n given.Nothing in asked_now s c.form b (fault_in s 0 c.form))
    by-end true = refl
    by-end false = refl

-- by what is finished and what fault there is
asked-by : (s : Seen) (t : Term) (b b' : Bool) (o o' : Option Fault) → b ≡ b' → o ≡ o' → asked_now s t b o ≡ asked_now s t b' o'
asked-by s t b b' o o' e e' = rw (e, e') refl

-- a session with an event has not ended
not_ended : (parts : ProgramParts) (service : ℕ) (c : Config) (n : ℕ) (g : Given) (d : Done) → after parts service c n g ≡ Some d
    → c.ended ≡ false
not_ended parts service c n g d = go c.ended
  where
    go : (b : Bool)
        → elim b [
          | true ↦ None
          | false ↦ elim (is_finished c.form) [
            | true ↦ finishes c n g
            | false ↦ acts c (seen_by parts service c n g)
          ]
        ] ≡ Some d
        → b ≡ false
    go true e = absurd (none-some d e)
    go false e = refl

-- every event asks what its strand is said to need
pub needs_after : (parts : ProgramParts) (service : ℕ) (c : Config) (n : ℕ) (g : Given) (d : Done)
    → after parts service c n g ≡ Some d → needed parts service c n ≡ Some d.need
needs_after parts service c n g d e =
    let b = seen_by parts service c n given.Nothing in
    let seen = fault-blind (seen_by parts service c n g) 0 c.form in
    needed-going parts service c n (not_ended parts service c n g d e)
    ∙ of_event (λ d. asked_now b c.form (is_finished c.form) (fault_in b 0 c.form) ≡ Some d.need) parts service c n g
    (λ ended finished. OnValue-imp (λ d. asked_at_end n ≡ Some d.need) _ (finishes c n g)
    (λ d h. asked-by b c.form (is_finished c.form) true (fault_in b 0 c.form) (fault_in b 0 c.form) finished refl ∙ h) (asks-finishes c n g))
    (λ f going given there. OnValue-imp (λ d. asked_by_throw (throw n f 0 c.form) ≡ Some d.need) _ (raised c n f.name (throw n f 0 c.form))
    (λ d h. asked-by b c.form (is_finished c.form) false (fault_in b 0 c.form) (Some f) going (sym seen ∙ there) ∙ h)
    (asks-raised c n f.name (throw n f 0 c.form)))
    (λ going none. OnValue-imp (Asks (seen_by parts service c n g) 0 c.form) _ (moves (seen_by parts service c n g) 0 c.form)
    (λ m h. asked-by b c.form (is_finished c.form) false (fault_in b 0 c.form) None going (sym seen ∙ none) ∙ h)
    (keeps-moves Asks AsksAmong asks-keeps (seen_by parts service c n g) 0 c.form))
    d e
