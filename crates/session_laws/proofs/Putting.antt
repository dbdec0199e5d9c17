-- Where the handlers under scope names come from.
use Rattle.std.proofs.Common.{◌≡◌, ◌⊎◌, inl, inr, ⊎_elim, ℕ, zero, suc, ◌+◌, ◌≤◌, Bool, true, false, List, [], ◌∷◌, Option, None, Some, is_some, if◌then◌else◌, nat_eq, slice_get, unwrap_or, refl, sym, ap, ap₂, ◌∙◌, subst, arith}
use Rattle.std.proofs.lemmas.Bool.{eqb-true, and_parts}
use Rattle.behaviour_tree.specs.declared.words.Kind.{Kind}
use Rattle.behaviour_tree.specs.declared.words.Kind.TheVariants as kind
use Rattle.behaviour_tree.specs.declared.words.Given.{Given}
use Rattle.behaviour_tree.specs.declared.words.Given.TheVariants as given
use Rattle.behaviour_tree.specs.Data.{Proc, nothing, choose, repeat, choice, notify, solicit, install, bind, Branches, no_branches, one_way, request, HandlerList, ProgramParts, behaviour_of}
use Rattle.session_calculus.specs.Names.{correlation_error}
use Rattle.session_calculus.specs.Tables.{Table, entry, without, or_nothing, plus}
use Rattle.session_calculus.specs.Terms.{Term, Strands, done, place, thrown, in_scope, wait, dead_wait, strand, State, live, caught, term, last, is_among, stands_in}
use Rattle.session_calculus.specs.Start.{start, begin, normal}
use Rattle.session_calculus.specs.Throw.{Carried, up, caught_at, ended_at, blocked, absent, throw}
use Rattle.session_calculus.specs.Moves.{Seen, Move, moved_to, within, quietly, starts, instead}
use Rattle.session_calculus.specs.Effects.{Effect, faults, stores, received}
use Rattle.session_calculus.specs.Inputs.{Coming, past, goes_on, asked, comes}
use Rattle.session_calculus.specs.Calls.{notifies, solicits, asks_to_bind}
use Rattle.session_calculus.specs.Answers.{call_of, answer_comes}
use Rattle.session_calculus.specs.After.{Config, Done, first_config, turn_of, moved, moves, raised, finishes, seen_by, after}
use Rattle.session_calculus.specs.Runs.{TakenStep, Leads, start_of}
use Rattle.session_calculus.specs.Laws.{IsOfItsStrand}
use Rattle.session_calculus.specs.Sound.{strands_of}
use Rattle.session_calculus.specs.Compensations.{StrandsDiffer, ScopeId, scope_id, Standing, is_same, scope_at, scope_among, Acting, acting_in, ending_in, acting, acting_among, Held, Stands, with_installed, Installs, Puts, by_end, by_this, by_name, EntriesComeFromEvents, StandsThrough, WasPut, EntriesWerePut}
use Rattle.session_laws.specs.Strands.{StrandsDifferInRuns}
use Rattle.session_laws.proofs.Options.{OnValue, OnValue-if, OnValue-imp, OnValue-all, OnValue-lift, OnValue-some, OnValue-both, OnValue-every}
use Rattle.session_laws.proofs.Counting.{times, times-cons, below, below-le, sound-times}
use Rattle.session_laws.proofs.Moving.{NotDone, coming, Keeps, keeps-moves}
use Rattle.session_laws.proofs.Carrying.{Carries, carries-both}
use Rattle.session_laws.proofs.Fresh.{fresh-start, fresh-begin}
use Rattle.session_laws.proofs.Drawing.{HasStrands, strands-throw, MoveDraws, MoveDrawsAll, draws-keeps}
use Rattle.session_laws.proofs.Entries.{none_some, entry-without, entry-over, names_under, named-how, entry-plus}
use Rattle.session_laws.proofs.Walks.{handler_at, Has, has-found, standing, found-same, found-other, has-in_scope, found-first, found-rest, has-among, finds, finds_among, Differ, AllDiffer, differ-first, differ-rest, apart, fresh-has, has-standing, had-normal, stood-normal, Alike, alike-throw}
use Rattle.session_laws.proofs.Sounding.{strands-stay, strands-begin}
use Rattle.session_laws.proofs.Events.{of_event}

-- ---- what is known of an entry

-- a handler that a scope has after an event: it had it before, or the event put it there; of the scope before and after
data Known (w : ScopeId) (r : ℕ) (p : Proc) (k : Kind) (a : Option Acting) (o n : Option Standing) : Type 0 where
  stood : Has r p o → Known w r p k a o n
  by_ending : (h : Table) → k ≡ kind.EndScope → a ≡ ending_in (Some w) h → entry r h.scopes ≡ Some p
      → Known w r p k a o n
  by_installing : (x : Standing) (list : HandlerList) → (k ≡ kind.Install) ⊎ (k ≡ kind.Answer)
      → a ≡ acting_in (Some w) list → o ≡ Some x → n ≡ Some (with_installed x list)
      → entry r (with_installed x list).table.scopes ≡ Some p → names_under x.name r list ≡ true → Known w r p k a o n

-- a handler that the nearest scope v has, by its name and the handlers that it had, and those that it has now
data KnownHere (v : Option ScopeId) (y : Standing) (h' : Table) (r : ℕ) (p : Proc) (k : Kind) (a : Option Acting)
    : Type 0 where
  kept : entry r y.table.scopes ≡ Some p → KnownHere v y h' r p k a
  ends_here : (h : Table) → k ≡ kind.EndScope → a ≡ ending_in v h → entry r h.scopes ≡ Some p → KnownHere v y h' r p k a
  installs_here : (list : HandlerList) → (k ≡ kind.Install) ⊎ (k ≡ kind.Answer) → a ≡ acting_in v list
      → h' ≡ plus y.name y.table list → entry r (plus y.name y.table list).scopes ≡ Some p
      → names_under y.name r list ≡ true → KnownHere v y h' r p k a

-- where other walks come to the same
known-at : (w : ScopeId) (r : ℕ) (p : Proc) (k : Kind) (a a' : Option Acting) (o o' n n' : Option Standing) → a ≡ a'
    → o ≡ o' → n ≡ n' → Known w r p k a' o' n' → Known w r p k a o n
known-at w r p k a a' o o' n n' e f g (stood h) = stood (ap (handler_at r) f ∙ h)
known-at w r p k a a' o o' n n' e f g (by_ending h i j found) = by_ending h i (e ∙ j) found
known-at w r p k a a' o o' n n' e f g (by_installing x list i j l m own named) =
    by_installing x list i (e ∙ j) (f ∙ l) (g ∙ m) own named

-- where another walk comes to the same form that acts
here-at : (v : Option ScopeId) (y : Standing) (h' : Table) (r : ℕ) (p : Proc) (k : Kind) (a a' : Option Acting) → a ≡ a'
    → KnownHere v y h' r p k a' → KnownHere v y h' r p k a
here-at v y h' r p k a a' e (kept h) = kept h
here-at v y h' r p k a a' e (ends_here h i j found) = ends_here h i (e ∙ j) found
here-at v y h' r p k a a' e (installs_here list i j t own named) = installs_here list i (e ∙ j) t own named

-- the nearest scope is scope w
here-known : (w v : ScopeId) (y : Standing) (h' : Table) (r : ℕ) (p : Proc) (k : Kind) (a a' : Option Acting)
    (o n : Option Standing) → a ≡ a' → w ≡ v → o ≡ Some y → n ≡ Some (standing y.name h')
    → KnownHere (Some v) y h' r p k a' → Known w r p k a o n
here-known w v y h' r p k a a' o n e same f g (kept h) = stood (ap (handler_at r) f ∙ h)
here-known w v y h' r p k a a' o n e same f g (ends_here h i j found) =
    by_ending h i (e ∙ j ∙ ap (λ z. ending_in (Some z) h) (sym same)) found
here-known w v y h' r p k a a' o n e same f g (installs_here list i j t own named) =
    by_installing y list i (e ∙ j ∙ ap (λ z. acting_in (Some z) list) (sym same)) f
    (g ∙ ap (λ h. Some (standing y.name h)) t) own named

-- the scope after the event is the same in normal form
known-normal : (w : ScopeId) (r : ℕ) (p : Proc) (k : Kind) (a : Option Acting) (o n n' : Option Standing) (y : Standing)
    → n ≡ Some y → n' ≡ Some y → Known w r p k a o n → Known w r p k a o n'
known-normal w r p k a o n n' y e f (stood h) = stood h
known-normal w r p k a o n n' y e f (by_ending h i j found) = by_ending h i j found
known-normal w r p k a o n n' y e f (by_installing x list i j l m own named) =
    by_installing x list i j l (f ∙ sym e ∙ m) own named

-- ---- moves

-- the nearest scope, as a move sees it
abbrev seen_scope : Seen → Standing
seen_scope s = standing s.scope s.table

-- what is known of the handlers after a move, those of the nearest scope too
abbrev MoveKnown : Seen → ℕ → Term → Move Term → Type 0
MoveKnown s i t m =
    Differ t → (r : ℕ) (p : Proc) (d : ℕ) (v : Option ScopeId)
    → ((w : ScopeId) → Has r p (scope_at w i d m.form)
    → Known w r p m.made.event.kind (acting s.strand i d v t) (scope_at w i d t) (scope_at w i d m.form))
    × (entry r m.made.table.scopes ≡ Some p → KnownHere v (seen_scope s) m.made.table r p m.made.event.kind
    (acting s.strand i d v t))

-- the same of members
abbrev MoveKnownAll : Seen → Strands → Move Strands → Type 0
MoveKnownAll s ts m =
    AllDiffer ts → (r : ℕ) (p : Proc) (v : Option ScopeId)
    → ((w : ScopeId) → Has r p (scope_among w m.form)
    → Known w r p m.made.event.kind (acting_among s.strand v ts) (scope_among w ts) (scope_among w m.form))
    × (entry r m.made.table.scopes ≡ Some p → KnownHere v (seen_scope s) m.made.table r p m.made.event.kind
    (acting_among s.strand v ts))

-- a form in whose scopes there is no handler
abbrev IsBare : Term → Type 0
IsBare t = (w : ScopeId) (r : ℕ) (p : Proc) (i d : ℕ) → Has r p (scope_at w i d t) → ⊥

-- a form without a scope
bare-none : (w : ScopeId) (r : ℕ) (p : Proc) (i d : ℕ) → Has r p None → ⊥
bare-none w r p i d h = none_some p h

-- what starts
bare-start : (p : Proc) (n : ℕ) → IsBare (start p n).form
bare-start p n w r x i d h = fresh-has w r x i d (start p n).form (fresh-start p n) h

-- a move that leaves no scope with a handler, and the nearest scope as it is
known-bare : (s : Seen) (i : ℕ) (t : Term) (m : Move Term) → IsBare m.form → m.made.table ≡ s.table → MoveKnown s i t m
known-bare s i t m none same df r p d v =
    (λ w h. absurd (none w r p i d h), λ h. kept (ap (λ x. entry r x.scopes) (sym same) ∙ h))

-- handlers are installed in the nearest scope
known-installs : (s : Seen) (r : ℕ) (p : Proc) (k : Kind) (v : Option ScopeId) (a : Option Acting) (list : HandlerList)
    → (k ≡ kind.Install) ⊎ (k ≡ kind.Answer) → a ≡ acting_in v list
    → entry r (plus s.scope s.table list).scopes ≡ Some p
    → KnownHere v (seen_scope s) (plus s.scope s.table list) r p k a
known-installs s r p k v a list i e h =
    ⊎_elim (λ old. kept old) (λ named. installs_here list i e refl h named) (entry-plus s.scope r p s.table list h)

-- the form that acts in its own strand
pub acts-own : (b : Bool) (a : Option Acting) → b ≡ true → (if b then a else None) ≡ a
acts-own b a e = ap (λ c. if c then a else None) e

-- a message that came
bare-goes_on : (s : Seen) (m : Coming) (p : Proc) (e : Effect)
    → IsBare (goes_on s m p e).form × ((goes_on s m p e).made.table ≡ s.table)
bare-goes_on s m p (faults f) = (λ w r x i d h. none_some x h, refl)
bare-goes_on s m p (stores y) = (bare-start p s.next, refl)

-- a message that comes to branches
bare-comes : (s : Seen) (m : Coming) (bs : Branches)
    → OnValue (λ x. IsBare x.form × (x.made.table ≡ s.table)) (comes s m bs)
bare-comes s m no_branches = tt
bare-comes s m (one_way o x p bs) =
    OnValue-if (nat_eq o m.op) (λ z. IsBare z.form × (z.made.table ≡ s.table))
    (Some (goes_on s m p (received s.store x m.value)))
    (comes s (past m) bs) (bare-goes_on s m p (received s.store x m.value)) (bare-comes s (past m) bs)
bare-comes s m (request o x y body p bs) =
    let g = bare-goes_on s m body (received s.store x m.value) in
    OnValue-if (nat_eq o m.op) (λ z. IsBare z.form × (z.made.table ≡ s.table))
    (Some (within (asked m y p) (goes_on s m body (received s.store x m.value)))) (comes s (past m) bs)
    (λ w r z i d h. g.0 w r z i d h, g.1) (bare-comes s (past m) bs)

-- a scope whose handler starts, with handlers that it had
known-starts : (s : Seen) (i q n : ℕ) (p : Proc) (h h' : Table) (u u' : State) (k : Kind)
    → ((r : ℕ) (x : Proc) → entry r h'.scopes ≡ Some x → entry r h.scopes ≡ Some x)
    → (r : ℕ) (x : Proc) (d : ℕ) (v : Option ScopeId) (w : ScopeId)
    → Has r x (scope_at w i d (in_scope q (start p n).form h' u'))
    → Known w r x k (acting s.strand i d v (in_scope q done h u)) (scope_at w i d (in_scope q done h u))
    (scope_at w i d (in_scope q (start p n).form h' u'))
known-starts s i q n p h h' u u' k old r x d v w e =
    ⊎_elim (λ own. stood (ap (handler_at r) (found-same w i d q done h own.0 u) ∙ old r x own.1))
    (λ inner. absurd (bare-start p n w r x i (suc d) inner.1)) (has-in_scope w r x i d q (start p n).form h' u' e)

-- a scope whose body is not done acts by its body
pub acting-body : (n i d : ℕ) (v : Option ScopeId) (q : ℕ) (t : Term) (h : Table) (u : State) → NotDone t
    → acting n i d v (in_scope q t h u) ≡ acting n i (suc d) (Some (scope_id i d)) t
acting-body n i d v q done h u nd = absurd nd
acting-body n i d v q t h u nd = refl

-- a scope is the one of its place
pub same-scope : (w : ScopeId) (i d : ℕ) → is_same w (scope_id i d) ≡ true → w ≡ scope_id i d
same-scope w i d e =
    let both = and_parts (nat_eq w.strand i) (nat_eq w.depth d) e in
    ap₂ scope_id (eqb-true w.strand i both.0) (eqb-true w.depth d both.1)

-- the member that acts
pub acting-first : (n k : ℕ) (v : Option ScopeId) (t : Term) (ts : Strands) → stands_in n k t ≡ true
    → acting_among n v (strand k t ts) ≡ acting n k 0 v t
acting-first n k v t ts e = ap (λ b. elim b [ true ↦ acting n k 0 v t | false ↦ acting_among n v ts ]) e

-- or the others
pub acting-rest : (n k : ℕ) (v : Option ScopeId) (t : Term) (ts : Strands) → stands_in n k t ≡ false
    → acting_among n v (strand k t ts) ≡ acting_among n v ts
acting-rest n k v t ts e = ap (λ b. elim b [ true ↦ acting n k 0 v t | false ↦ acting_among n v ts ]) e

-- what is known in a member is known among members
known-first : (w : ScopeId) (r : ℕ) (p : Proc) (k : Kind) (a a' : Option Acting) (i : ℕ) (t : Term) (ts : Strands)
    (n n' : Option Standing) → a ≡ a' → n ≡ n'
    → Known w r p k a' (scope_at w i 0 t) n' → Known w r p k a (scope_among w (strand i t ts)) n
known-first w r p k a a' i t ts n n' e g (stood h) =
    stood (ap (handler_at r) (found-first w i t ts (finds w i 0 t (has-found r p (scope_at w i 0 t) h))) ∙ h)
known-first w r p k a a' i t ts n n' e g (by_ending h x j found) = by_ending h x (e ∙ j) found
known-first w r p k a a' i t ts n n' e g (by_installing x list y j l m own named) =
    by_installing x list y (e ∙ j) (found-first w i t ts (finds w i 0 t (ap is_some l)) ∙ l) (g ∙ m) own named

-- a strand that stands among the others does not stand in the first
not_first : (x k : ℕ) (t : Term) (ts : Strands) → AllDiffer (strand k t ts) → (b : Bool) → stands_in x k t ≡ b
    → is_among x ts ≡ true → b ≡ false
not_first x k t ts df true e there = absurd (apart x k t ts df e there)
not_first x k t ts df false e there = refl

-- every move
known-keeps : Keeps MoveKnown MoveKnownAll
known-keeps = record {
  store = λ s k p x w a.
      known-bare s k (place p) (moved_to done (record (quietly s kind.Local) { store = x })) bare-none refl;
  first = λ s k e p q a.
      known-bare s k (place (choose e p q)) (starts p (quietly s kind.Local)) (bare-start p s.next) refl;
  second = λ s k e p q a.
      known-bare s k (place (choose e p q)) (starts q (quietly s kind.Local)) (bare-start q s.next) refl;
  turn = λ s k e p a.
      known-bare s k (place (repeat e p)) (starts (turn_of e p) (quietly s kind.Local))
      (bare-start (turn_of e p) s.next) refl;
  leave = λ s k e p a.
      known-bare s k (place (repeat e p)) (starts nothing (quietly s kind.Local)) (bare-start nothing s.next) refl;
  installed = λ s k list a df r p d v. (
    λ w h. absurd (none_some p h),
    λ h. known-installs s r p kind.Install v (acting s.strand k d v (place (install list))) list (inl refl)
        (acts-own (nat_eq s.strand k) (acting_in v list) a.own) h,
  );
  compensated = λ s k q a df r p d v. (
    λ w h. absurd (bare-start (or_nothing (entry q s.table.scopes)) s.next w r p k d h),
    λ h. kept (entry-without r q p s.table.scopes h),
  );
  came = λ s k bs m o v own e.
      OnValue-imp (λ x. IsBare x.form × (x.made.table ≡ s.table)) (MoveKnown s k (place (choice bs)))
      (comes s (coming m o v bs) bs)
      (λ x h. known-bare s k (place (choice bs)) x h.0 h.1) (bare-comes s (coming m o v bs) bs);
  notified = λ s k port op e v a eq. known-bare s k (place (notify port op e)) (notifies s port op v) bare-none refl;
  solicited = λ s k port op e x list v a eq.
      known-bare s k (place (solicit port op e x list)) (solicits s port op v (wait s.call port op x list)) bare-none
      refl;
  bound = λ s k v e r own eq. known-bare s k (place (bind v e)) (moved_to done (asks_to_bind s v r)) bare-none refl;
  unbound = λ s k v e r own eq.
      known-bare s k (place (bind v e)) (moved_to (instead correlation_error) (asks_to_bind s v r)) bare-none refl;
  answer_faults = λ s k n port op x list f own.
      known-bare s k (wait n port op x list) (moved_to (thrown f) (answer_comes s (call_of n port op))) bare-none refl;
  answer_overflows = λ s k n port op x list f own fit df r p d v. (
    λ w h. absurd (none_some p h),
    λ h. known-installs s r p kind.Answer v (acting s.strand k d v (wait n port op x list)) list (inr refl)
        (acts-own (nat_eq s.strand k) (acting_in v list) own) h,
  );
  answer_sets = λ s k n port op x list y own fit df r p d v. (
    λ w h. absurd (none_some p h),
    λ h. known-installs s r p kind.Answer v (acting s.strand k d v (wait n port op x list)) list (inr refl)
        (acts-own (nat_eq s.strand k) (acting_in v list) own) h,
  );
  dead_installs = λ s k n port op list own fit df r p d v. (
    λ w h. absurd (none_some p h),
    λ h. known-installs s r p kind.Answer v (acting s.strand k d v (dead_wait n port op list)) list (inr refl)
        (acts-own (nat_eq s.strand k) (acting_in v list) own) h,
  );
  dead_ends = λ s k n port op list own.
      known-bare s k (dead_wait n port op list) (moved_to done (answer_comes s (call_of n port op))) bare-none refl;
  ended = λ s k q h a df r p d v. (
    λ w e. absurd (none_some p e),
    λ e. ⊎_elim (λ inner. ends_here h refl (acts-own (nat_eq s.strand k) (ending_in v h) a.own) inner) (λ old. kept old)
        (entry-over r p h.scopes s.table.scopes e),
  );
  handled = λ s k q h f a df r p d v. (
    λ w e. known-starts s k q s.next (or_nothing (entry f.name h.faults)) h
        (record h { faults = without f.name h.faults }) (caught f) live
        kind.Handle (λ r x i. i) r p d v w e,
    λ e. kept e,
  );
  terminated = λ s k q h a df r p d v. (
    λ w e. known-starts s k q s.next (or_nothing (entry q h.scopes)) h (record h { scopes = without q h.scopes }) term
        last
        kind.Handle (λ r x i. entry-without r q x h.scopes i) r p d v w e,
    λ e. kept e,
  );
  replied = λ s k m o y a df r p d v. (λ w e. absurd (none_some p e), λ e. kept e);
  told = λ s k m f t a df r p d v. (λ w e. stood e, λ e. kept e);
  in_head = λ s k t rest m h. h;
  in_members = λ s k ts m h df r p d v. h df r p v;
  in_body = λ s k q t h u m nd ih df r p d v.
      let x = ih df r p (suc d) (Some (scope_id k d)) in
      let a = acting-body s.strand k d v q t h u nd in (
        λ w e. ⊎_elim
            (λ own. here-known w (scope_id k d) (standing q h) m.made.table r p m.made.event.kind
            (acting s.strand k d v (in_scope q t h u))
            (acting s.strand k (suc d) (Some (scope_id k d)) t) (scope_at w k d (in_scope q t h u))
            (scope_at w k d (in_scope q m.form m.made.table u)) a (same-scope w k d own.0)
            (found-same w k d q t h own.0 u) (found-same w k d q m.form m.made.table own.0 u) (x.1 own.1))
            (λ inner. known-at w r p m.made.event.kind (acting s.strand k d v (in_scope q t h u))
            (acting s.strand k (suc d) (Some (scope_id k d)) t) (scope_at w k d (in_scope q t h u))
            (scope_at w k (suc d) t) (scope_at w k d (in_scope q m.form m.made.table u)) (scope_at w k (suc d) m.form) a
            (found-other w k d q t h inner.0 u) (found-other w k d q m.form m.made.table inner.0 u) (x.0 w inner.1))
            (has-in_scope w r p k d q m.form m.made.table u e),
        λ e. kept e,
      );
  in_request = λ s k n o y t m d h. h;
  in_prot = λ s k t m h. h;
  in_member = λ s k t ts m own h df r p v.
      let x = h (differ-first k t ts df) r p 0 v in
      let a = acting-first s.strand k v t ts own in (
        λ w e. ⊎_elim
            (λ now. known-first w r p m.made.event.kind (acting_among s.strand v (strand k t ts))
            (acting s.strand k 0 v t) k t ts (scope_among w (strand k m.form ts)) (scope_at w k 0 m.form) a
            (found-first w k m.form ts now.0) (x.0 w now.1))
            (λ now. stood (ap (handler_at r) (found-rest w k t ts
            (not_first w.strand k t ts df (stands_in w.strand k t) refl
            (finds_among w ts (has-found r p (scope_among w ts) now.1)))) ∙ now.1))
            (has-among w r p k m.form ts e),
        λ e. here-at v (seen_scope s) m.made.table r p m.made.event.kind (acting_among s.strand v (strand k t ts))
            (acting s.strand k 0 v t) a (x.1 e),
      );
  in_others = λ s k t ts m own h df r p v.
      let x = h (differ-rest k t ts df) r p v in
      let a = acting-rest s.strand k v t ts own in (
        λ w e. ⊎_elim (λ now. stood (ap (handler_at r) (found-first w k t ts now.0) ∙ now.1))
            (λ now. known-at w r p m.made.event.kind (acting_among s.strand v (strand k t ts))
            (acting_among s.strand v ts)
            (scope_among w (strand k t ts)) (scope_among w ts) (scope_among w (strand k t m.form))
            (scope_among w m.form) a (found-rest w k t ts now.0) (found-rest w k t m.form now.0) (x.0 w now.1))
            (has-among w r p k t m.form e),
        λ e. here-at v (seen_scope s) m.made.table r p m.made.event.kind (acting_among s.strand v (strand k t ts))
            (acting_among s.strand v ts) a (x.1 e),
      );
}

-- ---- an event

-- what is known of the handlers after an event
abbrev KnownAfter : Config → ℕ → Done → Type 0
KnownAfter c n d =
    (w : ScopeId) (r : ℕ) (p : Proc) → Has r p (scope_at w 0 0 d.config.form)
    → Known w r p d.event.kind (acting n 0 0 None c.form) (scope_at w 0 0 c.form) (scope_at w 0 0 d.config.form)

-- what a fault left, in normal form
known-settled : (t t' : Term) (n m : ℕ) (k : Kind) → Differ t → Alike t t' × HasStrands (strands_of t) t'
    → (w : ScopeId) (r : ℕ) (p : Proc) → Has r p (scope_at w 0 0 (normal t' n).form)
    → Known w r p k (acting m 0 0 None t) (scope_at w 0 0 t) (scope_at w 0 0 (normal t' n).form)
known-settled t t' n m k df both w r p h =
    let old = had-normal t' n (λ x. omega (arith, ap (times x) both.1, df x)) w r p 0 0 h in
    stood (ap (handler_at r) (sym (both.0.found w 0 0)) ∙ old)

-- where a fault came to
known-raised : (c : Config) (n m f : ℕ) (x : Carried Term) → Differ c.form
    → Carries (λ t. Alike c.form t × HasStrands (strands_of c.form) t)
    (λ t. Alike c.form t × HasStrands (strands_of c.form) t) x
    → OnValue (KnownAfter c m) (raised c n f x)
known-raised c n m f (up t) df b = known-settled c.form t c.next m kind.Raise df b
known-raised c n m f (caught_at t q) df b = known-settled c.form t c.next m kind.Raise df b
known-raised c n m f (ended_at t q) df b = known-settled c.form t c.next m kind.Raise df b
known-raised c n m f (blocked k) df b = tt
known-raised c n m f absent df b = tt

-- the last event
known-finishes : (c : Config) (n m : ℕ) (g : Given) → OnValue (KnownAfter c m) (finishes c n g)
known-finishes c zero m given.Nothing = λ w r p h. stood h
known-finishes c n m g = tt

-- strands that are below a number differ
pub differ-config : (c : Config) → StrandsDiffer c → (x : ℕ) → times x (strands_of c.form) ≤ below c.next x
differ-config c sound x =
    omega (arith, times-cons x 0 (strands_of c.form), sound-times c.next (0 ∷ strands_of c.form) sound x)

-- they differ after a move too
pub differ-moved : (c : Config) (m : Move Term) → StrandsDiffer c
    → ((x : ℕ) → times x (strands_of m.form) + below c.next x ≤ times x (strands_of c.form) + below m.made.next x)
    → Differ m.form
differ-moved c m sound h x = omega (arith, h x, differ-config c sound x, below-le x m.made.next)

-- a move and its normal form
known-moved : (c : Config) (n : ℕ) (s : Seen) (m : Move Term) → s.strand ≡ n → StrandsDiffer c
    → MoveKnown s 0 c.form m × ((x : ℕ) → times x (strands_of m.form) + below c.next x ≤ times x (strands_of c.form)
    + below m.made.next x)
    → KnownAfter c n (moved c m)
known-moved c n s m own sound both w r p h =
    let df : Differ c.form = λ x. omega (arith, differ-config c sound x, below-le x c.next) in
    let apart_ = differ-moved c m sound both.1 in
    let b = normal m.form m.made.next in
    let y = has-standing r p (scope_at w 0 0 b.form) h in
    let old = stood-normal m.form m.made.next apart_ w r p y.0 0 0 y.2 y.1 in
    known-normal w r p m.made.event.kind (acting n 0 0 None c.form) (scope_at w 0 0 c.form) (scope_at w 0 0 m.form)
    (scope_at w 0 0 b.form) y.0 old y.1
    (subst (λ k. Known w r p m.made.event.kind (acting k 0 0 None c.form) (scope_at w 0 0 c.form) (scope_at w 0 0 m.form))
    own
    ((both.0 df r p 0 None).0 w (ap (handler_at r) old ∙ y.2)))

-- what is known after an event
known-after : (parts : ProgramParts) (service : ℕ) (c : Config) (n : ℕ) (g : Given) (d : Done) → StrandsDiffer c
    → after parts service c n g ≡ Some d → KnownAfter c n d
known-after parts service c n g d sound =
    let s = seen_by parts service c n g in
    let df : Differ c.form = λ x. omega (arith, differ-config c sound x, below-le x c.next) in
    let P : Term → Type 0 = λ t. Alike c.form t in
    let Q : Term → Type 0 = HasStrands (strands_of c.form) in
    let draws : Move Term → Type 0 = λ m. (x : ℕ) → MoveDraws x s 0 c.form m in
    of_event (KnownAfter c n) parts service c n g (λ ended finished. known-finishes c n n g)
    (λ f going e there. known-raised c n n f.name (throw n f 0 c.form) df
    (carries-both P P Q Q (throw n f 0 c.form) (alike-throw n f 0 c.form) (strands-throw n f 0 c.form)))
    (λ going none. OnValue-imp (λ m. MoveKnown s 0 c.form m × draws m) (λ m. KnownAfter c n (moved c m))
    (moves s 0 c.form)
    (λ m h. known-moved c n s m refl sound h)
    (OnValue-both (MoveKnown s 0 c.form) draws (moves s 0 c.form)
    (keeps-moves MoveKnown MoveKnownAll known-keeps s 0 c.form)
    (OnValue-every (λ x m. MoveDraws x s 0 c.form m) (moves s 0 c.form)
    (λ x. keeps-moves (MoveDraws x) (MoveDrawsAll x) (draws-keeps x) s 0 c.form)))) d

-- what is known of an entry, as the law says it
known-put : (c : Config) (d : Done) (e : Held)
    → Known e.scope e.name e.handler d.event.kind (acting d.event.strand 0 0 None c.form) (scope_at e.scope 0 0 c.form)
    (scope_at e.scope 0 0 d.config.form) → Stands e c ⊎ Puts e c d
known-put c d e (stood h) = inl (has-standing e.name e.handler (scope_at e.scope 0 0 c.form) h)
known-put c d e (by_ending h k a found) = inr (by_end h k a found)
known-put c d e (by_installing x list k a o n own named) =
    let installs : Installs e c d x list = record { sort = k; acts = a; stood = o; stands = n; held = own } in
    ⊎_elim (λ this. inr (by_this x list installs this.0 this.1)) (λ key_. inr (by_name x list installs key_))
    (named-how x.name e.name list named)

-- whatever stands under a scope name stood there, or the event put it there
pub entries_come_from_events : IsOfItsStrand → EntriesComeFromEvents
entries_come_from_events own parts service c n g d e sound done_ there =
    let known = known-after parts service c n g d sound done_ e.scope e.name e.handler
    (ap (handler_at e.name) there.1 ∙ there.2) in
    known-put c d e
    (subst (λ k. Known e.scope e.name e.handler d.event.kind (acting k 0 0 None c.form) (scope_at e.scope 0 0 c.form)
    (scope_at e.scope 0 0 d.config.form))
    (sym (own parts service c n g d done_)) known)

-- ---- a run

-- what stands through steps stands where they begin
stands-first : (parts : ProgramParts) (service : ℕ) (e : Held) (c : Config) (steps : List TakenStep)
    → StandsThrough parts service e c steps → Stands e c
stands-first parts service e c [] h = h
stands-first parts service e c (s ∷ steps) h = h.0

-- an entry stood through steps, or one of them put it there
put-steps : EntriesComeFromEvents
    → (parts : ProgramParts) (service : ℕ) (steps : List TakenStep) (from to : Config) (e : Held)
    → StrandsDiffer from → Leads parts service from steps to → Stands e to
    → StandsThrough parts service e from steps ⊎ WasPut parts service e from steps
put-steps law parts service [] from to e sound w there = inl (subst (Stands e) (sym w) there)
put-steps law parts service (s ∷ steps) from to e sound w there =
    let d = w.0 in
    let next = strands-stay parts service from s.event.strand s.gift d sound w.1 in
    go (put-steps law parts service steps d.config to e next w.3 there)
  where
    before : StandsThrough parts service e w.0.config steps → Stands e from ⊎ Puts e from w.0
        → StandsThrough parts service e from (s ∷ steps) ⊎ WasPut parts service e from (s ∷ steps)
    before through (inl stood_) = inl (stood_, w.0, w.1, through)
    before through (inr put) = inr (w.0, w.1, inl (put, through))

    go : StandsThrough parts service e w.0.config steps ⊎ WasPut parts service e w.0.config steps
        → StandsThrough parts service e from (s ∷ steps) ⊎ WasPut parts service e from (s ∷ steps)
    go (inl through) =
        before through
        (law parts service from s.event.strand s.gift w.0 e sound w.1
        (stands-first parts service e w.0.config steps through))
    go (inr was) = inr (w.0, w.1, inr was)

-- where a session begins no scope has a handler
stands-none : (p : Proc) (e : Held) → Stands e (first_config p) → ⊥
stands-none p e there =
    let b = begin p 1 in
    fresh-has e.scope e.name e.handler 0 0 (first_config p).form (refl, fresh-begin p 1)
    (ap (handler_at e.name) there.1 ∙ there.2)

-- the strands differ there, and no entry stands
begins-bare : (parts : ProgramParts) (service : ℕ) (from : Config) → start_of parts service ≡ Some from
    → StrandsDiffer from × ((e : Held) → Stands e from → ⊥)
begins-bare parts service from e =
    let found = slice_get parts.services service in
    OnValue-some (λ c. StrandsDiffer c × ((e : Held) → Stands e c → ⊥)) (start_of parts service) from e
    (OnValue-lift (λ s. Unit {0}) (λ c. StrandsDiffer c × ((e : Held) → Stands e c → ⊥))
    (λ s. first_config (behaviour_of s)) found
    (λ s u. (strands-begin (behaviour_of s), stands-none (behaviour_of s)))
    (OnValue-all (λ s. Unit {0}) found (λ s. tt)))

-- steps keep the strands different
differ-steps : (parts : ProgramParts) (service : ℕ) (steps : List TakenStep) (from to : Config) → StrandsDiffer from
    → Leads parts service from steps to → StrandsDiffer to
differ-steps parts service [] from to sound w = subst StrandsDiffer w sound
differ-steps parts service (s ∷ steps) from to sound w =
    differ-steps parts service steps w.0.config to
    (strands-stay parts service from s.event.strand s.gift w.0 sound w.1) w.3

-- in every run the strands differ
pub strands_differ_in_runs : StrandsDifferInRuns
strands_differ_in_runs parts service steps to run =
    differ-steps parts service steps run.0 to (begins-bare parts service run.0 run.1).0 run.2

-- one configuration begins a session
same-config : (o : Option Config) (c c' : Config) → o ≡ Some c → o ≡ Some c' → c ≡ c'
same-config o c c' e e' = ap (λ x. unwrap_or x c) (sym e ∙ e')

-- in every run whatever stands under a scope name was put there, and has stood since
pub entries_were_put : EntriesComeFromEvents → EntriesWerePut
entries_were_put law parts service steps first to e begins run there =
    let bare = begins-bare parts service first begins in
    let w = subst (λ c. Leads parts service c steps to) (same-config (start_of parts service) run.0 first run.1 begins)
    run.2 in
    ⊎_elim (λ through. absurd (bare.1 e (stands-first parts service e first steps through))) (λ was. was)
    (put-steps law parts service steps first to e bare.0 w there)
