-- Compensate takes the handler away.
use Rattle.std.proofs.Common.{◌≡◌, ◌⊎◌, inl, inr, ⊎_elim, ℕ, zero, suc, ◌+◌, ◌≤◌, Bool, true, false, ◌∷◌, Option, None, Some, is_some, unwrap_or, nat_eq, refl, sym, ap, ◌∙◌, subst, le_refl, arith}
use Rattle.std.proofs.lemmas.Bool.{false≢true, eq-eqb, and_from, or_left, or_right}
use Rattle.behaviour_tree.specs.declared.words.Kind.{Kind}
use Rattle.behaviour_tree.specs.declared.words.Kind.TheVariants as kind
use Rattle.behaviour_tree.specs.declared.words.Given.{Given}
use Rattle.behaviour_tree.specs.declared.words.Given.TheVariants as given
use Rattle.behaviour_tree.specs.Data.{Proc, choice, Branches, no_branches, one_way, request, no_handlers, ProgramParts}
use Rattle.session_calculus.specs.Tables.{Table, entry}
use Rattle.session_calculus.specs.Terms.{Term, Strands, place, in_scope, strand, State, is_within, is_among, stands_in}
use Rattle.session_calculus.specs.Throw.{Carried, up, caught_at, ended_at, blocked, absent, throw}
use Rattle.session_calculus.specs.Moves.{Seen, Move, within}
use Rattle.session_calculus.specs.Effects.{Effect, faults, stores, received}
use Rattle.session_calculus.specs.Inputs.{Coming, past, goes_on, asked, comes}
use Rattle.session_calculus.specs.After.{Config, Done, moved, moves, raised, finishes, seen_by, after}
use Rattle.session_calculus.specs.Sound.{strands_of}
use Rattle.session_calculus.specs.Compensations.{StrandsDiffer, ScopeId, scope_id, Standing, is_same, scope_at, scope_among, Acting, acting_in, acting, acting_among, CompensatesOnce}
use Rattle.session_laws.proofs.Options.{OnValue, OnValue-if, OnValue-imp, OnValue-both, OnValue-every}
use Rattle.session_laws.proofs.Counting.{once, once-same, times, times-cons, below, below-le, sound-times}
use Rattle.session_laws.proofs.Moving.{coming, Keeps, keeps-moves}
use Rattle.session_laws.proofs.Drawing.{times-strand, MoveDraws, MoveDrawsAll, draws-keeps}
use Rattle.session_laws.proofs.Entries.{none_some, entry-without_same}
use Rattle.session_laws.proofs.Walks.{handler_at, Has, has-found, found-same, has-in_scope, has-among, finds_among, AllDiffer, differ-rest, counts-within, apart, had-normal}
use Rattle.session_laws.proofs.Putting.{acts-own, acting-body, same-scope, acting-first, acting-rest, differ-moved}
use Rattle.session_laws.proofs.Events.{of_event}

-- the event is Compensate
abbrev pub is_compensate : Kind → Bool
is_compensate kind.Compensate = true
is_compensate k = false

-- another event is not
other : (k : Kind) → is_compensate k ≡ false → k ≡ kind.Compensate → ⊥
other k e h = false≢true (sym e ∙ ap is_compensate h)

-- by a form that acts, a handler was taken away: of the nearest scope, or of a scope in the form
data Spent (a : Option Acting) (v : Option ScopeId) (r : ℕ) (h : Table) (found : ScopeId → Option Standing)
    (inner : ScopeId → Type 0)
    : Type 0 where
  here : a ≡ acting_in v no_handlers → entry r h.scopes ≡ None → Spent a v r h found inner
  in_it : (w : ScopeId) → a ≡ acting_in (Some w) no_handlers → inner w → ((p : Proc) → Has r p (found w) → ⊥)
      → Spent a v r h found inner

-- a scope is one of a form that runs in strand k, with d scopes around it in that strand
abbrev IsInner : ℕ → ℕ → Term → ScopeId → Type 0
IsInner k d t w = ((w.strand ≡ k) × (d ≤ w.depth)) ⊎ (is_within w.strand t ≡ true)

-- no strand stands twice in a form and around it
abbrev OwnDiffer : ℕ → Term → Type 0
OwnDiffer k t = (x : ℕ) → once (nat_eq x k) + times x (strands_of t) ≤ 1

-- where a move compensates it takes the handler away
abbrev Spends : Seen → ℕ → Term → Move Term → Type 0
Spends s k t m =
    m.made.event.kind ≡ kind.Compensate → OwnDiffer k t → (d : ℕ) (v : Option ScopeId)
    → Spent (acting s.strand k d v t) v m.made.event.place m.made.table (λ w. scope_at w k d m.form) (IsInner k d t)

-- the same of members
abbrev SpendsAll : Seen → Strands → Move Strands → Type 0
SpendsAll s ts m =
    m.made.event.kind ≡ kind.Compensate → AllDiffer ts → (v : Option ScopeId)
    → Spent (acting_among s.strand v ts) v m.made.event.place m.made.table (λ w. scope_among w m.form)
    (λ w. is_among w.strand ts ≡ true)

-- a message that came
comes-in : (s : Seen) (m : Coming) (p : Proc) (e : Effect) → (goes_on s m p e).made.event.kind ≡ kind.In
comes-in s m p (faults f) = refl
comes-in s m p (stores x) = refl

-- a message that comes to branches
in-comes : (s : Seen) (m : Coming) (bs : Branches) → OnValue (λ x. x.made.event.kind ≡ kind.In) (comes s m bs)
in-comes s m no_branches = tt
in-comes s m (one_way o x p bs) =
    OnValue-if (nat_eq o m.op) (λ z. z.made.event.kind ≡ kind.In) (Some (goes_on s m p (received s.store x m.value)))
    (comes s (past m) bs) (comes-in s m p (received s.store x m.value)) (in-comes s (past m) bs)
in-comes s m (request o x y body p bs) =
    OnValue-if (nat_eq o m.op) (λ z. z.made.event.kind ≡ kind.In)
    (Some (within (asked m y p) (goes_on s m body (received s.store x m.value)))) (comes s (past m) bs)
    (comes-in s m body (received s.store x m.value)) (in-comes s (past m) bs)

-- a scope is itself
same-self : (k d : ℕ) → is_same (scope_id k d) (scope_id k d) ≡ true
same-self k d = and_from (nat_eq k k) (nat_eq d d) (eq-eqb k k refl) (eq-eqb d d refl)

-- a scope in a body is not the scope around it
not_around : (k d : ℕ) (t : Term) (w : ScopeId) → OwnDiffer k t → IsInner k (suc d) t w
    → is_same w (scope_id k d) ≡ true → ⊥
not_around k d t w df (inl i) e =
    let same : w.depth ≡ d = ap (λ z. z.depth) (same-scope w k d e) in absurd (omega (arith, i.1))
not_around k d t w df (inr i) e =
    let same : w.strand ≡ k = ap (λ z. z.strand) (same-scope w k d e) in
    absurd (omega (arith, df w.strand, once-same w.strand k same, counts-within w.strand t i))

-- a scope in a body is in the scope around it
wider : (k d : ℕ) (t : Term) (w : ScopeId) → IsInner k (suc d) t w → IsInner k d t w
wider k d t w (inl i) = inl (i.0, omega (arith, i.1))
wider k d t w (inr i) = inr i

-- a scope of a member is one of that strand, or in it
inner-stands : (k : ℕ) (t : Term) (w : ScopeId) → IsInner k 0 t w → stands_in w.strand k t ≡ true
inner-stands k t w (inl i) = or_left (nat_eq w.strand k) (is_within w.strand t) (eq-eqb w.strand k i.0)
inner-stands k t w (inr i) = or_right (nat_eq w.strand k) (is_within w.strand t) i

-- around a body
spent-body : (k d q r : ℕ) (t t' : Term) (h h' : Table) (u : State) (v : Option ScopeId) (a a' : Option Acting)
    → OwnDiffer k t
    → a ≡ a' → Spent a' (Some (scope_id k d)) r h' (λ w. scope_at w k (suc d) t') (IsInner k (suc d) t)
    → Spent a v r h (λ w. scope_at w k d (in_scope q t' h' u)) (IsInner k d t)
spent-body k d q r t t' h h' u v a a' df e (here i none) =
    in_it (scope_id k d) (e ∙ i) (inl (refl, le_refl d))
    (λ p has. none_some p (sym none
    ∙ (ap (handler_at r) (sym (found-same (scope_id k d) k d q t' h' (same-self k d) u)) ∙ has)))
spent-body k d q r t t' h h' u v a a' df e (in_it w i inner none) =
    in_it w (e ∙ i) (wider k d t w inner)
    (λ p has. ⊎_elim (λ own. not_around k d t w df inner own.0) (λ deeper. none p deeper.1)
    (has-in_scope w r p k d q t' h' u has))

-- around members
spent-members : (k d r : ℕ) (ts ts' : Strands) (h : Table) (v : Option ScopeId) (a : Option Acting)
    → Spent a v r h (λ w. scope_among w ts') (λ w. is_among w.strand ts ≡ true)
    → Spent a v r h (λ w. scope_among w ts')
    (λ w. ((w.strand ≡ k) × (d ≤ w.depth)) ⊎ (is_among w.strand ts ≡ true))
spent-members k d r ts ts' h v a (here i none) = here i none
spent-members k d r ts ts' h v a (in_it w i inner none) = in_it w i (inr inner) none

-- in the first member
spent-first : (k r : ℕ) (t t' : Term) (ts : Strands) (h : Table) (v : Option ScopeId) (a a' : Option Acting)
    → AllDiffer (strand k t ts)
    → a ≡ a' → Spent a' v r h (λ w. scope_at w k 0 t') (IsInner k 0 t)
    → Spent a v r h (λ w. scope_among w (strand k t' ts)) (λ w. is_among w.strand (strand k t ts) ≡ true)
spent-first k r t t' ts h v a a' df e (here i none) = here (e ∙ i) none
spent-first k r t t' ts h v a a' df e (in_it w i inner none) =
    let stands = inner-stands k t w inner in
    in_it w (e ∙ i) (or_left (stands_in w.strand k t) (is_among w.strand ts) stands)
    (λ p has. ⊎_elim (λ now. none p now.1)
    (λ now. apart w.strand k t ts df stands (finds_among w ts (has-found r p (scope_among w ts) now.1)))
    (has-among w r p k t' ts has))

-- in the others
spent-rest : (k r : ℕ) (t : Term) (ts ts' : Strands) (h : Table) (v : Option ScopeId) (a a' : Option Acting)
    → AllDiffer (strand k t ts)
    → a ≡ a' → Spent a' v r h (λ w. scope_among w ts') (λ w. is_among w.strand ts ≡ true)
    → Spent a v r h (λ w. scope_among w (strand k t ts')) (λ w. is_among w.strand (strand k t ts) ≡ true)
spent-rest k r t ts ts' h v a a' df e (here i none) = here (e ∙ i) none
spent-rest k r t ts ts' h v a a' df e (in_it w i inner none) =
    in_it w (e ∙ i) (or_right (stands_in w.strand k t) (is_among w.strand ts) inner)
    (λ p has. ⊎_elim (λ now. apart w.strand k t ts df now.0 inner) (λ now. none p now.1) (has-among w r p k t ts' has))

-- every move
spends-keeps : Keeps Spends SpendsAll
spends-keeps = record {
  store = λ s k p x w a e. absurd (other kind.Local refl e);
  first = λ s k x p q a e. absurd (other kind.Local refl e);
  second = λ s k x p q a e. absurd (other kind.Local refl e);
  turn = λ s k x p a e. absurd (other kind.Local refl e);
  leave = λ s k x p a e. absurd (other kind.Local refl e);
  installed = λ s k list a e. absurd (other kind.Install refl e);
  compensated = λ s k r a e df d v.
      here (acts-own (nat_eq s.strand k) (acting_in v no_handlers) a.own) (entry-without_same r s.table.scopes);
  came = λ s k bs m o v own e.
      OnValue-imp (λ x. x.made.event.kind ≡ kind.In) (Spends s k (place (choice bs))) (comes s (coming m o v bs) bs)
      (λ x h i. absurd (other kind.In refl (sym h ∙ i))) (in-comes s (coming m o v bs) bs);
  notified = λ s k port op x v a eq e. absurd (other kind.Notify refl e);
  solicited = λ s k port op x y list v a eq e. absurd (other kind.Solicit refl e);
  bound = λ s k v x r own eq e. absurd (other kind.Bind refl e);
  unbound = λ s k v x r own eq e. absurd (other kind.Bind refl e);
  answer_faults = λ s k n port op x list f own e. absurd (other kind.Answer refl e);
  answer_overflows = λ s k n port op x list f own fit e. absurd (other kind.Answer refl e);
  answer_sets = λ s k n port op x list y own fit e. absurd (other kind.Answer refl e);
  dead_installs = λ s k n port op list own fit e. absurd (other kind.Answer refl e);
  dead_ends = λ s k n port op list own e. absurd (other kind.Answer refl e);
  ended = λ s k q h a e. absurd (other kind.EndScope refl e);
  handled = λ s k q h f a e. absurd (other kind.Handle refl e);
  terminated = λ s k q h a e. absurd (other kind.Handle refl e);
  replied = λ s k m o y a e. absurd (other kind.Reply refl e);
  told = λ s k m f t a e. absurd (other kind.Reply refl e);
  in_head = λ s k t rest m h. h;
  in_members = λ s k ts m h e df d v.
      spent-members k d m.made.event.place ts m.form m.made.table v (acting_among s.strand v ts)
      (h e (λ x. omega (arith, df x)) v);
  in_body = λ s k q t h u m nd ih e df d v.
      spent-body k d q m.made.event.place t m.form s.table m.made.table u v (acting s.strand k d v (in_scope q t h u))
      (acting s.strand k (suc d) (Some (scope_id k d)) t) df (acting-body s.strand k d v q t h u nd)
      (ih e df (suc d) (Some (scope_id k d)));
  in_request = λ s k n o y t m d h. h;
  in_prot = λ s k t m h. h;
  in_member = λ s k t ts m own h e df v.
      spent-first k m.made.event.place t m.form ts m.made.table v (acting_among s.strand v (strand k t ts))
      (acting s.strand k 0 v t) df
      (acting-first s.strand k v t ts own) (h e (λ x. omega (arith, times-strand x k t ts, df x)) 0 v);
  in_others = λ s k t ts m own h e df v.
      spent-rest k m.made.event.place t ts m.form m.made.table v (acting_among s.strand v (strand k t ts))
      (acting_among s.strand v ts) df
      (acting-rest s.strand k v t ts own) (h e (differ-rest k t ts df) v);
}

-- ---- an event

-- where an event compensates the scope has no such handler
abbrev SpentAfter : Config → ℕ → Done → Type 0
SpentAfter c n d =
    d.event.kind ≡ kind.Compensate → (w : ScopeId) → acting n 0 0 None c.form ≡ acting_in (Some w) no_handlers
    → (p : Proc) → Has d.event.place p (scope_at w 0 0 d.config.form) → ⊥

-- where a fault came to
spent-raised : (c : Config) (n m f : ℕ) (x : Carried Term) → OnValue (SpentAfter c m) (raised c n f x)
spent-raised c n m f (up t) = λ e. absurd (other kind.Raise refl e)
spent-raised c n m f (caught_at t q) = λ e. absurd (other kind.Raise refl e)
spent-raised c n m f (ended_at t q) = λ e. absurd (other kind.Raise refl e)
spent-raised c n m f (blocked k) = tt
spent-raised c n m f absent = tt

-- the last event
spent-finishes : (c : Config) (n m : ℕ) (g : Given) → OnValue (SpentAfter c m) (finishes c n g)
spent-finishes c zero m given.Nothing = λ e. absurd (other kind.Finish refl e)
spent-finishes c n m g = tt

-- the form that acts stands in a scope
abbrev is_inside : Option Acting → Bool
is_inside None = false
is_inside (Some a) = is_some a.inside

-- that scope, or another where there is none
abbrev scope_or : ScopeId → Option Acting → ScopeId
scope_or w None = w
scope_or w (Some a) = unwrap_or a.inside w

-- the scope that a form acts in is one
spent-none : (r : ℕ) (t : Term) (h : Table) (a : Option Acting) (inner : ScopeId → Type 0)
    → Spent a None r h (λ w. scope_at w 0 0 t) inner → (w : ScopeId) → a ≡ acting_in (Some w) no_handlers
    → (p : Proc) → Has r p (scope_at w 0 0 t) → ⊥
spent-none r t h a inner (here i none) w e p has = false≢true (ap is_inside (sym i ∙ e))
spent-none r t h a inner (in_it z i j none) w e p has =
    none p (subst (λ y. Has r p (scope_at y 0 0 t)) (sym (ap (scope_or w) (sym i ∙ e))) has)

-- a move and its normal form
spent-moved : (c : Config) (s : Seen) (m : Move Term) → StrandsDiffer c
    → Spends s 0 c.form m × ((x : ℕ) → times x (strands_of m.form) + below c.next x ≤ times x (strands_of c.form)
    + below m.made.next x)
    → SpentAfter c s.strand (moved c m)
spent-moved c s m sound both e w acts p has =
    let df : OwnDiffer 0 c.form = λ x.
    omega (
      arith,
      times-cons x 0 (strands_of c.form),
      sound-times c.next (0 ∷ strands_of c.form) sound x,
      below-le x c.next,
    ) in
    spent-none m.made.event.place m.form m.made.table (acting s.strand 0 0 None c.form) (IsInner 0 0 c.form)
    (both.0 e df 0 None) w acts p (had-normal m.form m.made.next (differ-moved c m sound both.1) w m.made.event.place p
    0 0 has)

-- where an event compensates the scope has no such handler
spent-after : (parts : ProgramParts) (service : ℕ) (c : Config) (n : ℕ) (g : Given) (d : Done) → StrandsDiffer c
    → after parts service c n g ≡ Some d → SpentAfter c n d
spent-after parts service c n g d sound =
    let s = seen_by parts service c n g in
    let draws : Move Term → Type 0 = λ m. (x : ℕ) → MoveDraws x s 0 c.form m in
    of_event (SpentAfter c n) parts service c n g (λ ended finished. spent-finishes c n n g)
    (λ f going e there. spent-raised c n n f.name (throw n f 0 c.form))
    (λ going none. OnValue-imp (λ m. Spends s 0 c.form m × draws m) (λ m. SpentAfter c n (moved c m)) (moves s 0 c.form)
    (λ m h. spent-moved c s m sound h)
    (OnValue-both (Spends s 0 c.form) draws (moves s 0 c.form) (keeps-moves Spends SpendsAll spends-keeps s 0 c.form)
    (OnValue-every (λ x m. MoveDraws x s 0 c.form m) (moves s 0 c.form)
    (λ x. keeps-moves (MoveDraws x) (MoveDrawsAll x) (draws-keeps x) s 0 c.form)))) d

-- an entry that can't be there is not
no_entry : (o : Option Proc) → ((p : Proc) → o ≡ Some p → ⊥) → o ≡ None
no_entry None h = refl
no_entry (Some p) h = absurd (h p refl)

-- Compensate takes the handler away
pub compensates_once : CompensatesOnce
compensates_once parts service c n g d w x sound e k acts found =
    no_entry (entry d.event.place x.table.scopes)
    (λ p there. spent-after parts service c n g d sound e k w acts p (ap (handler_at d.event.place) found ∙ there))
