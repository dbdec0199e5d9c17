-- Where a fault is raised no strand was ready at any scope that it reached.
use Rattle.std.proofs.Common.{◌≡◌, ℕ, zero, Bool, true, false, List, [], ◌∷◌, ◌++◌, Option, None, Some, is_some, if◌then◌else◌, nat_eq, refl, sym, ap, ◌∙◌, subst}
use Rattle.std.proofs.lemmas.Bool.{false≢true}
use Rattle.behaviour_tree.specs.declared.words.Kind.TheVariants as kind
use Rattle.behaviour_tree.specs.declared.words.Given.{Given}
use Rattle.behaviour_tree.specs.declared.words.Given.TheVariants as given
use Rattle.behaviour_tree.specs.Data.{Proc}
use Rattle.session_calculus.specs.Tables.{Table, entry}
use Rattle.session_calculus.specs.Terms.{Fault, Term, Strands, done, place, thrown, seq, par, in_scope, exec, fail, prot, no_strands, strand, State, live, last, stands_in}
use Rattle.session_calculus.specs.Kill.{kill, kill_members}
use Rattle.session_calculus.specs.Ready.{ready}
use Rattle.session_calculus.specs.Throw.{Carried, up, caught_at, ended_at, blocked, absent, surrounded, at_live, at_scope, reaches, throw, throw_among}
use Rattle.session_calculus.specs.Moves.{Move}
use Rattle.session_calculus.specs.After.{Config, Done, moves, raised, moved, finishes, seen_by, after}
use Rattle.session_calculus.specs.Reached.{Passed, scopes_around, scopes_around_among, keeps, reached, AreUnready, RaisesUnblocked}
use Rattle.session_calculus.proofs.Options.{OnValue, OnValue-imp, OnValue-some}
use Rattle.session_calculus.proofs.Steps.{is_raise, Steps, step-moves}
use Rattle.session_calculus.proofs.Endings.{after-split, acts-split}

-- two lists of scopes in which no strand is ready
unready-append : (ps qs : List Passed) → AreUnready ps → AreUnready qs → AreUnready (ps ++ qs)
unready-append [] qs h k = k
unready-append (p ∷ ps) qs h k = (h.0, unready-append ps qs h.1 k)

-- lists that are put together the other way
append-assoc : (ps qs rs : List Passed) → (ps ++ qs) ++ rs ≡ ps ++ (qs ++ rs)
append-assoc [] qs rs = refl
append-assoc (p ∷ ps) qs rs = ap (λ xs. p ∷ xs) (append-assoc ps qs rs)

-- nothing behind a list
append-nil : (ps : List Passed) → ps ++ [] ≡ ps
append-nil [] = refl
append-nil (p ∷ ps) = ap (λ xs. p ∷ xs) (append-nil ps)

-- a fault passes all of some scopes, and reaches what stands around them
abbrev Passes : ℕ → List Passed → Type 0
Passes f ps = (qs : List Passed) → reached f (ps ++ qs) ≡ ps ++ reached f qs

-- a fault stops at one of some scopes, and reaches nothing around them
abbrev Stops : ℕ → List Passed → Type 0
Stops f ps = (qs : List Passed) → reached f (ps ++ qs) ≡ reached f ps

-- a fault that came through some scopes, or to one of them
abbrev pub Came : {A : Type 0} → ℕ → List Passed → Carried A → Type 0
Came f ps (up t) = AreUnready ps × Passes f ps
Came f ps (caught_at t q) = AreUnready (reached f ps) × Stops f ps
Came f ps (ended_at t q) = AreUnready (reached f ps) × Stops f ps
Came f ps (blocked n) = Unit {0}
Came f ps absent = Unit {0}

-- within what stands around
came-surrounded : {A B : Type 0} (f : ℕ) (ps : List Passed) (g h : A → B) (c : Carried A) → Came f ps c → Came f ps (surrounded g h c)
came-surrounded f ps g h (up t) k = k
came-surrounded f ps g h (caught_at t q) k = k
came-surrounded f ps g h (ended_at t q) k = k
came-surrounded f ps g h (blocked n) k = tt
came-surrounded f ps g h absent k = tt

-- a scope
abbrev passed : ℕ → Table → State → ℕ → Term → Passed
passed q h u s t = record { name = q; table = h; state = u; strand = s; body = t }

-- a scope that lets a fault go on
passes-one : (f : ℕ) (ps : List Passed) (p : Passed) → Passes f ps → keeps f p ≡ false → Passes f (ps ++ p ∷ [])
passes-one f ps p k e qs =
    ap (reached f) (append-assoc ps (p ∷ []) qs) ∙ k (p ∷ qs)
    ∙ ap (λ b. ps ++ (p ∷ elim b [ true ↦ [] | false ↦ reached f qs ])) e ∙ sym (append-assoc ps (p ∷ []) (reached f qs))

-- a scope that keeps a fault
stops-one : (f : ℕ) (ps : List Passed) (p : Passed) → Passes f ps → keeps f p ≡ true → Stops f (ps ++ p ∷ [])
stops-one f ps p k e qs =
    ap (reached f) (append-assoc ps (p ∷ []) qs) ∙ k (p ∷ qs)
    ∙ ap (λ b. ps ++ (p ∷ elim b [ true ↦ [] | false ↦ reached f qs ])) e
    ∙ sym (k (p ∷ []) ∙ ap (λ b. ps ++ (p ∷ elim b [ true ↦ [] | false ↦ reached f [] ])) e)

-- what a fault reaches where the last scope keeps it
reached-one : (f : ℕ) (ps : List Passed) (p : Passed) → Passes f ps → keeps f p ≡ true → reached f (ps ++ p ∷ []) ≡ ps ++ p ∷ []
reached-one f ps p k e = k (p ∷ []) ∙ ap (λ b. ps ++ (p ∷ elim b [ true ↦ [] | false ↦ [] ])) e

-- around scopes at which a fault stopped
came-stopped : (f : ℕ) (ps qs : List Passed) → AreUnready (reached f ps) × Stops f ps
    → AreUnready (reached f (ps ++ qs)) × Stops f (ps ++ qs)
came-stopped f ps qs h = (
  subst AreUnready (sym (h.1 qs)) h.0,
  λ rs. ap (reached f) (append-assoc ps qs rs) ∙ h.1 (qs ++ rs) ∙ sym (h.1 qs),
)

-- a fault that was kept at a further scope
came-kept : (f : ℕ) (ps : List Passed) (p : Passed) → AreUnready ps → Passes f ps → ready p.name p.table p.strand p.body ≡ []
    → keeps f p ≡ true → AreUnready (reached f (ps ++ p ∷ [])) × Stops f (ps ++ p ∷ [])
came-kept f ps p h k r e =
    (subst AreUnready (sym (reached-one f ps p k e)) (unready-append ps (p ∷ []) h (r, tt)), stops-one f ps p k e)

-- at a live scope
came-at_live : (f : Fault) (ps : List Passed) (q : ℕ) (h : Table) (s : ℕ) (t t' : Term) (o : Option Proc) → entry f.name h.faults ≡ o
    → AreUnready ps → Passes f.name ps → ready q h s t ≡ [] → Came f.name (ps ++ passed q h live s t ∷ []) (at_live o q h f t')
came-at_live f ps q h s t t' None e a k r =
    (unready-append ps (passed q h live s t ∷ []) a (r, tt), passes-one f.name ps (passed q h live s t) k (ap is_some e))
came-at_live f ps q h s t t' (Some p) e a k r = came-kept f.name ps (passed q h live s t) a k r (ap is_some e)

-- at any scope
came-at_scope : (f : Fault) (ps : List Passed) (q : ℕ) (h : Table) (u : State) (s : ℕ) (t t' : Term)
    → AreUnready ps → Passes f.name ps → ready q h s t ≡ [] → Came f.name (ps ++ passed q h u s t ∷ []) (at_scope q h u f t')
came-at_scope f ps q h live s t t' a k r = came-at_live f ps q h s t t' (entry f.name h.faults) refl a k r
came-at_scope f ps q h last s t t' a k r = came-kept f.name ps (passed q h last s t) a k r refl
came-at_scope f ps q h u s t t' a k r = tt

-- where strands may be ready
came-reaches : (f : Fault) (ps : List Passed) (q : ℕ) (h : Table) (u : State) (s : ℕ) (t : Term) (rs : List ℕ) (c : Carried Term)
    → ready q h s t ≡ rs → Came f.name ps c
    → Came f.name (ps ++ passed q h u s t ∷ []) (reaches rs (at_scope q h u f) (λ t'. in_scope q t' h u) c)
came-reaches f ps q h u s t [] (up t') r k = came-at_scope f ps q h u s t t' k.0 k.1 r
came-reaches f ps q h u s t (x ∷ xs) (up t') r k = tt
came-reaches f ps q h u s t [] (caught_at t' p) r k = came-stopped f.name ps (passed q h u s t ∷ []) k
came-reaches f ps q h u s t (x ∷ xs) (caught_at t' p) r k = came-stopped f.name ps (passed q h u s t ∷ []) k
came-reaches f ps q h u s t [] (ended_at t' p) r k = came-stopped f.name ps (passed q h u s t ∷ []) k
came-reaches f ps q h u s t (x ∷ xs) (ended_at t' p) r k = came-stopped f.name ps (passed q h u s t ∷ []) k
came-reaches f ps q h u s t [] (blocked n) r k = tt
came-reaches f ps q h u s t (x ∷ xs) (blocked n) r k = tt
came-reaches f ps q h u s t [] absent r k = tt
came-reaches f ps q h u s t (x ∷ xs) absent r k = tt

-- a place, or none
came-place : (f : ℕ) (b : Bool) → Came f [] (if b then up done else absent)
came-place f true = (tt, λ qs. refl)
came-place f false = tt

-- the member that a strand stands in
came-member : (n : ℕ) (f : Fault) (s : ℕ) (t : Term) (ts : Strands) (b : Bool) → Came f.name (scopes_around n s t) (throw n f s t)
    → Came f.name (scopes_around_among n ts) (throw_among n f ts)
    → Came f.name (elim b [ true ↦ scopes_around n s t | false ↦ scopes_around_among n ts ])
    (elim b [
      | true ↦ surrounded (λ t'. strand s t' (kill_members f ts)) (λ t'. strand s t' ts) (throw n f s t)
      | false ↦ surrounded (strand s (kill f t)) (strand s t) (throw_among n f ts)
    ])
came-member n f s t ts true here there =
    came-surrounded f.name (scopes_around n s t) (λ t'. strand s t' (kill_members f ts)) (λ t'. strand s t' ts) (throw n f s t) here
came-member n f s t ts false here there =
    came-surrounded f.name (scopes_around_among n ts) (strand s (kill f t)) (strand s t) (throw_among n f ts) there

mutual
  -- a fault comes through the scopes around its place
  pub came-throw : (n : ℕ) (f : Fault) (s : ℕ) (t : Term) → Came f.name (scopes_around n s t) (throw n f s t)
  came-throw n f s (place p) = came-place f.name (nat_eq n s)
  came-throw n f s (thrown g) = came-place f.name (nat_eq n s)
  came-throw n f s (seq t rest) =
      came-surrounded f.name (scopes_around n s t) (λ t'. t') (λ t'. seq t' rest) (throw n f s t) (came-throw n f s t)
  came-throw n f s (par ts) =
      came-surrounded f.name (scopes_around_among n ts) par par (throw_among n f ts) (came-throw_among n f ts)
  came-throw n f s (in_scope q t h u) =
      came-reaches f (scopes_around n s t) q h u s t (ready q h s t) (throw n f s t) refl (came-throw n f s t)
  came-throw n f s (exec m o y t) =
      came-surrounded f.name (scopes_around n s t) (λ t'. prot (fail m f t')) (exec m o y) (throw n f s t) (came-throw n f s t)
  came-throw n f s (prot t) = came-surrounded f.name (scopes_around n s t) prot prot (throw n f s t) (came-throw n f s t)
  came-throw n f s t = tt

  -- the same in a member
  pub came-throw_among : (n : ℕ) (f : Fault) (ts : Strands) → Came f.name (scopes_around_among n ts) (throw_among n f ts)
  came-throw_among n f no_strands = tt
  came-throw_among n f (strand s t ts) =
      came-member n f s t ts (stands_in n s t) (came-throw n f s t) (came-throw_among n f ts)

-- ---- an event

-- what is claimed of a fault that strand n raised
abbrev Unblocked : Config → ℕ → Done → Type 0
Unblocked c n d = d.event.kind ≡ kind.Raise → AreUnready (reached d.event.fault (scopes_around n 0 c.form))

-- what a fault that went above all scopes reached
reached-all : (f : ℕ) (ps : List Passed) → Passes f ps → reached f ps ≡ ps
reached-all f ps k = ap (reached f) (sym (append-nil ps)) ∙ k [] ∙ append-nil ps

-- a fault that was carried
unblocked-raised : (c : Config) (n f : ℕ) (x : Carried Term) → Came f (scopes_around n 0 c.form) x → OnValue (Unblocked c n) (raised c n f x)
unblocked-raised c n f (up t) h = λ e. subst AreUnready (sym (reached-all f (scopes_around n 0 c.form) h.1)) h.0
unblocked-raised c n f (caught_at t q) h = λ e. h.0
unblocked-raised c n f (ended_at t q) h = λ e. h.0
unblocked-raised c n f (blocked m) h = tt
unblocked-raised c n f absent h = tt

-- the last event raises nothing
unblocked-finishes : (c : Config) (n : ℕ) (g : Given) → OnValue (Unblocked c n) (finishes c n g)
unblocked-finishes c zero given.Nothing = λ e. absurd (false≢true (ap is_raise e))
unblocked-finishes c n g = tt

-- a move raises nothing
unblocked-moved : (c : Config) (n : ℕ) (m : Move Term) → Steps n m → Unblocked c n (moved c m)
unblocked-moved c n m h = λ e. absurd (false≢true (sym h.1 ∙ ap is_raise e))

-- where a fault is raised, no strand was ready at any scope that it reached
pub raises_unblocked : RaisesUnblocked
raises_unblocked parts service c n g d e =
    let s = seen_by parts service c n g in
    OnValue-some (Unblocked c n) (after parts service c n g) d e
    (after-split (OnValue (Unblocked c n)) parts service c n g tt (λ ended finished. unblocked-finishes c n g)
    (λ ended. acts-split (Unblocked c n) c s
    (λ f given_nothing. unblocked-raised c n f.name (throw n f 0 c.form) (came-throw n f 0 c.form))
    (OnValue-imp (Steps n) (λ m. Unblocked c n (moved c m)) (moves s 0 c.form) (unblocked-moved c n) (step-moves s 0 c.form))))
