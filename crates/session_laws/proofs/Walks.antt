-- Where scopes stand: what begins has none with a handler, and normal form, kill and throw leave each where it stood.
use Rattle.std.proofs.Common.{◌≡◌, ◌⊎◌, inl, inr, ⊎_elim, ℕ, suc, ◌+◌, ◌≤◌, Bool, true, false, ◌||◌, Option, None, Some, is_some, option_and_then, if◌then◌else◌, nat_eq, refl, sym, ap, ◌∙◌, arith}
use Rattle.std.proofs.lemmas.Bool.{false≢true, and_parts, or_left, or_right, or_cases}
use Rattle.behaviour_tree.specs.Data.{Proc, Procs, no_procs, proc}
use Rattle.session_calculus.specs.Tables.{Table, entry}
use Rattle.session_calculus.specs.Terms.{Fault, Term, Strands, done, place, thrown, seq, par, in_scope, exec, fail, prot, no_strands, strand, State, live, caught, term, last, zombie, seq_of, all_done, par_of, prot_of, scope_of, is_within, is_among, stands_in}
use Rattle.session_calculus.specs.Start.{start, normal}
use Rattle.session_calculus.specs.Kill.{kill, kill_members}
use Rattle.session_calculus.specs.Ready.{ready}
use Rattle.session_calculus.specs.Throw.{up, surrounded, at_live, at_scope, throw, throw_among}
use Rattle.session_calculus.specs.Sound.{strands_of, strands_among}
use Rattle.session_calculus.specs.Compensations.{ScopeId, scope_id, Standing, is_same, scope_at, scope_among}
use Rattle.session_laws.proofs.Counting.{once, times, below-le}
use Rattle.session_laws.proofs.Carrying.{Carries, carries-if, carries-surrounded, carries-reaches}
use Rattle.session_laws.proofs.Settling.{Settles, settles-normal}
use Rattle.session_laws.proofs.Fresh.{IsFresh, AreFresh, fresh-start}
use Rattle.session_laws.proofs.Drawing.{times-strand, drawn-start}
use Rattle.session_laws.proofs.Entries.{none_some}

-- ---- a scope that was found

-- the handler under a scope name in a scope, where there is one
abbrev pub handler_at : ℕ → Option Standing → Option Proc
handler_at r o = option_and_then (λ x. entry r x.table.scopes) o

-- a scope was found and has a handler
abbrev pub Has : ℕ → Proc → Option Standing → Type 0
Has r p o = handler_at r o ≡ Some p

-- a scope that has one was found
pub has-found : (r : ℕ) (p : Proc) (o : Option Standing) → Has r p o → is_some o ≡ true
has-found r p None h = absurd (none_some p h)
has-found r p (Some x) h = refl

-- a scope by its name and handlers
abbrev pub standing : ℕ → Table → Standing
standing q h = record { name = q; table = h }

-- a scope is found at its place
pub found-same : (w : ScopeId) (s d q : ℕ) (t : Term) (h : Table) → is_same w (scope_id s d) ≡ true
    → ((u : State) → scope_at w s d (in_scope q t h u) ≡ Some (standing q h))
found-same w s d q t h e u = ap (λ b. if b then Some (standing q h) else scope_at w s (suc d) t) e

-- and another in it
pub found-other : (w : ScopeId) (s d q : ℕ) (t : Term) (h : Table) → is_same w (scope_id s d) ≡ false
    → ((u : State) → scope_at w s d (in_scope q t h u) ≡ scope_at w s (suc d) t)
found-other w s d q t h e u = ap (λ b. if b then Some (standing q h) else scope_at w s (suc d) t) e

-- what a scope has it has itself, or a scope in it
pub has-in_scope : (w : ScopeId) (r : ℕ) (p : Proc) (s d q : ℕ) (t : Term) (h : Table) (u : State)
    → Has r p (scope_at w s d (in_scope q t h u))
    → ((is_same w (scope_id s d) ≡ true) × (entry r h.scopes ≡ Some p))
    ⊎ ((is_same w (scope_id s d) ≡ false) × Has r p (scope_at w s (suc d) t))
has-in_scope w r p s d q t h u = go (is_same w (scope_id s d)) refl
  where
    go : (b : Bool) → is_same w (scope_id s d) ≡ b → Has r p (if b then Some (standing q h) else scope_at w s (suc d) t)
        → ((is_same w (scope_id s d) ≡ true) × (entry r h.scopes ≡ Some p))
        ⊎ ((is_same w (scope_id s d) ≡ false) × Has r p (scope_at w s (suc d) t))
    go true e k = inl (e, k)
    go false e k = inr (e, k)

-- the member that a strand stands in
pub found-first : (w : ScopeId) (k : ℕ) (t : Term) (ts : Strands) → stands_in w.strand k t ≡ true
    → scope_among w (strand k t ts) ≡ scope_at w k 0 t
found-first w k t ts e = ap (λ b. elim b [ true ↦ scope_at w k 0 t | false ↦ scope_among w ts ]) e

-- or the others
pub found-rest : (w : ScopeId) (k : ℕ) (t : Term) (ts : Strands) → stands_in w.strand k t ≡ false
    → scope_among w (strand k t ts) ≡ scope_among w ts
found-rest w k t ts e = ap (λ b. elim b [ true ↦ scope_at w k 0 t | false ↦ scope_among w ts ]) e

-- what members have the first has, or the others
pub has-among : (w : ScopeId) (r : ℕ) (p : Proc) (k : ℕ) (t : Term) (ts : Strands)
    → Has r p (scope_among w (strand k t ts))
    → ((stands_in w.strand k t ≡ true) × Has r p (scope_at w k 0 t)) ⊎
    ((stands_in w.strand k t ≡ false) × Has r p (scope_among w ts))
has-among w r p k t ts = go (stands_in w.strand k t) refl
  where
    go : (b : Bool) → stands_in w.strand k t ≡ b
        → Has r p (elim b [ true ↦ scope_at w k 0 t | false ↦ scope_among w ts ])
        → ((stands_in w.strand k t ≡ true) × Has r p (scope_at w k 0 t))
        ⊎ ((stands_in w.strand k t ≡ false) × Has r p (scope_among w ts))
    go true e h = inl (e, h)
    go false e h = inr (e, h)

-- a scope or what is in it stands in the strand
finds-scope : (w : ScopeId) (s d q : ℕ) (t : Term) (h : Table) (b : Bool) → is_same w (scope_id s d) ≡ b
    → (is_some (scope_at w s (suc d) t) ≡ true → stands_in w.strand s t ≡ true)
    → is_some (if b then Some (standing q h) else scope_at w s (suc d) t) ≡ true → stands_in w.strand s t ≡ true
finds-scope w s d q t h true same rest e =
    or_left (nat_eq w.strand s) (is_within w.strand t) (and_parts (nat_eq w.strand s) (nat_eq w.depth d) same).0
finds-scope w s d q t h false same rest e = rest e

-- whichever member it is
finds-member : (w : ScopeId) (k : ℕ) (t : Term) (ts : Strands) (b : Bool) → stands_in w.strand k t ≡ b
    → (is_some (scope_among w ts) ≡ true → is_among w.strand ts ≡ true)
    → is_some (elim b [ true ↦ scope_at w k 0 t | false ↦ scope_among w ts ]) ≡ true
    → is_among w.strand (strand k t ts) ≡ true
finds-member w k t ts true here rest e = or_left (stands_in w.strand k t) (is_among w.strand ts) here
finds-member w k t ts false here rest e = or_right (stands_in w.strand k t) (is_among w.strand ts) (rest e)

mutual
  -- where a scope is found its strand stands
  pub finds : (w : ScopeId) (s d : ℕ) (t : Term) → is_some (scope_at w s d t) ≡ true → stands_in w.strand s t ≡ true
  finds w s d (seq t rest) e = finds w s d t e
  finds w s d (par ts) e = or_right (nat_eq w.strand s) (is_among w.strand ts) (finds_among w ts e)
  finds w s d (in_scope q t h u) e = finds-scope w s d q t h (is_same w (scope_id s d)) refl (finds w s (suc d) t) e
  finds w s d (exec m o y t) e = finds w s d t e
  finds w s d (fail m f t) e = finds w s d t e
  finds w s d (prot t) e = finds w s d t e
  finds w s d t e = absurd (false≢true e)

  -- so it does among members
  pub finds_among : (w : ScopeId) (ts : Strands) → is_some (scope_among w ts) ≡ true → is_among w.strand ts ≡ true
  finds_among w no_strands e = absurd (false≢true e)
  finds_among w (strand k t ts) e = finds-member w k t ts (stands_in w.strand k t) refl (finds_among w ts) e

-- ---- strands that differ

-- no strand stands twice in a form
abbrev pub Differ : Term → Type 0
Differ t = (x : ℕ) → times x (strands_of t) ≤ 1

-- nor in members
abbrev pub AllDiffer : Strands → Type 0
AllDiffer ts = (x : ℕ) → times x (strands_among ts) ≤ 1

-- of a first member
pub differ-first : (k : ℕ) (t : Term) (ts : Strands) → AllDiffer (strand k t ts) → Differ t
differ-first k t ts h x = omega (arith, times-strand x k t ts, h x)

-- and of the others
pub differ-rest : (k : ℕ) (t : Term) (ts : Strands) → AllDiffer (strand k t ts) → AllDiffer ts
differ-rest k t ts h x = omega (arith, times-strand x k t ts, h x)

mutual
  -- a strand that stands in a form is one of its strands
  pub counts-within : (x : ℕ) (t : Term) → is_within x t ≡ true → 1 ≤ times x (strands_of t)
  counts-within x (seq t rest) e = counts-within x t e
  counts-within x (par ts) e = counts-among x ts e
  counts-within x (in_scope q t h u) e = counts-within x t e
  counts-within x (exec m o y t) e = counts-within x t e
  counts-within x (fail m f t) e = counts-within x t e
  counts-within x (prot t) e = counts-within x t e
  counts-within x t e = absurd (false≢true e)

  -- so it is among members
  pub counts-among : (x : ℕ) (ts : Strands) → is_among x ts ≡ true → 1 ≤ times x (strands_among ts)
  counts-among x no_strands e = absurd (false≢true e)
  counts-among x (strand k t ts) e =
      ⊎_elim
      (λ here. ⊎_elim (λ (own : nat_eq x k ≡ true). omega (arith, times-strand x k t ts, ap once own))
      (λ (inner : is_within x t ≡ true). omega (arith, times-strand x k t ts, counts-within x t inner))
      (or_cases (nat_eq x k) (is_within x t) here))
      (λ (there : is_among x ts ≡ true). omega (arith, times-strand x k t ts, counts-among x ts there))
      (or_cases (stands_in x k t) (is_among x ts) e)

-- a strand that stands in a member
pub counts-member : (x k : ℕ) (t : Term) → stands_in x k t ≡ true → 1 ≤ once (nat_eq x k) + times x (strands_of t)
counts-member x k t e =
    ⊎_elim (λ (own : nat_eq x k ≡ true). omega (arith, ap once own))
    (λ (inner : is_within x t ≡ true). omega (arith, counts-within x t inner)) (or_cases (nat_eq x k) (is_within x t) e)

-- a strand stands in one member alone
pub apart : (x k : ℕ) (t : Term) (ts : Strands) → AllDiffer (strand k t ts) → stands_in x k t ≡ true
    → is_among x ts ≡ true → ⊥
apart x k t ts h here there =
    absurd (omega (arith, times-strand x k t ts, counts-member x k t here, counts-among x ts there, h x))

-- ---- what begins

mutual
  -- no scope of it has a handler
  pub fresh-has : (w : ScopeId) (r : ℕ) (p : Proc) (s d : ℕ) (t : Term) → IsFresh t → Has r p (scope_at w s d t) → ⊥
  fresh-has w r p s d (seq t rest) f h = fresh-has w r p s d t f h
  fresh-has w r p s d (par ts) f h = fresh-has_among w r p ts f h
  fresh-has w r p s d (in_scope q t x live) f h =
      ⊎_elim (λ own. none_some p (sym (ap (λ y. entry r y.scopes) f.0) ∙ own.1))
      (λ inner. fresh-has w r p s (suc d) t f.1 inner.1)
      (has-in_scope w r p s d q t x live h)
  fresh-has w r p s d done f h = none_some p h
  fresh-has w r p s d (place x) f h = none_some p h
  fresh-has w r p s d t f h = absurd f

  -- nor of members
  pub fresh-has_among : (w : ScopeId) (r : ℕ) (p : Proc) (ts : Strands) → AreFresh ts → Has r p (scope_among w ts) → ⊥
  fresh-has_among w r p no_strands f h = none_some p h
  fresh-has_among w r p (strand k t ts) f h =
      ⊎_elim (λ here. fresh-has w r p k 0 t f.0 here.1) (λ there. fresh-has_among w r p ts f.1 there.1)
      (has-among w r p k t ts h)

-- what starts has strands that differ
pub differ-start : (p : Proc) (n : ℕ) → Differ (start p n).form
differ-start p n x = omega (arith, drawn-start x p n, below-le x (start p n).next)

-- ---- normal form

-- a scope that has a handler in normal form stood so before
abbrev pub StoodBefore : Term → Term → Type 0
StoodBefore t t' =
    Differ t → (w : ScopeId) (r : ℕ) (p : Proc) (x : Standing) (s d : ℕ) → entry r x.table.scopes ≡ Some p
    → scope_at w s d t' ≡ Some x → scope_at w s d t ≡ Some x

-- the same of members
abbrev AllStoodBefore : Strands → Strands → Type 0
AllStoodBefore ts ts' =
    AllDiffer ts → (w : ScopeId) (r : ℕ) (p : Proc) (x : Standing) → entry r x.table.scopes ≡ Some p
    → scope_among w ts' ≡ Some x → scope_among w ts ≡ Some x

-- no scope has a handler
abbrev HasNone : Term → Type 0
HasNone t = (w : ScopeId) (r : ℕ) (p : Proc) (s d : ℕ) → Has r p (scope_at w s d t) → ⊥

-- nothing is no scope
none_standing : (x : Standing) → ◌≡◌ {A = Option Standing} None (Some x) → ⊥
none_standing x e = false≢true (ap is_some e)

-- a scope that was found has its handlers
has-held : (r : ℕ) (p : Proc) (x : Standing) (o : Option Standing) → entry r x.table.scopes ≡ Some p → o ≡ Some x → Has r p o
has-held r p x o own e = ap (handler_at r) e ∙ own

-- an entry that a scope has, as it stands
pub has-standing : (r : ℕ) (p : Proc) (o : Option Standing) → Has r p o
    → (x : Standing) × (o ≡ Some x) × (entry r x.table.scopes ≡ Some p)
has-standing r p None h = absurd (none_some p h)
has-standing r p (Some x) h = (x, refl, h)

-- a head with its rests
found-seq_of : (w : ScopeId) (s d : ℕ) (t : Term) (ps : Procs) → scope_at w s d (seq_of t ps) ≡ scope_at w s d t
found-seq_of w s d t no_procs = refl
found-seq_of w s d t (proc p ps) = refl

-- what no fault ends any more
found-prot_of : (w : ScopeId) (s d : ℕ) (t : Term) → scope_at w s d (prot_of t) ≡ scope_at w s d t
found-prot_of w s d done = refl
found-prot_of w s d (prot t) = refl
found-prot_of w s d t = refl

-- a parallel, or nothing
stood-par_of : (w : ScopeId) (x : Standing) (s d : ℕ) (ts : Strands) → scope_at w s d (par_of ts) ≡ Some x
    → scope_among w ts ≡ Some x
stood-par_of w x s d ts = go (all_done ts)
  where
    go : (b : Bool) → scope_at w s d (elim b [ true ↦ done | false ↦ par ts ]) ≡ Some x → scope_among w ts ≡ Some x
    go true h = absurd (none_standing x h)
    go false h = h

-- a scope, or nothing
stood-scope_of : (w : ScopeId) (x : Standing) (s d q : ℕ) (t : Term) (h : Table) (u : State)
    → scope_at w s d (scope_of q t h u) ≡ Some x → scope_at w s d (in_scope q t h u) ≡ Some x
stood-scope_of w x s d q done h last k = absurd (none_standing x k)
stood-scope_of w x s d q done h zombie k = absurd (none_standing x k)
stood-scope_of w x s d q t h u k = k

-- a scope with another body, whose scopes stood before
stood-body : (x : Standing) (b : Bool) (y : Standing) (o o' : Option Standing) → (o' ≡ Some x → o ≡ Some x)
    → (if b then Some y else o') ≡ Some x → (if b then Some y else o) ≡ Some x
stood-body x true y o o' k h = h
stood-body x false y o o' k h = k h

-- a scope that stands among members stands in the first, or in the others
stood-among : (w : ScopeId) (x : Standing) (k : ℕ) (t : Term) (ts : Strands) → scope_among w (strand k t ts) ≡ Some x
    → ((stands_in w.strand k t ≡ true) × (scope_at w k 0 t ≡ Some x))
    ⊎ ((stands_in w.strand k t ≡ false) × (scope_among w ts ≡ Some x))
stood-among w x k t ts = go (stands_in w.strand k t) refl
  where
    go : (b : Bool) → stands_in w.strand k t ≡ b → elim b [ true ↦ scope_at w k 0 t | false ↦ scope_among w ts ] ≡ Some x
        → ((stands_in w.strand k t ≡ true) × (scope_at w k 0 t ≡ Some x))
        ⊎ ((stands_in w.strand k t ≡ false) × (scope_among w ts ≡ Some x))
    go true e h = inl (e, h)
    go false e h = inr (e, h)

-- a member and the others
stood-member : (k : ℕ) (t t' : Term) (ts ts' : Strands) → StoodBefore t t' → AllStoodBefore ts ts'
    → AllStoodBefore (strand k t ts) (strand k t' ts')
stood-member k t t' ts ts' here there df w r p x own h =
    ⊎_elim
    (λ now. let old = here (differ-first k t ts df) w r p x k 0 own now.1 in
    found-first w k t ts (finds w k 0 t (ap is_some old)) ∙ old)
    (λ now. let old = there (differ-rest k t ts df) w r p x own now.1 in
    found-rest w k t ts (not_here old) ∙ old)
    (stood-among w x k t' ts' h)
  where
    not_here : scope_among w ts ≡ Some x → stands_in w.strand k t ≡ false
    not_here old = go (stands_in w.strand k t) refl
      where
        go : (b : Bool) → stands_in w.strand k t ≡ b → b ≡ false
        go true e = absurd (apart w.strand k t ts df e (finds_among w ts (ap is_some old)))
        go false e = refl

-- normal form gives no scope a handler
stood-settles : Settles (λ t n b. StoodBefore t b.form) (λ ts n b. AllStoodBefore ts b.form) (λ ps n b. HasNone b.form)
stood-settles = record {
  leaf = λ t n l df w r p x s d own h. h;
  goes = λ t ps n m b h k df w r p x s d own e. absurd (k w r p s d (has-held r p x (scope_at w s d b.form) own e));
  stays = λ t t' ps n m nd h df w r p x s d own e. h df w r p x s d own (sym (found-seq_of w s d t' ps) ∙ e);
  members = λ ts n b h df w r p x s d own e. h df w r p x own (stood-par_of w x s d b.form e);
  body = λ q t h u n b k df w r p x s d own e.
      stood-body x (is_same w (scope_id s d)) (standing q h) (scope_at w s (suc d) t) (scope_at w s (suc d) b.form)
      (k df w r p x s (suc d) own)
      (stood-scope_of w x s d q b.form h u e);
  asked = λ m o y t n b h. h;
  failed = λ m f t n b h. h;
  kept = λ t n b h df w r p x s d own e. h df w r p x s d own (sym (found-prot_of w s d b.form) ∙ e);
  no_member = λ n df w r p x own e. e;
  member = λ k t ts n b c h hs. stood-member k t b.form ts c.form h hs;
  no_rest = λ n w r p s d e. none_some p e;
  rest_goes = λ p ps n m b h k. k;
  rest_stays = λ p ps n m t nd h w r x s d e.
      let y = has-standing r x (scope_at w s d t) (ap (handler_at r) (sym (found-seq_of w s d t ps)) ∙ e) in
      fresh-has w r x s d (start p n).form (fresh-start p n)
      (has-held r x y.0 (scope_at w s d (start p n).form) y.2 (h (differ-start p n) w r x y.0 s d y.2 y.1));
}

-- a scope that has a handler in normal form stood so before
pub stood-normal : (t : Term) (n : ℕ) → StoodBefore t (normal t n).form
stood-normal t n =
    settles-normal (λ t n b. StoodBefore t b.form) (λ ts n b. AllStoodBefore ts b.form) (λ ps n b. HasNone b.form)
    stood-settles t n

-- so what it has it had before
pub had-normal : (t : Term) (n : ℕ) → Differ t → (w : ScopeId) (r : ℕ) (p : Proc) (s d : ℕ)
    → Has r p (scope_at w s d (normal t n).form) → Has r p (scope_at w s d t)
had-normal t n df w r p s d h =
    let y = has-standing r p (scope_at w s d (normal t n).form) h in
    has-held r p y.0 (scope_at w s d t) y.2 (stood-normal t n df w r p y.0 s d y.2 y.1)

-- ---- kill and throw

-- every walk comes to the same scope
pub record Alike (t t' : Term) : Type 0 where
  pub found : (w : ScopeId) (s d : ℕ) → scope_at w s d t' ≡ scope_at w s d t
  pub inner : (x : ℕ) → is_within x t' ≡ is_within x t

-- the same of members
pub record AllAlike (ts ts' : Strands) : Type 0 where
  pub found : (w : ScopeId) → scope_among w ts' ≡ scope_among w ts
  pub inner : (x : ℕ) → is_among x ts' ≡ is_among x ts

-- a form itself
alike-same : (t : Term) → Alike t t
alike-same t = record { found = λ w s d. refl; inner = λ x. refl }

-- members themselves
alike-all : (ts : Strands) → AllAlike ts ts
alike-all ts = record { found = λ w. refl; inner = λ x. refl }

-- one of two
chosen-alike : (b b' : Bool) (x x' y y' : Option Standing) → b' ≡ b → x' ≡ x → y' ≡ y
    → ◌≡◌ {A = Option Standing} (elim b' [ true ↦ x' | false ↦ y' ]) (elim b [ true ↦ x | false ↦ y ])
chosen-alike b b' x x' y y' e f g = ap (λ c. elim c [ true ↦ x' | false ↦ y' ]) e ∙ go b
  where
    go : (c : Bool) → ◌≡◌ {A = Option Standing} (elim c [ true ↦ x' | false ↦ y' ]) (elim c [ true ↦ x | false ↦ y ])
    go true = f
    go false = g

-- a member and the others
alike-member : (k : ℕ) (t t' : Term) (ts ts' : Strands) → Alike t t' → AllAlike ts ts'
    → AllAlike (strand k t ts) (strand k t' ts')
alike-member k t t' ts ts' a b = record {
  found = λ w.
      chosen-alike (stands_in w.strand k t) (stands_in w.strand k t') (scope_at w k 0 t) (scope_at w k 0 t')
      (scope_among w ts)
      (scope_among w ts') (ap (λ c. nat_eq w.strand k || c) (a.inner w.strand)) (a.found w k 0) (b.found w);
  inner = λ x.
      ap (λ c. nat_eq x k || c || is_among x ts') (a.inner x) ∙ ap (λ c. nat_eq x k || is_within x t || c) (b.inner x);
}

-- a scope with another body
alike-scope : (q : ℕ) (t t' : Term) (h : Table) (u u' : State) → Alike t t'
    → Alike (in_scope q t h u) (in_scope q t' h u')
alike-scope q t t' h u u' a = record {
  found = λ w s d. ap (λ o. if is_same w (scope_id s d) then Some (standing q h) else o) (a.found w s (suc d));
  inner = a.inner;
}

mutual
  -- a kill moves no scope
  alike-kill : (f : Fault) (t : Term) → Alike t (kill f t)
  alike-kill f (seq t rest) = let a = alike-kill f t in record { found = a.found; inner = a.inner }
  alike-kill f (par ts) = let a = alike-kill_members f ts in record { found = λ w s d. a.found w; inner = a.inner }
  alike-kill f (in_scope q done h live) = record { found = λ w s d. refl; inner = λ x. refl }
  alike-kill f (in_scope q t h live) =
      let a = alike-scope q t (kill f t) h live term (alike-kill f t) in record { found = a.found; inner = a.inner }
  alike-kill f (in_scope q t h (caught g)) =
      let a = alike-scope q t (kill f t) h (caught g) term (alike-kill f t) in
      record { found = a.found; inner = a.inner }
  alike-kill f (exec m o y t) = let a = alike-kill f t in record { found = a.found; inner = a.inner }
  alike-kill f t = record { found = λ w s d. refl; inner = λ x. refl }

  -- nor of members
  alike-kill_members : (f : Fault) (ts : Strands) → AllAlike ts (kill_members f ts)
  alike-kill_members f no_strands = alike-all no_strands
  alike-kill_members f (strand n t ts) =
      alike-member n t (kill f t) ts (kill_members f ts) (alike-kill f t) (alike-kill_members f ts)

-- at a live scope
alike-at_live : (o : Option Proc) (q : ℕ) (h : Table) (f : Fault) (t t' : Term) → Alike t t'
    → Carries (Alike (in_scope q t h live)) (Alike (in_scope q t h live)) (at_live o q h f t')
alike-at_live None q h f t t' a =
    let b = alike-scope q t t' h live zombie a in record { found = b.found; inner = b.inner }
alike-at_live (Some p) q h f t t' a = alike-scope q t t' h live (caught f) a

-- at any scope
alike-at_scope : (q : ℕ) (h : Table) (u : State) (f : Fault) (t t' : Term) → Alike t t'
    → Carries (Alike (in_scope q t h u)) (Alike (in_scope q t h u)) (at_scope q h u f t')
alike-at_scope q h live f t t' a = alike-at_live (entry f.name h.faults) q h f t t' a
alike-at_scope q h last f t t' a = alike-scope q t t' h last zombie a
alike-at_scope q h u f t t' a = tt

-- whichever member it is
alike-carried : (n : ℕ) (f : Fault) (k : ℕ) (t : Term) (ts : Strands) (b : Bool)
    → Carries (Alike t) (Alike t) (throw n f k t)
    → Carries (AllAlike ts) (AllAlike ts) (throw_among n f ts)
    → Carries (AllAlike (strand k t ts)) (AllAlike (strand k t ts))
    (elim b [
      | true ↦ surrounded (λ t'. strand k t' (kill_members f ts)) (λ t'. strand k t' ts) (throw n f k t)
      | false ↦ surrounded (strand k (kill f t)) (strand k t) (throw_among n f ts)
    ])
alike-carried n f k t ts true here there =
    let now = AllAlike (strand k t ts) in
    carries-surrounded (Alike t) (Alike t) now now (λ t'. strand k t' (kill_members f ts)) (λ t'. strand k t' ts)
    (throw n f k t)
    (λ t' a. alike-member k t t' ts (kill_members f ts) a (alike-kill_members f ts))
    (λ t' a. alike-member k t t' ts ts a (alike-all ts)) here
alike-carried n f k t ts false here there =
    let now = AllAlike (strand k t ts) in
    carries-surrounded (AllAlike ts) (AllAlike ts) now now (strand k (kill f t)) (strand k t) (throw_among n f ts)
    (λ ts' a. alike-member k t (kill f t) ts ts' (alike-kill f t) a)
    (λ ts' a. alike-member k t t ts ts' (alike-same t) a) there

mutual
  -- nor does a throw
  pub alike-throw : (n : ℕ) (f : Fault) (k : ℕ) (t : Term) → Carries (Alike t) (Alike t) (throw n f k t)
  alike-throw n f k (place p) =
      carries-if (Alike (place p)) (Alike (place p)) (nat_eq n k) (up done)
      (record { found = λ w s d. refl; inner = λ x. refl })
  alike-throw n f k (thrown g) =
      carries-if (Alike (thrown g)) (Alike (thrown g)) (nat_eq n k) (up done)
      (record { found = λ w s d. refl; inner = λ x. refl })
  alike-throw n f k (seq t rest) =
      let now = Alike (seq t rest) in
      carries-surrounded (Alike t) (Alike t) now now (λ t'. t') (λ t'. seq t' rest) (throw n f k t)
      (λ t' a. record { found = a.found; inner = a.inner }) (λ t' a. record { found = a.found; inner = a.inner })
      (alike-throw n f k t)
  alike-throw n f k (par ts) =
      let now = Alike (par ts) in
      carries-surrounded (AllAlike ts) (AllAlike ts) now now par par (throw_among n f ts)
      (λ ts' a. record { found = λ w s d. a.found w; inner = a.inner })
      (λ ts' a. record { found = λ w s d. a.found w; inner = a.inner }) (alike-throw_among n f ts)
  alike-throw n f k (in_scope q t h u) =
      let now = Alike (in_scope q t h u) in
      carries-reaches (Alike t) (Alike t) now now (ready q h k t) (at_scope q h u f) (λ t'. in_scope q t' h u)
      (throw n f k t)
      (λ t' a. alike-at_scope q h u f t t' a) (λ t' a. alike-scope q t t' h u u a) (alike-throw n f k t)
  alike-throw n f k (exec m o y t) =
      let now = Alike (exec m o y t) in
      carries-surrounded (Alike t) (Alike t) now now (λ t'. prot (fail m f t')) (exec m o y) (throw n f k t)
      (λ t' a. record { found = a.found; inner = a.inner }) (λ t' a. record { found = a.found; inner = a.inner })
      (alike-throw n f k t)
  alike-throw n f k (prot t) =
      let now = Alike (prot t) in
      carries-surrounded (Alike t) (Alike t) now now prot prot (throw n f k t)
      (λ t' a. record { found = a.found; inner = a.inner }) (λ t' a. record { found = a.found; inner = a.inner })
      (alike-throw n f k t)
  alike-throw n f k t = tt

  -- nor one in members
  pub alike-throw_among : (n : ℕ) (f : Fault) (ts : Strands) → Carries (AllAlike ts) (AllAlike ts) (throw_among n f ts)
  alike-throw_among n f no_strands = tt
  alike-throw_among n f (strand k t ts) =
      alike-carried n f k t ts (stands_in n k t) (alike-throw n f k t) (alike-throw_among n f ts)
