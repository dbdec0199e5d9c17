-- What stands under a name in entries that were changed.
use Rattle.std.proofs.Common.{◌≡◌, ◌⊎◌, inl, inr, ⊎_elim, ℕ, Bool, true, false, cond, ◌&&◌, ◌||◌, [], ◌∷◌, Option, None, Some, is_some, if◌then◌else◌, nat_eq, nat_lt, Ordering, Less, Equal, Greater, nat_cmp, refl, sym, ap, ◌∙◌, subst}
use Rattle.std.specs.Ordering.{match_ordering}
use Rattle.std.proofs.lemmas.Bool.{false≢true, eqb-true, eqb-false, eq-eqb, ne_eqb, and_parts, or_left, or_right, or_cases, cases_eq}
use Rattle.behaviour_tree.specs.declared.behaviour.HandlerKey.TheVariants as key
use Rattle.behaviour_tree.specs.Data.{Proc, HandlerList, no_handlers, handler}
use Rattle.behaviour_tree.specs.FormedBehaviours.{is_behaviour, are_handlers}
use Rattle.session_calculus.specs.Tables.{Entries, entry, with, without, over, Table, with_handler, taken_in, put_over, plus}
use Rattle.session_calculus.specs.Compensations.{has_this, names_scope, NamesNoScope}

-- nothing is no handler
pub none_some : (p : Proc) → ◌≡◌ {A = Option Proc} None (Some p) → ⊥
none_some p e = false≢true (ap is_some e)

-- the first entry has the name
entry-here : (r name : ℕ) (p : Proc) (es : Entries) → r ≡ name → entry r ((name, p) ∷ es) ≡ Some p
entry-here r name p es e = ap (λ b. if b then Some p else entry r es) (eq-eqb r name e)

-- the first entry has another
entry-later : (r name : ℕ) (p : Proc) (es : Entries) → (r ≡ name → ⊥) → entry r ((name, p) ∷ es) ≡ entry r es
entry-later r name p es e = ap (λ b. if b then Some p else entry r es) (ne_eqb r name e)

-- what an answer says of two numbers
abbrev Compared : ℕ → ℕ → Ordering → Type 0
Compared x y Less = Unit {0}
Compared x y Equal = x ≡ y
Compared x y Greater = x ≡ y → ⊥

-- what two numbers are to each other
compared : (x y : ℕ) (o : Ordering) → nat_cmp x y ≡ o → Compared x y o
compared x y o e = subst (Compared x y) e (go (nat_lt x y) (nat_eq x y) refl refl)
  where
    go : (less same : Bool) → nat_lt x y ≡ less → nat_eq x y ≡ same
        → Compared x y (cond less Less (cond same Equal Greater))
    go true same h k = tt
    go false true h k = eqb-true x y k
    go false false h k = eqb-false x y k

-- an entry that is put under a name stands there
entry-with_same : (name : ℕ) (p : Proc) (es : Entries) → entry name (with name p es) ≡ Some p
entry-with_same name p [] = entry-here name name p [] refl
entry-with_same name p (e ∷ es) = go (nat_cmp name e.0) refl (entry-with_same name p es)
  where
    go : (o : Ordering) → nat_cmp name e.0 ≡ o → entry name (with name p es) ≡ Some p
        → entry name (match_ordering o ((name, p) ∷ e ∷ es) ((e.0, p) ∷ es) (e ∷ with name p es)) ≡ Some p
    go Less h rest = entry-here name name p (e ∷ es) refl
    go Equal h rest = entry-here name e.0 p es (compared name e.0 Equal h)
    go Greater h rest = entry-later name e.0 e.1 (with name p es) (compared name e.0 Greater h) ∙ rest

-- a first entry before others, of which each stands in yet others
entry-behind : (r : ℕ) (e : ℕ × Proc) (x : Proc) (es more : Entries) → (entry r es ≡ Some x → entry r more ≡ Some x)
    → entry r (e ∷ es) ≡ Some x → entry r (e ∷ more) ≡ Some x
entry-behind r e x es more rest h = go (cases_eq r e.0)
  where
    go : (r ≡ e.0) ⊎ (r ≡ e.0 → ⊥) → entry r (e ∷ more) ≡ Some x
    go (inl same) = entry-here r e.0 e.1 more same ∙ sym (entry-here r e.0 e.1 es same) ∙ h
    go (inr apart) = entry-later r e.0 e.1 more apart ∙ rest (sym (entry-later r e.0 e.1 es apart) ∙ h)

-- what stands under another name stood there before
entry-with_other : (r name : ℕ) (p x : Proc) (es : Entries) → (r ≡ name → ⊥) → entry r (with name p es) ≡ Some x
    → entry r es ≡ Some x
entry-with_other r name p x [] other h = absurd (none_some x (sym (entry-later r name p [] other) ∙ h))
entry-with_other r name p x (e ∷ es) other h = go (nat_cmp name e.0) refl (entry-with_other r name p x es other) h
  where
    go : (o : Ordering) → nat_cmp name e.0 ≡ o → (entry r (with name p es) ≡ Some x → entry r es ≡ Some x)
        → entry r (match_ordering o ((name, p) ∷ e ∷ es) ((e.0, p) ∷ es) (e ∷ with name p es)) ≡ Some x
        → entry r (e ∷ es) ≡ Some x
    go Less c rest k = sym (entry-later r name p (e ∷ es) other) ∙ k
    go Equal c rest k =
        let apart : r ≡ e.0 → ⊥ = λ same. other (same ∙ sym (compared name e.0 Equal c)) in
        entry-later r e.0 e.1 es apart ∙ sym (entry-later r e.0 p es apart) ∙ k
    go Greater c rest k = entry-behind r e x (with name p es) es rest k

-- what was taken away is gone
pub entry-without_same : (name : ℕ) (es : Entries) → entry name (without name es) ≡ None
entry-without_same name [] = refl
entry-without_same name (e ∷ es) = go (nat_eq name e.0) refl (entry-without_same name es)
  where
    go : (b : Bool) → nat_eq name e.0 ≡ b → entry name (without name es) ≡ None
        → entry name (if b then without name es else e ∷ without name es) ≡ None
    go true c rest = rest
    go false c rest = entry-later name e.0 e.1 (without name es) (eqb-false name e.0 c) ∙ rest

-- what is left stood there before
pub entry-without : (r name : ℕ) (x : Proc) (es : Entries) → entry r (without name es) ≡ Some x → entry r es ≡ Some x
entry-without r name x [] h = h
entry-without r name x (e ∷ es) h = go (nat_eq name e.0) refl (entry-without r name x es) h
  where
    taken : (r ≡ e.0) ⊎ (r ≡ e.0 → ⊥) → name ≡ e.0 → (entry r (without name es) ≡ Some x → entry r es ≡ Some x)
        → entry r (without name es) ≡ Some x → entry r (e ∷ es) ≡ Some x
    taken (inl same) c rest k =
        absurd (none_some x (sym (ap (λ y. entry y (without name es)) (same ∙ sym c) ∙ entry-without_same name es) ∙ k))
    taken (inr apart) c rest k = entry-later r e.0 e.1 es apart ∙ rest k

    go : (b : Bool) → nat_eq name e.0 ≡ b → (entry r (without name es) ≡ Some x → entry r es ≡ Some x)
        → entry r (if b then without name es else e ∷ without name es) ≡ Some x → entry r (e ∷ es) ≡ Some x
    go true c rest k = taken (cases_eq r e.0) (eqb-true name e.0 c) rest k
    go false c rest k = entry-behind r e x (without name es) es rest k

-- what stands in entries over others stood in one of them
pub entry-over : (r : ℕ) (x : Proc) (es more : Entries) → entry r (over es more) ≡ Some x
    → (entry r es ≡ Some x) ⊎ (entry r more ≡ Some x)
entry-over r x [] more h = inr h
entry-over r x (e ∷ es) more h = go (cases_eq r e.0) (entry-over r x es more)
  where
    wider : (r ≡ e.0 → ⊥) → (entry r es ≡ Some x) ⊎ (entry r more ≡ Some x)
        → (entry r (e ∷ es) ≡ Some x) ⊎ (entry r more ≡ Some x)
    wider apart (inl k) = inl (entry-later r e.0 e.1 es apart ∙ k)
    wider apart (inr k) = inr k

    go : (r ≡ e.0) ⊎ (r ≡ e.0 → ⊥)
        → (entry r (over es more) ≡ Some x → (entry r es ≡ Some x) ⊎ (entry r more ≡ Some x))
        → (entry r (e ∷ es) ≡ Some x) ⊎ (entry r more ≡ Some x)
    go (inl same) rest =
        inl (entry-here r e.0 e.1 es same ∙ sym (entry-with_same e.0 e.1 (over es more))
        ∙ sym (ap (λ y. entry y (with e.0 e.1 (over es more))) same) ∙ h)
    go (inr apart) rest = wider apart (rest (entry-with_other r e.0 e.1 x (over es more) apart h))

-- a handler under a scope name
entry-named : (r name : ℕ) (p x : Proc) (es : Entries) → entry r (with name p es) ≡ Some x
    → (entry r es ≡ Some x) ⊎ (nat_eq name r ≡ true)
entry-named r name p x es h = go (cases_eq r name)
  where
    go : (r ≡ name) ⊎ (r ≡ name → ⊥) → (entry r es ≡ Some x) ⊎ (nat_eq name r ≡ true)
    go (inl same) = inr (eq-eqb name r (sym same))
    go (inr apart) = inl (entry-with_other r name p x es apart h)

-- a handler under a scope name, or one behind it
entry-handler : (r name : ℕ) (y x : Proc) (es : Entries) (b : Bool) → (entry r (with name y es) ≡ Some x) ⊎ (b ≡ true)
    → (entry r es ≡ Some x) ⊎ (nat_eq name r || b ≡ true)
entry-handler r name y x es b (inl k) =
    ⊎_elim (λ old. inl old) (λ now. inr (or_left (nat_eq name r) b now)) (entry-named r name y x es k)
entry-handler r name y x es b (inr k) = inr (or_right (nat_eq name r) b k)

-- one of the handlers stands under scope name r where they are installed in scope q: as `this`, for r is q, or by its key
abbrev pub names_under : ℕ → ℕ → HandlerList → Bool
names_under q r no_handlers = false
names_under q r (handler key.This p list) = nat_eq q r || names_under q r list
names_under q r (handler (key.Scope q') p list) = nat_eq q' r || names_under q r list
names_under q r (handler (key.Fault f) p list) = names_under q r list

-- which of the two it is
pub named-how : (q r : ℕ) (list : HandlerList) → names_under q r list ≡ true
    → ((q ≡ r) × (has_this list ≡ true)) ⊎ (names_scope r list ≡ true)
named-how q r no_handlers e = absurd (false≢true e)
named-how q r (handler key.This p list) e =
    ⊎_elim (λ (here : nat_eq q r ≡ true). inl (eqb-true q r here, refl))
    (λ (later : names_under q r list ≡ true). ⊎_elim (λ own. inl (own.0, refl)) (λ named. inr named) (named-how q r list later))
    (or_cases (nat_eq q r) (names_under q r list) e)
named-how q r (handler (key.Scope s) p list) e =
    ⊎_elim (λ (here : nat_eq s r ≡ true). inr (or_left (nat_eq s r) (names_scope r list) here))
    (λ (later : names_under q r list ≡ true).
    ⊎_elim (λ own. inl own) (λ named. inr (or_right (nat_eq s r) (names_scope r list) named)) (named-how q r list later))
    (or_cases (nat_eq s r) (names_under q r list) e)
named-how q r (handler (key.Fault f) p list) e = named-how q r list e

-- what stands after handlers were put over a table stood there before, or one of them has the name
entry-put_over : (q r : ℕ) (x : Proc) (h : Table) (list : HandlerList) (new : Table)
    → entry r (put_over q h list new).scopes ≡ Some x
    → (entry r new.scopes ≡ Some x) ⊎ (names_under q r list ≡ true)
entry-put_over q r x h no_handlers new e = inl e
entry-put_over q r x h (handler key.This p list) new e =
    let y = taken_in q h key.This p in
    entry-handler r q y x new.scopes (names_under q r list)
    (entry-put_over q r x h list (with_handler q key.This y new) e)
entry-put_over q r x h (handler (key.Fault f) p list) new e =
    entry-put_over q r x h list (with_handler q (key.Fault f) (taken_in q h (key.Fault f) p) new) e
entry-put_over q r x h (handler (key.Scope s) p list) new e =
    let y = taken_in q h (key.Scope s) p in
    entry-handler r s y x new.scopes (names_under q r list)
    (entry-put_over q r x h list (with_handler q (key.Scope s) y new) e)

-- the same of a table with further handlers
pub entry-plus : (q r : ℕ) (x : Proc) (h : Table) (list : HandlerList) → entry r (plus q h list).scopes ≡ Some x
    → (entry r h.scopes ≡ Some x) ⊎ (names_under q r list ≡ true)
entry-plus q r x h list e = entry-put_over q r x h list h e

-- no key of a checked program is a scope name
pub names_no_scope : NamesNoScope
names_no_scope r no_handlers q e = refl
names_no_scope r (handler key.This p list) q e = names_no_scope r list q (and_parts (is_behaviour r true p) (are_handlers r list) e).1
names_no_scope r (handler (key.Fault f) p list) q e =
    names_no_scope r list q (and_parts (nat_lt f r.names && is_behaviour r true p) (are_handlers r list) e).1
names_no_scope r (handler (key.Scope s) p list) q e = absurd (false≢true e)
