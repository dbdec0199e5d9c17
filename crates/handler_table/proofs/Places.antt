-- What putting and taking at the place of a number make of a row.
use Rattle.std.proofs.Common.{◌≡◌, ℕ, zero, suc, ◌+◌, Bool, true, false, ◌&&◌, nat_eq, nat_lt, if◌then◌else◌, List, [], ◌∷◌, map, set, insert, remove, get_or, Option, Some, None, Result, Ok, Err, Ordering, Less, Equal, Greater, nat_cmp, refl, sym, ap, subst, ◌∙◌, arith}
use Rattle.std.specs.Ordering.{match_ordering}
use Rattle.std.proofs.lemmas.Bool.{false≢true}
use Rattle.std.proofs.lemmas.Bool.Decides.{nat_tests}
use Rattle.std.proofs.lemmas.Cmp.{ranked}
use Rattle.behaviour_tree.specs.declared.behaviour.Handler.{Handler, out-Handler}
use Rattle.behaviour_tree.specs.Data.{Proc}
use Rattle.behaviour_tree.specs.View.{behaviour_view, handler_view, HandlerView}
use Rattle.session_calculus.specs.Tables.{Entries, entry, with, without}
use Rattle.handler_table.specs.Entries.{number_of, entry_of, entries_of, is_scope}
use Rattle.handler_table.specs.Rows.{views_of, starts_above, is_rising, are_scopes, behind, moved, searched}
use Rattle.handler_table.proofs.Views.{handler_seen}

-- ---- numbers and tests

-- the first of two
pub and_left : (a b : Bool) → a && b ≡ true → a ≡ true
and_left true b e = refl
and_left false b e = absurd (false≢true e)

-- the second of two
pub and_right : (a b : Bool) → a && b ≡ true → b ≡ true
and_right true b e = e
and_right false b e = absurd (false≢true e)

-- both
pub and_both : (a b : Bool) → a ≡ true → b ≡ true → a && b ≡ true
and_both true b e f = f
and_both false b e f = absurd (false≢true e)

-- a number that comes first is less
less : (m n : ℕ) → nat_cmp m n ≡ Less → nat_lt m n ≡ true
less m n e = grind (arith, nat_tests)

-- a number that comes at the same place is the same
same : (m n : ℕ) → nat_cmp m n ≡ Equal → m ≡ n
same m n e = ranked m n Equal (sym e)

-- a number that comes later is more
more : (m n : ℕ) → nat_cmp m n ≡ Greater → nat_lt n m ≡ true
more m n e = grind (arith, nat_tests)

-- a number that is less is another
less_other : (m n : ℕ) → nat_lt m n ≡ true → nat_eq m n ≡ false
less_other m n e = grind (arith, nat_tests)

-- so is one that is more
more_other : (m n : ℕ) → nat_lt n m ≡ true → nat_eq m n ≡ false
more_other m n e = grind (arith, nat_tests)

-- a number is itself
itself : (m n : ℕ) → m ≡ n → nat_eq m n ≡ true
itself m n e = grind (arith, nat_tests)

-- less than less is less
less_less : (k m n : ℕ) → nat_lt k m ≡ true → nat_lt m n ≡ true → nat_lt k n ≡ true
less_less k m n e f = grind (arith, nat_tests)

-- ---- places

-- a place behind one more entry
pub moved_behind : (n : ℕ) (r : Result ℕ ℕ) → moved n (behind r) ≡ moved (n + 1) r
moved_behind n (Ok k) = let e : n + suc k ≡ n + 1 + k = omega arith in ap Ok e
moved_behind n (Err k) = let e : n + suc k ≡ n + 1 + k = omega arith in ap Err e

-- a list with an element at a place: in place of what stands there, or before it
abbrev pub placed : {A : Type 0} → Result ℕ ℕ → A → List A → List A
placed (Ok k) a xs = set xs k a
placed (Err k) a xs = insert xs k a

placed_behind : {A : Type 0} (r : Result ℕ ℕ) (a x : A) (xs : List A) → placed (behind r) a (x ∷ xs) ≡ x ∷ placed r a xs
placed_behind (Ok k) a x xs = refl
placed_behind (Err k) a x xs = refl

-- a list without the element that stands at a place
abbrev pub removed : {A : Type 0} → Result ℕ ℕ → List A → List A
removed (Ok k) xs = remove xs k
removed (Err k) xs = xs

removed_behind : {A : Type 0} (r : Result ℕ ℕ) (x : A) (xs : List A) → removed (behind r) (x ∷ xs) ≡ x ∷ removed r xs
removed_behind (Ok k) x xs = refl
removed_behind (Err k) x xs = refl

-- what the element at a place has
abbrev pub found : {A : Type 0} → (A → Proc) → Result ℕ ℕ → List A → A → Option Proc
found g (Ok k) xs d = Some (g (get_or xs k d))
found g (Err k) xs d = None

found_behind : {A : Type 0} (g : A → Proc) (r : Result ℕ ℕ) (x : A) (xs : List A) (d : A) → found g (behind r) (x ∷ xs) d ≡ found g r xs d
found_behind g (Ok k) x xs d = refl
found_behind g (Err k) x xs d = refl

-- ---- putting

-- an element at the place of its number is an entry more
pub placed_with : {A : Type 0} (f : A → ℕ × Proc) (a : A) (xs : List A)
    → map f (placed (searched (f a).0 (map f xs)) a xs) ≡ with (f a).0 (f a).1 (map f xs)
placed_with f a [] = refl
placed_with f a (x ∷ xs) = go (nat_cmp (f a).0 (f x).0) refl (placed_with f a xs)
  where
    go : (o : Ordering) → nat_cmp (f a).0 (f x).0 ≡ o
        → map f (placed (searched (f a).0 (map f xs)) a xs) ≡ with (f a).0 (f a).1 (map f xs)
        → map f (placed (match_ordering o (Err 0) (Ok 0) (behind (searched (f a).0 (map f xs)))) a (x ∷ xs))
        ≡ match_ordering o (((f a).0, (f a).1) ∷ f x ∷ map f xs) (((f x).0, (f a).1) ∷ map f xs) (f x ∷ with (f a).0 (f a).1 (map f xs))
    go Less e i = refl
    go Equal e i = ap (λ n. (n, (f a).1) ∷ map f xs) (same (f a).0 (f x).0 e)
    go Greater e i = ap (map f) (placed_behind (searched (f a).0 (map f xs)) a x xs) ∙ ap (λ es. f x ∷ es) i

-- an entry more above a number
above_with : (m n : ℕ) (p : Proc) (es : Entries) → nat_lt m n ≡ true → starts_above m es ≡ true → starts_above m (with n p es) ≡ true
above_with m n p [] l a = l
above_with m n p (e ∷ es) l a = go (nat_cmp n e.0)
  where
    go : (o : Ordering) → starts_above m (match_ordering o ((n, p) ∷ e ∷ es) ((e.0, p) ∷ es) (e ∷ with n p es)) ≡ true
    go Less = l
    go Equal = a
    go Greater = a

-- with an entry more the numbers rise still
rising_with : (n : ℕ) (p : Proc) (es : Entries) → is_rising es ≡ true → is_rising (with n p es) ≡ true
rising_with n p [] r = refl
rising_with n p (e ∷ es) r = go (nat_cmp n e.0) refl (rising_with n p es (and_right (starts_above e.0 es) (is_rising es) r))
  where
    go : (o : Ordering) → nat_cmp n e.0 ≡ o → is_rising (with n p es) ≡ true
        → is_rising (match_ordering o ((n, p) ∷ e ∷ es) ((e.0, p) ∷ es) (e ∷ with n p es)) ≡ true
    go Less c i = and_both (nat_lt n e.0) (starts_above e.0 es && is_rising es) (less n e.0 c) r
    go Equal c i = r
    go Greater c i =
        and_both (starts_above e.0 (with n p es)) (is_rising (with n p es))
        (above_with e.0 n p es (more n e.0 c) (and_left (starts_above e.0 es) (is_rising es) r)) i

-- ---- what stands above a number

-- what follows a larger number is above too
above_more : (m n : ℕ) (es : Entries) → nat_lt m n ≡ true → starts_above n es ≡ true → starts_above m es ≡ true
above_more m n [] l a = refl
above_more m n (e ∷ es) l a = less_less m n e.0 l a

-- no entry of a smaller number is there
without_here : (n : ℕ) (e : ℕ × Proc) (es : Entries) → nat_eq n e.0 ≡ true → without n (e ∷ es) ≡ without n es
without_here n e es h = ap (λ b. if b then without n es else e ∷ without n es) h

without_there : (n : ℕ) (e : ℕ × Proc) (es : Entries) → nat_eq n e.0 ≡ false → without n (e ∷ es) ≡ e ∷ without n es
without_there n e es h = ap (λ b. if b then without n es else e ∷ without n es) h

without_above : (n : ℕ) (es : Entries) → starts_above n es ≡ true → is_rising es ≡ true → without n es ≡ es
without_above n [] a r = refl
without_above n (e ∷ es) a r =
    without_there n e es (less_other n e.0 a)
    ∙ ap (λ l. e ∷ l) (without_above n es (above_more n e.0 es a (and_left (starts_above e.0 es) (is_rising es) r)) (and_right (starts_above e.0 es) (is_rising es) r))

entry_here : (n : ℕ) (e : ℕ × Proc) (es : Entries) → nat_eq n e.0 ≡ true → entry n (e ∷ es) ≡ Some e.1
entry_here n e es h = ap (λ b. if b then Some e.1 else entry n es) h

entry_there : (n : ℕ) (e : ℕ × Proc) (es : Entries) → nat_eq n e.0 ≡ false → entry n (e ∷ es) ≡ entry n es
entry_there n e es h = ap (λ b. if b then Some e.1 else entry n es) h

entry_above : (n : ℕ) (es : Entries) → starts_above n es ≡ true → is_rising es ≡ true → entry n es ≡ None
entry_above n [] a r = refl
entry_above n (e ∷ es) a r =
    entry_there n e es (less_other n e.0 a)
    ∙ entry_above n es (above_more n e.0 es a (and_left (starts_above e.0 es) (is_rising es) r)) (and_right (starts_above e.0 es) (is_rising es) r)

-- ---- taking

-- without the element at the place of a number no entry of the number is left
pub removed_without : {A : Type 0} (f : A → ℕ × Proc) (n : ℕ) (xs : List A) → is_rising (map f xs) ≡ true
    → map f (removed (searched n (map f xs)) xs) ≡ without n (map f xs)
removed_without f n [] r = refl
removed_without f n (x ∷ xs) r = go (nat_cmp n (f x).0) refl (removed_without f n xs rest)
  where
    above : starts_above (f x).0 (map f xs) ≡ true
    above = and_left (starts_above (f x).0 (map f xs)) (is_rising (map f xs)) r

    rest : is_rising (map f xs) ≡ true
    rest = and_right (starts_above (f x).0 (map f xs)) (is_rising (map f xs)) r

    go : (o : Ordering) → nat_cmp n (f x).0 ≡ o
        → map f (removed (searched n (map f xs)) xs) ≡ without n (map f xs)
        → map f (removed (match_ordering o (Err 0) (Ok 0) (behind (searched n (map f xs)))) (x ∷ xs)) ≡ without n (f x ∷ map f xs)
    go Less c i = sym (without_above n (f x ∷ map f xs) (less n (f x).0 c) r)
    go Equal c i =
        let e = same n (f x).0 c in
        sym (without_here n (f x) (map f xs) (itself n (f x).0 e) ∙ without_above n (map f xs) (subst (λ m. starts_above m (map f xs) ≡ true) (sym e) above) rest)
    go Greater c i =
        ap (map f) (removed_behind (searched n (map f xs)) x xs) ∙ ap (λ es. f x ∷ es) i
        ∙ sym (without_there n (f x) (map f xs) (more_other n (f x).0 (more n (f x).0 c)))

-- what stands at the place of a number is its entry
pub found_entry : {A : Type 0} (f : A → ℕ × Proc) (n : ℕ) (xs : List A) (d : A) → is_rising (map f xs) ≡ true
    → found (λ a. (f a).1) (searched n (map f xs)) xs d ≡ entry n (map f xs)
found_entry f n [] d r = refl
found_entry f n (x ∷ xs) d r = go (nat_cmp n (f x).0) refl (found_entry f n xs d rest)
  where
    rest : is_rising (map f xs) ≡ true
    rest = and_right (starts_above (f x).0 (map f xs)) (is_rising (map f xs)) r

    go : (o : Ordering) → nat_cmp n (f x).0 ≡ o → found (λ a. (f a).1) (searched n (map f xs)) xs d ≡ entry n (map f xs)
        → found (λ a. (f a).1) (match_ordering o (Err 0) (Ok 0) (behind (searched n (map f xs)))) (x ∷ xs) d ≡ entry n (f x ∷ map f xs)
    go Less c i = sym (entry_above n (f x ∷ map f xs) (less n (f x).0 c) r)
    go Equal c i = sym (entry_here n (f x) (map f xs) (itself n (f x).0 (same n (f x).0 c)))
    go Greater c i =
        found_behind (λ a. (f a).1) (searched n (map f xs)) x xs d ∙ i
        ∙ sym (entry_there n (f x) (map f xs) (more_other n (f x).0 (more n (f x).0 c)))

-- without an entry the numbers rise still
above_without : (m n : ℕ) (es : Entries) → starts_above m es ≡ true → is_rising es ≡ true → starts_above m (without n es) ≡ true
above_without m n [] a r = refl
above_without m n (e ∷ es) a r =
    go (nat_eq n e.0)
    (above_without m n es (above_more m e.0 es a (and_left (starts_above e.0 es) (is_rising es) r)) (and_right (starts_above e.0 es) (is_rising es) r))
  where
    go : (b : Bool) → starts_above m (without n es) ≡ true → starts_above m (if b then without n es else e ∷ without n es) ≡ true
    go true i = i
    go false i = a

rising_without : (n : ℕ) (es : Entries) → is_rising es ≡ true → is_rising (without n es) ≡ true
rising_without n [] r = refl
rising_without n (e ∷ es) r = go (nat_eq n e.0) (rising_without n es rest)
  where
    above : starts_above e.0 es ≡ true
    above = and_left (starts_above e.0 es) (is_rising es) r

    rest : is_rising es ≡ true
    rest = and_right (starts_above e.0 es) (is_rising es) r

    go : (b : Bool) → is_rising (without n es) ≡ true → is_rising (if b then without n es else e ∷ without n es) ≡ true
    go true i = i
    go false i = and_both (starts_above e.0 (without n es)) (is_rising (without n es)) (above_without e.0 n es above rest) i

-- ---- keys

-- a handler of a scope among handlers of scopes, in place of one
pub scopes_set : (k : ℕ) (h : Handler) (hs : List Handler) → are_scopes (views_of hs) ≡ true → is_scope (handler_view h).key ≡ true
    → are_scopes (views_of (set hs k h)) ≡ true
scopes_set k h [] s i = refl
scopes_set zero h (x ∷ xs) s i =
    and_both (is_scope (handler_view h).key) (are_scopes (views_of xs)) i (and_right (is_scope (handler_view x).key) (are_scopes (views_of xs)) s)
scopes_set (suc k) h (x ∷ xs) s i =
    and_both (is_scope (handler_view x).key) (are_scopes (views_of (set xs k h)))
    (and_left (is_scope (handler_view x).key) (are_scopes (views_of xs)) s)
    (scopes_set k h xs (and_right (is_scope (handler_view x).key) (are_scopes (views_of xs)) s) i)

-- the same before one
pub scopes_insert : (k : ℕ) (h : Handler) (hs : List Handler) → are_scopes (views_of hs) ≡ true → is_scope (handler_view h).key ≡ true
    → are_scopes (views_of (insert hs k h)) ≡ true
scopes_insert zero h hs s i = and_both (is_scope (handler_view h).key) (are_scopes (views_of hs)) i s
scopes_insert (suc k) h [] s i = and_both (is_scope (handler_view h).key) true i refl
scopes_insert (suc k) h (x ∷ xs) s i =
    and_both (is_scope (handler_view x).key) (are_scopes (views_of (insert xs k h)))
    (and_left (is_scope (handler_view x).key) (are_scopes (views_of xs)) s)
    (scopes_insert k h xs (and_right (is_scope (handler_view x).key) (are_scopes (views_of xs)) s) i)

-- handlers of scopes without one
pub scopes_remove : (k : ℕ) (hs : List Handler) → are_scopes (views_of hs) ≡ true → are_scopes (views_of (remove hs k)) ≡ true
scopes_remove zero [] s = refl
scopes_remove (suc k) [] s = refl
scopes_remove zero (x ∷ xs) s = and_right (is_scope (handler_view x).key) (are_scopes (views_of xs)) s
scopes_remove (suc k) (x ∷ xs) s =
    and_both (is_scope (handler_view x).key) (are_scopes (views_of (remove xs k)))
    (and_left (is_scope (handler_view x).key) (are_scopes (views_of xs)) s)
    (scopes_remove k xs (and_right (is_scope (handler_view x).key) (are_scopes (views_of xs)) s))

-- ---- of a row of handlers

-- what is found under a number
pub entry_found : (n k : ℕ) (hs : List Handler) (h : Handler) → is_rising (entries_of hs) ≡ true → Ok k ≡ searched n (entries_of hs)
    → h ≡ get_or hs k h → Some (behaviour_view (out-Handler h).body) ≡ entry n (entries_of hs)
entry_found n k hs h r e i =
    ap (λ (v : HandlerView). Some v.body) (sym (handler_seen h)) ∙ ap (λ x. Some (entry_of x).1) i ∙ ap (λ s. found (λ x. (entry_of x).1) s hs h) e ∙ found_entry entry_of n hs h r

-- nothing is found under a number
pub entry_missing : (n k : ℕ) (hs : List Handler) → is_rising (entries_of hs) ≡ true → Err k ≡ searched n (entries_of hs)
    → None ≡ entry n (entries_of hs)
entry_missing n k [] r e = refl
entry_missing n k (h ∷ hs) r e =
    ap (λ s. found (λ x. (entry_of x).1) s (h ∷ hs) h) e ∙ found_entry entry_of n (h ∷ hs) h r

-- the place of a handler is that of the number in its key
searched_key : (n : ℕ) (h : Handler) (es : Entries) → n ≡ number_of (out-Handler h).key → searched n es ≡ searched (entry_of h).0 es
searched_key n h es e = ap (λ m. searched m es) (e ∙ ap (λ (v : HandlerView). number_of v.key) (sym (handler_seen h)))

-- a handler in place of that of its number
pub put_set : (n k : ℕ) (hs new : List Handler) (h : Handler) → n ≡ number_of (out-Handler h).key → Ok k ≡ searched n (entries_of hs)
    → new ≡ set hs k h → entries_of new ≡ with (entry_of h).0 (entry_of h).1 (entries_of hs)
put_set n k hs new h i e is =
    ap entries_of is ∙ ap (λ s. entries_of (placed s h hs)) (e ∙ searched_key n h (entries_of hs) i) ∙ placed_with entry_of h hs

-- a handler of a new number
pub put_insert : (n k : ℕ) (hs new : List Handler) (h : Handler) → n ≡ number_of (out-Handler h).key → Err k ≡ searched n (entries_of hs)
    → new ≡ insert hs k h → entries_of new ≡ with (entry_of h).0 (entry_of h).1 (entries_of hs)
put_insert n k hs new h i e is =
    ap entries_of is ∙ ap (λ s. entries_of (placed s h hs)) (e ∙ searched_key n h (entries_of hs) i) ∙ placed_with entry_of h hs

-- the numbers rise still in either case
pub rising_put : (hs new : List Handler) (h : Handler) → is_rising (entries_of hs) ≡ true
    → entries_of new ≡ with (entry_of h).0 (entry_of h).1 (entries_of hs) → is_rising (entries_of new) ≡ true
rising_put hs new h r e =
    subst (λ es. is_rising es ≡ true) (sym e) (rising_with (entry_of h).0 (entry_of h).1 (entries_of hs) r)

-- a handler taken out
pub take_remove : (n k : ℕ) (hs new : List Handler) → is_rising (entries_of hs) ≡ true → Ok k ≡ searched n (entries_of hs)
    → new ≡ remove hs k → entries_of new ≡ without n (entries_of hs)
take_remove n k hs new r e is = ap entries_of is ∙ ap (λ s. entries_of (removed s hs)) e ∙ removed_without entry_of n hs r

-- the numbers rise still
pub rising_taken : (n : ℕ) (hs new : List Handler) → is_rising (entries_of hs) ≡ true → entries_of new ≡ without n (entries_of hs)
    → is_rising (entries_of new) ≡ true
rising_taken n hs new r e = subst (λ es. is_rising es ≡ true) (sym e) (rising_without n (entries_of hs) r)

-- nothing to take out
pub take_none : (n k : ℕ) (hs : List Handler) → is_rising (entries_of hs) ≡ true → Err k ≡ searched n (entries_of hs)
    → entries_of hs ≡ without n (entries_of hs)
take_none n k hs r e = ap (λ s. entries_of (removed s hs)) e ∙ removed_without entry_of n hs r
