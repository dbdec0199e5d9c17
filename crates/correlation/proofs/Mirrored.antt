-- What the keys of a set tell of the sessions, once these change.
use Rattle.std.proofs.Common.{◌≡◌, ◌≤◌, ◌<◌, get_or, set, ℕ, zero, suc, ◌+◌, ◌*◌, ◌^◌, ◌++◌, ◌&&◌, ◌||◌, Bool, true, false, not, if◌then◌else◌, List, [], ◌∷◌, length, insert, filter, nat_eq, map, Option, Some, None, is_some, option_map, Result, Ok, Err, refl, sym, ap, subst, ◌∙◌, arith}
use Rattle.std.proofs.lemmas.Bool.Decides.{nat_tests}
use Rattle.std.proofs.lemmas.Bool.{false≢true}
use Rattle.std.proofs.lemmas.List.{set-get_or}
use Rattle.std.specs.Prelude.{option_and_then, IfOk, OnErr}
use Rattle.std.specs.Result.{is_ok}
use Rattle.std.specs.List.{cons_option, list_all, list_any}
use Rattle.jolie_trees.specs.declared.root.Root.{Root}
use Rattle.correlation.specs.Rows.{session_with}
use Rattle.correlation.specs.Sessions.{SetKey, all_there, are_sets, changed, completed, differ, first, freed, held, holder, if_bound, is_born, is_live, key_of, newborn, reply_by, reply_of, reply_to, rows_of, session_of, value_of, variables_of, write}
use Rattle.correlation.specs.Index.{AreAlike, Mirrors, are_numbered, has_key, have_sets, is_of_other, keys_of, row_of, with_key}
use Rattle.correlation.specs.Places.{is_rising, searched, with_row}
use Rattle.correlation.specs.declared.bind_reply.BindReply.{BindReply}
use Rattle.correlation.specs.declared.bind_reply.BindReply.TheVariants as reply
use Rattle.correlation.specs.declared.key.KeyRow.{KeyRow}
use Rattle.correlation.specs.declared.session.Session.{Session}
use Rattle.correlation.specs.declared.session.SetOf.{SetOf}
use Rattle.correlation.specs.declared.session.Written.{Written}
use Rattle.correlation.specs.declared.set_keys.SetKeys.{SetKeys}
use Rattle.correlation.proofs.Alike.{alike_by, alike_kept, alike_more}
use Rattle.correlation.proofs.Halving.{and_left, and_right}
use Rattle.correlation.proofs.Sessions.{free_comes, held_stays, place_of, rising_apart}
use Rattle.correlation.proofs.KeySets.{is_that, itself, keys_of_more, keys_rise}
use Rattle.correlation.proofs.Writing.{Completes, completes, is_false, nothing}

-- ---- finding

-- what is found among the keys of a set is found among the sessions
pub found_in_sessions : (sets : List SetKeys) (sessions : List Session) (n : ℕ) (v : List Root) (o : Option ℕ)
    → Mirrors sets sessions → o ≡ session_with v (keys_of sets n) → o ≡ holder sessions n v
found_in_sessions sets sessions n v o m f = f ∙ (m.alike n).same v

-- the bound by the keys of a set is one by the sessions with a complete key
pub bounded : (sets : List SetKeys) (sessions : List Session) (n c : ℕ) → Mirrors sets sessions
    → c ≤ 2 * length (keys_of sets n) + 1 → c ≤ 2 * length (rows_of sessions n) + 1
bounded sets sessions n c m h = subst (λ l. c ≤ 2 * l + 1) ((m.alike n).count) h

-- ---- births

-- a session without a key adds no row
rows_of_more : (ss : List Session) (s : Session) (n : ℕ) → key_of s n ≡ None → rows_of (ss ++ s ∷ []) n ≡ rows_of ss n
rows_of_more [] s n e = ap (λ k. cons_option (option_map (row_of s.number) k) []) e
rows_of_more (t ∷ ts) s n e = ap (cons_option (option_map (row_of t.number) (key_of t n))) (rows_of_more ts s n e)

-- the keys mirror the sessions still once a session without a key came, or none did
pub mirrored_push : (sets : List SetKeys) (ss new : List Session) (s : Session) (b : Bool) → Mirrors sets ss
    → ((n : ℕ) → key_of s n ≡ None) → new ≡ (if b then ss ++ s ∷ [] else ss) → Mirrors sets new
mirrored_push sets ss new s false m h e = subst (Mirrors sets) (sym e) m
mirrored_push sets ss new s true m h e = subst (Mirrors sets) (sym e) (record {
  alike = λ n. alike_by (keys_of sets n) (rows_of ss n) (keys_of sets n) (rows_of (ss ++ s ∷ []) n) (m.alike n) refl (rows_of_more ss s n (h n));
})

-- a session that is born has no key
pub newborn_has_none : (s n : ℕ) (sets : List SetOf) → are_sets sets ≡ true → key_of (newborn s sets) n ≡ None
newborn_has_none s n [] h = refl
newborn_has_none s n (t ∷ ts) h =
    let front = is_some (first t.variables) && list_all (differ t) ts in
    go (nat_eq t.set n) t.variables (and_left (is_some (first t.variables)) (list_all (differ t) ts) (and_left front (are_sets ts) h)) (newborn_has_none s n ts (and_right front (are_sets ts) h))
  where
    go : (b : Bool) (vs : List ℕ) → is_some (first vs) ≡ true
        → option_and_then (λ ws. all_there (map (value_of []) ws)) (variables_of n ts) ≡ None
        → option_and_then (λ ws. all_there (map (value_of []) ws)) (if b then Some vs else variables_of n ts) ≡ None
    go true [] e i = absurd (false≢true e)
    go true (v ∷ vs) e i = refl
    go false vs e i = i

-- ---- numbers of sessions

-- another session comes behind
born_more : (ss : List Session) (s : Session) (n : ℕ) → nat_eq s.number n ≡ false → is_born (ss ++ s ∷ []) n ≡ is_born ss n
born_more [] s n e = ap (λ b. b || false) e
born_more (t ∷ ts) s n e = ap (λ b. nat_eq t.number n || b) (born_more ts s n e)

-- one that was not born
numbered_more : (ss : List Session) (s : Session) → is_born ss s.number ≡ false → are_numbered ss ≡ true → are_numbered (ss ++ s ∷ []) ≡ true
numbered_more [] s h e = refl
numbered_more (t ∷ ts) s h e =
    let other = differs (nat_eq t.number s.number) h in
    ap (λ b. not b && are_numbered (ts ++ s ∷ [])) (born_more ts s t.number (turned other))
    ∙ ap (λ b. b && are_numbered (ts ++ s ∷ [])) (and_left (not (is_born ts t.number)) (are_numbered ts) e)
    ∙ numbered_more ts s (rest (nat_eq t.number s.number) h) (and_right (not (is_born ts t.number)) (are_numbered ts) e)
  where
    differs : (b : Bool) → b || is_born ts s.number ≡ false → b ≡ false
    differs true f = absurd (false≢true (sym f))
    differs false f = refl

    rest : (b : Bool) → b || is_born ts s.number ≡ false → is_born ts s.number ≡ false
    rest true f = absurd (false≢true (sym f))
    rest false f = f

    turned : nat_eq t.number s.number ≡ false → nat_eq s.number t.number ≡ false
    turned f = grind (arith, nat_tests)

sets_more : (ss : List Session) (s : Session) → are_sets s.sets ≡ true → have_sets ss ≡ true → have_sets (ss ++ s ∷ []) ≡ true
sets_more [] s h e = ap (λ b. b && true) h
sets_more (t ∷ ts) s h e =
    ap (λ b. b && have_sets (ts ++ s ∷ [])) (and_left (are_sets t.sets) (have_sets ts) e) ∙ sets_more ts s h (and_right (are_sets t.sets) (have_sets ts) e)

-- the numbers are each once still, where a session came that was not born, or none
pub numbered_push : (ss new : List Session) (s : Session) (b : Bool) → is_born ss s.number ≡ false → are_numbered ss ≡ true
    → new ≡ (if b then ss ++ s ∷ [] else ss) → are_numbered new ≡ true
numbered_push ss new s true n h e = ap are_numbered e ∙ numbered_more ss s n h
numbered_push ss new s false n h e = ap are_numbered e ∙ h

-- the sets are of each session still, where one came, or none
pub sets_push : (ss new : List Session) (s : Session) (b : Bool) → are_sets s.sets ≡ true → have_sets ss ≡ true
    → new ≡ (if b then ss ++ s ∷ [] else ss) → have_sets new ≡ true
sets_push ss new s true n h e = ap have_sets e ∙ sets_more ss s n h
sets_push ss new s false n h e = ap have_sets e ∙ h

-- a session that another with its number and sets takes the place of
born_set : (ss : List Session) (i n : ℕ) (t d : Session) → t.number ≡ (get_or ss i d).number → is_born (set ss i t) n ≡ is_born ss n
born_set [] i n t d e = refl
born_set (s ∷ ss) zero n t d e = ap (λ m. nat_eq m n || is_born ss n) e
born_set (s ∷ ss) (suc i) n t d e = ap (λ b. nat_eq s.number n || b) (born_set ss i n t d e)

pub numbered_set : (ss : List Session) (i : ℕ) (t d : Session) → t.number ≡ (get_or ss i d).number → are_numbered ss ≡ true → are_numbered (set ss i t) ≡ true
numbered_set [] i t d e h = refl
numbered_set (s ∷ ss) zero t d e h = ap (λ n. not (is_born ss n) && are_numbered ss) e ∙ h
numbered_set (s ∷ ss) (suc i) t d e h =
    ap (λ b. not b && are_numbered (set ss i t)) (born_set ss i s.number t d e)
    ∙ ap (λ b. b && are_numbered (set ss i t)) (and_left (not (is_born ss s.number)) (are_numbered ss) h)
    ∙ numbered_set ss i t d e (and_right (not (is_born ss s.number)) (are_numbered ss) h)

pub sets_set : (ss : List Session) (i : ℕ) (t d : Session) → t.sets ≡ (get_or ss i d).sets → have_sets ss ≡ true → have_sets (set ss i t) ≡ true
sets_set [] i t d e h = refl
sets_set (s ∷ ss) zero t d e h = ap (λ l. are_sets l && have_sets ss) e ∙ h
sets_set (s ∷ ss) (suc i) t d e h =
    ap (λ b. b && have_sets (set ss i t)) (and_left (are_sets s.sets) (have_sets ss) h) ∙ sets_set ss i t d e (and_right (are_sets s.sets) (have_sets ss) h)

pub sets_at : (ss : List Session) (i : ℕ) (d : Session) → i < length ss → have_sets ss ≡ true → are_sets (get_or ss i d).sets ≡ true
sets_at [] i d l h = absurd (omega arith)
sets_at (s ∷ ss) zero d l h = and_left (are_sets s.sets) (have_sets ss) h
sets_at (s ∷ ss) (suc i) d l h = sets_at ss i d (omega arith) (and_right (are_sets s.sets) (have_sets ss) h)

-- ---- the session of a number

-- who stands behind the first was born
born_at : (ss : List Session) (i : ℕ) (d : Session) → i < length ss → is_born ss (get_or ss i d).number ≡ true
born_at [] i d l = absurd (omega arith)
born_at (s ∷ ss) zero d l = ap (λ b. b || is_born ss s.number) (itself s.number s.number refl)
born_at (s ∷ ss) (suc i) d l = ap (λ b. nat_eq s.number (get_or ss i d).number || b) (born_at ss i d (omega arith)) ∙ either (nat_eq s.number (get_or ss i d).number)
  where
    either : (b : Bool) → b || true ≡ true
    either true = refl
    either false = refl

-- the first has another number than who stands behind
first_differs : (s : Session) (ss : List Session) (i : ℕ) (d : Session) → are_numbered (s ∷ ss) ≡ true → i < length ss → nat_eq s.number (get_or ss i d).number ≡ false
first_differs s ss i d h l =
    let none = is_false (is_born ss s.number) (and_left (not (is_born ss s.number)) (are_numbered ss) h) in
    go (nat_eq s.number (get_or ss i d).number) refl none (born_at ss i d l)
  where
    go : (b : Bool) → nat_eq s.number (get_or ss i d).number ≡ b → is_born ss s.number ≡ false → is_born ss (get_or ss i d).number ≡ true → b ≡ false
    go true f n y = absurd (false≢true (sym n ∙ ap (is_born ss) (is_that s.number (get_or ss i d).number f) ∙ y))
    go false f n y = refl

-- no session of a number that no one has
not_live : (ss : List Session) (n : ℕ) → is_born ss n ≡ false → is_live ss n ≡ false
not_live [] n e = refl
not_live (s ∷ ss) n e = go (nat_eq s.number n) e (λ f. not_live ss n f)
  where
    go : (b : Bool) → b || is_born ss n ≡ false → (is_born ss n ≡ false → is_live ss n ≡ false) → (b && not s.released) || is_live ss n ≡ false
    go true f i = absurd (false≢true (sym f))
    go false f i = i f

-- the session that stands at a place is the one of its number
pub session_at : (ss : List Session) (i n : ℕ) (d : Session) → are_numbered ss ≡ true → i < length ss → (get_or ss i d).number ≡ n → session_of ss n ≡ Some (get_or ss i d)
session_at [] i n d h l e = absurd (omega arith)
session_at (s ∷ ss) zero n d h l e = ap (λ b. if b then Some s else session_of ss n) (itself s.number n e)
session_at (s ∷ ss) (suc i) n d h l e =
    ap (λ b. if b then Some s else session_of ss n) (subst (λ m. nat_eq s.number m ≡ false) e (first_differs s ss i d h (omega arith)))
    ∙ session_at ss i n d (and_right (not (is_born ss s.number)) (are_numbered ss) h) (omega arith) e

-- it was not released where a session of its number lives
pub live_at : (ss : List Session) (i n : ℕ) (d : Session) → are_numbered ss ≡ true → i < length ss → (get_or ss i d).number ≡ n → is_live ss n ≡ true → (get_or ss i d).released ≡ false
live_at [] i n d h l e v = absurd (omega arith)
live_at (s ∷ ss) zero n d h l e v =
    let none = is_false (is_born ss s.number) (and_left (not (is_born ss s.number)) (are_numbered ss) h) in
    go (nat_eq s.number n) s.released v (not_live ss n (subst (λ m. is_born ss m ≡ false) e none))
  where
    go : (b r : Bool) → (b && not r) || is_live ss n ≡ true → is_live ss n ≡ false → r ≡ false
    go true true v n = absurd (false≢true (sym n ∙ v))
    go true false v n = refl
    go false true v n = absurd (false≢true (sym n ∙ v))
    go false false v n = refl
live_at (s ∷ ss) (suc i) n d h l e v =
    let other = subst (λ m. nat_eq s.number m ≡ false) e (first_differs s ss i d h (omega arith)) in
    live_at ss i n d (and_right (not (is_born ss s.number)) (are_numbered ss) h) (omega arith) e (sym (ap (λ b. (b && not s.released) || is_live ss n) other) ∙ v)

-- no session has a number
unchanged : (f : Session → Session) (ss : List Session) (n : ℕ) → is_born ss n ≡ false → changed n f ss ≡ ss
unchanged f [] n e = refl
unchanged f (s ∷ ss) n e = go (nat_eq s.number n) e (λ g. unchanged f ss n g)
  where
    go : (b : Bool) → b || is_born ss n ≡ false → (is_born ss n ≡ false → changed n f ss ≡ ss) → (if b then f s else s) ∷ changed n f ss ≡ s ∷ ss
    go true g i = absurd (false≢true (sym g))
    go false g i = ap (λ l. s ∷ l) (i g)

-- changing the session of a number is changing who stands at its place
pub changed_at : (f : Session → Session) (ss : List Session) (i n : ℕ) (d : Session) → are_numbered ss ≡ true → i < length ss → (get_or ss i d).number ≡ n
    → set ss i (f (get_or ss i d)) ≡ changed n f ss
changed_at f [] i n d h l e = absurd (omega arith)
changed_at f (s ∷ ss) zero n d h l e =
    let none = is_false (is_born ss s.number) (and_left (not (is_born ss s.number)) (are_numbered ss) h) in
    ap (λ l. f s ∷ l) (sym (unchanged f ss n (subst (λ m. is_born ss m ≡ false) e none)))
    ∙ ap (λ b. (if b then f s else s) ∷ changed n f ss) (sym (itself s.number n e))
changed_at f (s ∷ ss) (suc i) n d h l e =
    let other = subst (λ m. nat_eq s.number m ≡ false) e (first_differs s ss i d h (omega arith)) in
    ap (λ l. s ∷ l) (changed_at f ss i n d (and_right (not (is_born ss s.number)) (are_numbered ss) h) (omega arith) e)
    ∙ ap (λ b. (if b then f s else s) ∷ changed n f ss) (sym other)

-- ---- a binding

-- a session takes the place of one with its number and its key
rows_same : (ss : List Session) (i n : ℕ) (t d : Session) → t.number ≡ (get_or ss i d).number → key_of t n ≡ key_of (get_or ss i d) n
    → rows_of (set ss i t) n ≡ rows_of ss n
rows_same [] i n t d e k = refl
rows_same (s ∷ ss) zero n t d e k =
    ap (λ m. cons_option (option_map (row_of m) (key_of t n)) (rows_of ss n)) e ∙ ap (λ o. cons_option (option_map (row_of s.number) o) (rows_of ss n)) k
rows_same (s ∷ ss) (suc i) n t d e k = ap (cons_option (option_map (row_of s.number) (key_of s n))) (rows_same ss i n t d e k)

-- how many rows stand before that of who stands at a place
abbrev pub above : List Session → ℕ → ℕ → ℕ
above [] i n = 0
above (s ∷ ss) zero n = 0
above (s ∷ ss) (suc i) n = if is_some (key_of s n) then suc (above ss i n) else above ss i n

-- a session with a key takes the place of one without
rows_more : (ss : List Session) (i n : ℕ) (t d : Session) (k : List Root) → i < length ss → key_of (get_or ss i d) n ≡ None → key_of t n ≡ Some k
    → rows_of (set ss i t) n ≡ insert (rows_of ss n) (above ss i n) (row_of t.number k)
rows_more [] i n t d k l e f = absurd (omega arith)
rows_more (s ∷ ss) zero n t d k l e f =
    ap (λ o. cons_option (option_map (row_of t.number) o) (rows_of ss n)) f
    ∙ ap (λ o. row_of t.number k ∷ cons_option (option_map (row_of s.number) o) (rows_of ss n)) (sym e)
rows_more (s ∷ ss) (suc i) n t d k l e f =
    ap (cons_option (option_map (row_of s.number) (key_of s n))) (rows_more ss i n t d k (omega arith) e f) ∙ go (key_of s n)
  where
    go : (o : Option (List Root)) → cons_option (option_map (row_of s.number) o) (insert (rows_of ss n) (above ss i n) (row_of t.number k))
        ≡ insert (cons_option (option_map (row_of s.number) o) (rows_of ss n)) (if is_some o then suc (above ss i n) else above ss i n) (row_of t.number k)
    go None = refl
    go (Some j) = refl

-- the keys mirror the sessions once a variable that was not written is bound
pub mirrored_bind : (sets new : List SetKeys) (ss : List Session) (i v : ℕ) (x : Root) (d : Session) → Mirrors sets ss → i < length ss
    → are_sets (get_or ss i d).sets ≡ true → value_of (get_or ss i d).written v ≡ None
    → ((n : ℕ) → keys_of new n ≡ with_key (completed (get_or ss i d) v x) (get_or ss i d).number n (keys_of sets n))
    → Mirrors new (set ss i (if_bound (reply_by (has_key sets (completed (get_or ss i d) v x))) (write v x (get_or ss i d)) (get_or ss i d)))
mirrored_bind sets new ss i v x d m l h e keys = go (completed s v x) (completes s v x h e) keys
  where
    s : Session
    s = get_or ss i d

    held_by : (t : ℕ) (k : SetKey) → session_with k.values (keys_of sets k.set) ≡ Some t → (n : ℕ) (b : Bool) → nat_eq k.set n ≡ b
        → (if b then with_row (row_of s.number k.values) (keys_of sets n) else keys_of sets n) ≡ keys_of sets n
    held_by t k f n true g =
        held_stays s.number t k.values (keys_of sets n) (keys_rise sets n) (ap (λ a. session_with k.values (keys_of sets a)) (sym (is_that k.set n g)) ∙ f)
    held_by t k f n false g = refl

    free : (k : SetKey) → Completes s v x (Some k) → session_with k.values (keys_of sets k.set) ≡ None → (n : ℕ) (b : Bool) → nat_eq k.set n ≡ b
        → keys_of new n ≡ (if b then with_row (row_of s.number k.values) (keys_of sets n) else keys_of sets n) → AreAlike (keys_of new n) (rows_of (set ss i (write v x s)) n)
    free k c f n true g a =
        let here = is_that k.set n g in
        let none = ap (λ b. session_with k.values (keys_of sets b)) (sym here) ∙ f in
        let comes = free_comes s.number k.values (keys_of sets n) (keys_rise sets n) none in
        let before = ap (key_of s) (sym here) ∙ c.before in
        let after = ap (key_of (write v x s)) (sym here) ∙ c.after in
        let row = row_of s.number k.values in
        let j = place_of (searched k.values (keys_of sets n)) in
        alike_by (insert (keys_of sets n) j row) (insert (rows_of ss n) (above ss i n) row) (keys_of new n) (rows_of (set ss i (write v x s)) n)
        (alike_more j (above ss i n) (keys_of sets n) (rows_of ss n) row none (m.alike n))
        (a ∙ comes) (rows_more ss i n (write v x s) d k.values l before after)
    free k c f n false g a =
        alike_by (keys_of sets n) (rows_of ss n) (keys_of new n) (rows_of (set ss i (write v x s)) n) (m.alike n) a (rows_same ss i n (write v x s) d refl (c.others n g))

    by : (k : SetKey) → Completes s v x (Some k) → ((n : ℕ) → keys_of new n ≡ with_key (Some k) s.number n (keys_of sets n)) → (o : Option ℕ)
        → session_with k.values (keys_of sets k.set) ≡ o → Mirrors new (set ss i (if_bound (reply_by o) (write v x s) s))
    by k c a (Some t) f = record {
      alike = λ n. alike_by (keys_of sets n) (rows_of ss n) (keys_of new n) (rows_of (set ss i s) n) (m.alike n)
          (a n ∙ held_by t k f n (nat_eq k.set n) refl) (ap (λ r. rows_of r n) (set-get_or ss i d));
    }
    by k c a None f = record { alike = λ n. free k c f n (nat_eq k.set n) refl (a n) }

    go : (k : Option SetKey) → Completes s v x k → ((n : ℕ) → keys_of new n ≡ with_key k s.number n (keys_of sets n))
        → Mirrors new (set ss i (if_bound (reply_by (has_key sets k)) (write v x s) s))
    go None c a = record {
      alike = λ n. alike_by (keys_of sets n) (rows_of ss n) (keys_of new n) (rows_of (set ss i (write v x s)) n) (m.alike n) (a n) (rows_same ss i n (write v x s) d refl (c n));
    }
    go (Some k) c a = by k c a (session_with k.values (keys_of sets k.set)) refl

-- what a session holds among the keys it holds among the sessions
pub held_by_key : (sets : List SetKeys) (ss : List Session) (k : Option SetKey) → Mirrors sets ss
    → has_key sets k ≡ option_and_then (λ (c : SetKey). holder ss c.set c.values) k
held_by_key sets ss None m = refl
held_by_key sets ss (Some k) m = (m.alike k.set).same k.values

-- the reply to a variable that was not written
pub reply_unwritten : (sets : List SetKeys) (ss : List Session) (i n v : ℕ) (x : Root) (d : Session) → Mirrors sets ss → are_numbered ss ≡ true
    → i < length ss → (get_or ss i d).number ≡ n → value_of (get_or ss i d).written v ≡ None
    → reply_to ss n v x ≡ Some (reply_by (has_key sets (completed (get_or ss i d) v x)))
reply_unwritten sets ss i n v x d m h l e u =
    ap (option_map (λ (s : Session). reply_of ss s v x)) (session_at ss i n d h l e)
    ∙ ap (λ o. Some (if is_some o then reply.Fixed else reply_by (held ss (get_or ss i d) v x))) u
    ∙ ap (λ o. Some (reply_by o)) (sym (held_by_key sets ss (completed (get_or ss i d) v x) m))

-- the reply to one that was written
pub reply_written : (ss : List Session) (i n v : ℕ) (x : Root) (d : Session) → are_numbered ss ≡ true → i < length ss → (get_or ss i d).number ≡ n
    → is_some (value_of (get_or ss i d).written v) ≡ true → reply_to ss n v x ≡ Some reply.Fixed
reply_written ss i n v x d h l e u =
    ap (option_map (λ (s : Session). reply_of ss s v x)) (session_at ss i n d h l e)
    ∙ ap (λ b. Some (if b then reply.Fixed else reply_by (held ss (get_or ss i d) v x))) u

-- what a call makes of a session and the keys that binds a variable which was not written, or fails
pub record IsBound {E : Type 0} (sets new : List SetKeys) (w : Written) (s t : Session) (r : Result BindReply E) : Type 0 where
  pub reply : IfOk r (λ a. a ≡ reply_by (has_key sets (completed s w.variable w.value)))
  pub ok : IfOk r (λ a. t ≡ if_bound a (write w.variable w.value s) s)
  pub err : OnErr r (t ≡ s)
  pub keys : (n : ℕ) → keys_of new n ≡ (if is_ok r then with_key (completed s w.variable w.value) s.number n (keys_of sets n) else keys_of sets n)

-- the keys mirror the sessions still
pub mirrored_bound : {E : Type 0} (sets new : List SetKeys) (ss : List Session) (i : ℕ) (w : Written) (d t : Session) (r : Result BindReply E)
    → Mirrors sets ss → i < length ss → are_sets (get_or ss i d).sets ≡ true → value_of (get_or ss i d).written w.variable ≡ None
    → IsBound sets new w (get_or ss i d) t r → Mirrors new (set ss i t)
mirrored_bound sets new ss i w d t (Ok a) m l h e b =
    let s = get_or ss i d in
    subst (λ u. Mirrors new (set ss i u)) (sym (b.ok ∙ ap (λ c. if_bound c (write w.variable w.value s) s) b.reply))
    (mirrored_bind sets new ss i w.variable w.value d m l h e b.keys)
mirrored_bound sets new ss i w d t (Err f) m l h e b = record {
  alike = λ n. alike_by (keys_of sets n) (rows_of ss n) (keys_of new n) (rows_of (set ss i t) n) (m.alike n) (b.keys n)
      (ap (λ u. rows_of (set ss i u) n) b.err ∙ ap (λ l. rows_of l n) (set-get_or ss i d));
}

-- the session keeps its number
pub bound_number : {E : Type 0} (sets new : List SetKeys) (w : Written) (s t : Session) (r : Result BindReply E) → IsBound sets new w s t r → t.number ≡ s.number
bound_number sets new w s t (Ok a) b = ap (λ (u : Session). u.number) b.ok ∙ go a
  where
    go : (a : BindReply) → (if_bound a (write w.variable w.value s) s).number ≡ s.number
    go reply.Bound = refl
    go (reply.Held h) = refl
    go reply.Fixed = refl
bound_number sets new w s t (Err f) b = ap (λ (u : Session). u.number) b.err

-- and its sets
pub bound_sets : {E : Type 0} (sets new : List SetKeys) (w : Written) (s t : Session) (r : Result BindReply E) → IsBound sets new w s t r → t.sets ≡ s.sets
bound_sets sets new w s t (Ok a) b = ap (λ (u : Session). u.sets) b.ok ∙ go a
  where
    go : (a : BindReply) → (if_bound a (write w.variable w.value s) s).sets ≡ s.sets
    go reply.Bound = refl
    go (reply.Held h) = refl
    go reply.Fixed = refl
bound_sets sets new w s t (Err f) b = ap (λ (u : Session). u.sets) b.err

-- the sessions once one was bound, or not
pub bound_sessions : (ss : List Session) (i n : ℕ) (w : Written) (d t : Session) (a : BindReply) → are_numbered ss ≡ true → i < length ss → (get_or ss i d).number ≡ n
    → t ≡ if_bound a (write w.variable w.value (get_or ss i d)) (get_or ss i d) → set ss i t ≡ if_bound a (changed n (write w.variable w.value) ss) ss
bound_sessions ss i n w d t a h l e f = ap (set ss i) f ∙ go a
  where
    go : (a : BindReply) → set ss i (if_bound a (write w.variable w.value (get_or ss i d)) (get_or ss i d)) ≡ if_bound a (changed n (write w.variable w.value) ss) ss
    go reply.Bound = changed_at (write w.variable w.value) ss i n d h l e
    go (reply.Held t) = set-get_or ss i d
    go reply.Fixed = set-get_or ss i d

-- ---- a release

-- a session that is released has no row
rows_freed : (ss : List Session) (s n : ℕ) → rows_of (changed s freed ss) n ≡ filter (is_of_other s) (rows_of ss n)
rows_freed [] s n = refl
rows_freed (t ∷ ts) s n = go (nat_eq t.number s) refl (key_of t n) refl (rows_freed ts s n)
  where
    go : (b : Bool) → nat_eq t.number s ≡ b → (o : Option (List Root)) → key_of t n ≡ o → rows_of (changed s freed ts) n ≡ filter (is_of_other s) (rows_of ts n)
        → rows_of ((if b then freed t else t) ∷ changed s freed ts) n ≡ filter (is_of_other s) (cons_option (option_map (row_of t.number) o) (rows_of ts n))
    go true f None k i = i
    go true f (Some j) k i = i ∙ sym (ap (λ b. if not b then row_of t.number j ∷ filter (is_of_other s) (rows_of ts n) else filter (is_of_other s) (rows_of ts n)) f)
    go false f None k i = ap (λ o. cons_option (option_map (row_of t.number) o) (rows_of (changed s freed ts) n)) k ∙ i
    go false f (Some j) k i =
        ap (λ o. cons_option (option_map (row_of t.number) o) (rows_of (changed s freed ts) n)) k
        ∙ ap (λ l. row_of t.number j ∷ l) i
        ∙ sym (ap (λ b. if not b then row_of t.number j ∷ filter (is_of_other s) (rows_of ts n) else filter (is_of_other s) (rows_of ts n)) f)

-- the keys mirror the sessions once those of one are taken out
pub mirrored_release : (sets new : List SetKeys) (ss : List Session) (s : ℕ) → Mirrors sets ss
    → ((n : ℕ) → keys_of new n ≡ filter (is_of_other s) (keys_of sets n)) → Mirrors new (changed s freed ss)
mirrored_release sets new ss s m keys = record {
  alike = λ n. alike_by (filter (is_of_other s) (keys_of sets n)) (filter (is_of_other s) (rows_of ss n)) (keys_of new n) (rows_of (changed s freed ss) n)
      (alike_kept s (keys_of sets n) (rows_of ss n) (rising_apart (keys_of sets n) (keys_rise sets n)) (m.alike n)) (keys n) (rows_freed ss s n);
}
