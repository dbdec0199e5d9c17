-- Which session has a key, once a row is put among the rising ones, or those of a session are taken out.
use Rattle.std.proofs.Common.{◌≡◌, ◌≤◌, ◌<◌, ℕ, zero, suc, ◌+◌, Bool, true, false, not, ◌&&◌, if◌then◌else◌, cond, nat_eq, List, [], ◌∷◌, length, insert, filter, get_or, Option, Some, None, Result, Ok, Err, Ordering, Less, Equal, Greater, refl, sym, ap, subst, ◌∙◌, arith}
use Rattle.std.specs.Ordering.{is_lt, is_eq, ordering_reverse, match_ordering, eq_by_cmp}
use Rattle.std.specs.Option.{is_none}
use Rattle.std.specs.Cmp.{IsTotalOrder, IsEquivalence}
use Rattle.std.proofs.lemmas.Bool.{false≢true}
use Rattle.std.proofs.lemmas.Cmp.{eq_by_cmp_equiv, alike_right}
use Rattle.jolie_trees.specs.declared.root.Root.{Root}
use Rattle.correlation.specs.Order.{are_equal, key_order}
use Rattle.correlation.specs.Places.{starts_after, is_rising, behind, put, searched, with_row}
use Rattle.correlation.specs.Rows.{session_with}
use Rattle.correlation.specs.Index.{are_apart, is_of_other, row_of}
use Rattle.correlation.specs.declared.key.KeyRow.{KeyRow}
use Rattle.correlation.proofs.Orders.{keys_total, keys_tie}
use Rattle.correlation.proofs.Halving.{and_left, and_right, is_less, first_is_less}

-- ---- equal keys

-- equal keys are an equivalence
ties : IsEquivalence (eq_by_cmp key_order)
ties = eq_by_cmp_equiv keys_total

-- what equals the first of two keys that differ differs from the second
pub apart : (x r v : List Root) → are_equal x v ≡ true → are_equal x r ≡ false → are_equal r v ≡ false
apart x r v h n = keys_tie r v ∙ ties.symm r v ∙ sym (ties.congr x v r (sym (keys_tie x v) ∙ h)) ∙ sym (keys_tie x r) ∙ n

-- the order of a key that equals another
pub alike : (x v s : List Root) → are_equal x v ≡ true → key_order x s ≡ key_order v s
alike x v s h = keys_total.congr x v s (equal (key_order x v) (sym (keys_tie x v) ∙ h))
  where
    equal : (o : Ordering) → is_eq o ≡ true → o ≡ Equal
    equal Less e = absurd (false≢true e)
    equal Equal e = refl
    equal Greater e = absurd (false≢true e)

-- equal both ways
pub equal_symm : (a b : List Root) → are_equal a b ≡ are_equal b a
equal_symm a b = keys_tie a b ∙ ties.symm a b ∙ sym (keys_tie b a)

-- what two equal keys are equal to
pub equal_alike : (k v r : List Root) → are_equal k v ≡ true → are_equal r k ≡ are_equal r v
equal_alike k v r e = keys_tie r k ∙ ties.symm r k ∙ ties.congr k v r (sym (keys_tie k v) ∙ e) ∙ ties.symm v r ∙ sym (keys_tie r v)

-- a row of another key is passed
pub skipped : (v : List Root) (r : KeyRow) (rs : List KeyRow) → are_equal r.key v ≡ false → session_with v (r ∷ rs) ≡ session_with v rs
skipped v r rs e = ap (λ b. if b then Some r.session else session_with v rs) e

-- a row of the key is found
pub met : (v : List Root) (r : KeyRow) (rs : List KeyRow) → are_equal r.key v ≡ true → session_with v (r ∷ rs) ≡ Some r.session
met v r rs e = ap (λ b. if b then Some r.session else session_with v rs) e

-- ---- finding

-- what comes after a later key comes later
comes_later : (v : List Root) (r : KeyRow) (rs : List KeyRow) → starts_after r.key rs ≡ true → key_order v r.key ≡ Less → starts_after v rs ≡ true
comes_later v r [] a l = refl
comes_later v r (s ∷ ss) a l = ap is_lt (keys_total.trans v r.key s.key l (is_less (key_order r.key s.key) a))

-- where the first key comes later, no session has the values
pub none_later : (v : List Root) (rs : List KeyRow) → starts_after v rs ≡ true → is_rising rs ≡ true → session_with v rs ≡ None
none_later v [] a h = refl
none_later v (r ∷ rs) a h =
    let less = is_less (key_order v r.key) a in
    let differs = keys_tie r.key v ∙ ap is_eq (keys_total.antisymm r.key v ∙ ap ordering_reverse less) in
    skipped v r rs differs ∙ none_later v rs (comes_later v r rs (and_left (starts_after r.key rs) (is_rising rs) h) less) (and_right (starts_after r.key rs) (is_rising rs) h)

-- the session at a place
abbrev pub found : Result ℕ ℕ → List KeyRow → KeyRow → Option ℕ
found (Ok k) rs d = Some (get_or rs k d).session
found (Err k) rs d = None

found_behind : (s : Result ℕ ℕ) (r : KeyRow) (rs : List KeyRow) (d : KeyRow) → found (behind s) (r ∷ rs) d ≡ found s rs d
found_behind (Ok k) r rs d = refl
found_behind (Err k) r rs d = refl

-- the session where values stand has them
pub found_session : (v : List Root) (rs : List KeyRow) (d : KeyRow) → is_rising rs ≡ true → found (searched v rs) rs d ≡ session_with v rs
found_session v [] d h = refl
found_session v (r ∷ rs) d h = go (key_order r.key v) refl (found_session v rs d (and_right (starts_after r.key rs) (is_rising rs) h))
  where
    go : (o : Ordering) → key_order r.key v ≡ o → found (searched v rs) rs d ≡ session_with v rs
        → found (match_ordering o (behind (searched v rs)) (Ok 0) (Err 0)) (r ∷ rs) d ≡ session_with v (r ∷ rs)
    go Less e i = found_behind (searched v rs) r rs d ∙ i ∙ sym (skipped v r rs (keys_tie r.key v ∙ ap is_eq e))
    go Equal e i = sym (met v r rs (keys_tie r.key v ∙ ap is_eq e))
    go Greater e i = sym (none_later v (r ∷ rs) (ap is_lt (keys_total.antisymm v r.key ∙ ap ordering_reverse e)) h)

-- where values would stand no session has them
pub none_found : (v : List Root) (j : ℕ) (rs : List KeyRow) → is_rising rs ≡ true → Err j ≡ searched v rs → None ≡ session_with v rs
none_found v j [] h e = refl
none_found v j (r ∷ rs) h e = ap (λ s. found s (r ∷ rs) r) e ∙ found_session v (r ∷ rs) r h

-- ---- putting

-- where no row of some rows has a key, neither has the first
pub none_of_rest : (k : List Root) (x : KeyRow) (xs : List KeyRow) → session_with k (x ∷ xs) ≡ None → are_equal x.key k ≡ false
none_of_rest k x xs e = go (are_equal x.key k) e
  where
    go : (b : Bool) → (if b then Some x.session else session_with k xs) ≡ None → b ≡ false
    go true n = absurd (false≢true (ap is_none n))
    go false n = refl

-- a key that no row has comes in
pub inserted : (v : List Root) (j : ℕ) (rs : List KeyRow) (r : KeyRow) → session_with r.key rs ≡ None
    → session_with v (insert rs j r) ≡ (if are_equal r.key v then Some r.session else session_with v rs)
inserted v zero rs r n = refl
inserted v (suc j) [] r n = refl
inserted v (suc j) (x ∷ xs) r n =
    let differs = none_of_rest r.key x xs n in
    go (are_equal x.key v) refl differs (inserted v j xs r (sym (skipped r.key x xs differs) ∙ n))
  where
    go : (b : Bool) → are_equal x.key v ≡ b → are_equal x.key r.key ≡ false
        → session_with v (insert xs j r) ≡ (if are_equal r.key v then Some r.session else session_with v xs)
        → (if b then Some x.session else session_with v (insert xs j r))
        ≡ (if are_equal r.key v then Some r.session else (if b then Some x.session else session_with v xs))
    go true e d i = sym (ap (λ b. if b then Some r.session else Some x.session) (apart x.key r.key v e d))
    go false e d i = i

put_behind : (s : Result ℕ ℕ) (r x : KeyRow) (xs : List KeyRow) → put (behind s) r (x ∷ xs) ≡ x ∷ put s r xs
put_behind (Ok k) r x xs = refl
put_behind (Err k) r x xs = refl

after_put : (k : List Root) (s : Result ℕ ℕ) (r : KeyRow) (rs : List KeyRow) → is_lt (key_order k r.key) ≡ true
    → starts_after k rs ≡ true → starts_after k (put s r rs) ≡ true
after_put k (Ok j) r rs l a = a
after_put k (Err zero) r rs l a = l
after_put k (Err (suc j)) r [] l a = l
after_put k (Err (suc j)) r (x ∷ xs) l a = a

-- with one more the keys rise still
rising_put : (r : KeyRow) (rs : List KeyRow) → is_rising rs ≡ true → is_rising (put (searched r.key rs) r rs) ≡ true
rising_put r [] h = refl
rising_put r (x ∷ xs) h = go (key_order x.key r.key) refl (rising_put r xs (and_right (starts_after x.key xs) (is_rising xs) h))
  where
    go : (o : Ordering) → key_order x.key r.key ≡ o → is_rising (put (searched r.key xs) r xs) ≡ true
        → is_rising (put (match_ordering o (behind (searched r.key xs)) (Ok 0) (Err 0)) r (x ∷ xs)) ≡ true
    go Less e i =
        ap is_rising (put_behind (searched r.key xs) r x xs)
        ∙ ap (λ b. b && is_rising (put (searched r.key xs) r xs)) (after_put x.key (searched r.key xs) r xs (ap is_lt e) (and_left (starts_after x.key xs) (is_rising xs) h))
        ∙ i
    go Equal e i = h
    go Greater e i =
        ap (λ b. b && is_rising (x ∷ xs)) (ap is_lt (keys_total.antisymm r.key x.key ∙ ap ordering_reverse e)) ∙ h

-- a row at the place where its key would stand, or none
pub rising_insert : (b : Bool) (j : ℕ) (r : KeyRow) (rs new : List KeyRow) → is_rising rs ≡ true → Err j ≡ searched r.key rs
    → new ≡ (if b then insert rs j r else rs) → is_rising new ≡ true
rising_insert true j r rs new h e i = ap is_rising i ∙ ap (λ s. is_rising (put s r rs)) e ∙ rising_put r rs h
rising_insert false j r rs new h e i = ap is_rising i ∙ h

-- where a session has the key the rows stay
pub held_stays : (s t : ℕ) (k : List Root) (rs : List KeyRow) → is_rising rs ≡ true → session_with k rs ≡ Some t → with_row (row_of s k) rs ≡ rs
held_stays s t k [] h e = absurd (false≢true (sym (ap is_none e)))
held_stays s t k (r ∷ rs) h e = go (searched k (r ∷ rs)) (found_session k (r ∷ rs) r h ∙ e)
  where
    go : (p : Result ℕ ℕ) → found p (r ∷ rs) r ≡ Some t → put p (row_of s k) (r ∷ rs) ≡ r ∷ rs
    go (Ok j) f = refl
    go (Err j) f = absurd (false≢true (sym (ap is_none f)))

-- the place of a key
abbrev pub place_of : Result ℕ ℕ → ℕ
place_of (Ok k) = k
place_of (Err k) = k

-- where no session has the key its row comes in
pub free_comes : (s : ℕ) (k : List Root) (rs : List KeyRow) → is_rising rs ≡ true → session_with k rs ≡ None
    → with_row (row_of s k) rs ≡ insert rs (place_of (searched k rs)) (row_of s k)
free_comes s k [] h e = refl
free_comes s k (r ∷ rs) h e = go (searched k (r ∷ rs)) (found_session k (r ∷ rs) r h ∙ e)
  where
    go : (p : Result ℕ ℕ) → found p (r ∷ rs) r ≡ None → put p (row_of s k) (r ∷ rs) ≡ insert (r ∷ rs) (place_of p) (row_of s k)
    go (Ok j) f = absurd (false≢true (ap is_none f))
    go (Err j) f = refl

-- ---- taking out

-- what is left comes after what all came after
starts_kept : (p : KeyRow → Bool) (k : List Root) (rs : List KeyRow) → starts_after k rs ≡ true → is_rising rs ≡ true → starts_after k (filter p rs) ≡ true
starts_kept p k [] a h = refl
starts_kept p k (r ∷ rs) a h =
    let later = comes_later k r rs (and_left (starts_after r.key rs) (is_rising rs) h) (is_less (key_order k r.key) a) in
    go (p r) (starts_kept p k rs later (and_right (starts_after r.key rs) (is_rising rs) h))
  where
    go : (b : Bool) → starts_after k (filter p rs) ≡ true → starts_after k (cond b (r ∷ filter p rs) (filter p rs)) ≡ true
    go true i = a
    go false i = i

-- what is left of rising keys rises
pub rising_kept : (p : KeyRow → Bool) (rs : List KeyRow) → is_rising rs ≡ true → is_rising (filter p rs) ≡ true
rising_kept p [] h = refl
rising_kept p (r ∷ rs) h =
    let rest = and_right (starts_after r.key rs) (is_rising rs) h in
    go (p r) (starts_kept p r.key rs (and_left (starts_after r.key rs) (is_rising rs) h) rest) (rising_kept p rs rest)
  where
    go : (b : Bool) → starts_after r.key (filter p rs) ≡ true → is_rising (filter p rs) ≡ true → is_rising (cond b (r ∷ filter p rs) (filter p rs)) ≡ true
    go true a i = ap (λ s. s && is_rising (filter p rs)) a ∙ i
    go false a i = i

-- rising keys are apart
pub rising_apart : (rs : List KeyRow) → is_rising rs ≡ true → are_apart rs ≡ true
rising_apart [] h = refl
rising_apart (r ∷ rs) h =
    let later = and_left (starts_after r.key rs) (is_rising rs) h in
    let rest = and_right (starts_after r.key rs) (is_rising rs) h in
    ap (λ o. is_none o && are_apart rs) (none_later r.key rs later rest) ∙ rising_apart rs rest

-- equal keys are of one session
session_alike : (k v : List Root) (rs : List KeyRow) → are_equal k v ≡ true → session_with k rs ≡ session_with v rs
session_alike k v [] e = refl
session_alike k v (r ∷ rs) e =
    ap (λ b. if b then Some r.session else session_with k rs) (equal_alike k v r.key e)
    ∙ ap (λ o. if are_equal r.key v then Some r.session else o) (session_alike k v rs e)

-- a session, unless it has a number
abbrev pub unless : ℕ → Option ℕ → Option ℕ
unless s None = None
unless s (Some t) = if nat_eq t s then None else Some t

none_is : (o : Option ℕ) → is_none o ≡ true → o ≡ None
none_is None e = refl
none_is (Some t) e = absurd (false≢true e)

-- without the keys of a session, what is found is no key of it
pub session_kept : (v : List Root) (s : ℕ) (rs : List KeyRow) → are_apart rs ≡ true
    → session_with v (filter (is_of_other s) rs) ≡ unless s (session_with v rs)
session_kept v s [] h = refl
session_kept v s (r ∷ rs) h =
    go (nat_eq r.session s) refl (are_equal r.key v) refl (session_kept v s rs (and_right (is_none (session_with r.key rs)) (are_apart rs) h))
  where
    go : (b : Bool) → nat_eq r.session s ≡ b → (c : Bool) → are_equal r.key v ≡ c
        → session_with v (filter (is_of_other s) rs) ≡ unless s (session_with v rs)
        → session_with v (cond (not b) (r ∷ filter (is_of_other s) rs) (filter (is_of_other s) rs))
        ≡ unless s (if c then Some r.session else session_with v rs)
    go true e true f i =
        let none = none_is (session_with r.key rs) (and_left (is_none (session_with r.key rs)) (are_apart rs) h) in
        i ∙ ap (unless s) (sym (session_alike r.key v rs f) ∙ none) ∙ sym (ap (λ b. if b then None else Some r.session) e)
    go true e false f i = i
    go false e true f i = met v r (filter (is_of_other s) rs) f ∙ sym (ap (λ b. if b then None else Some r.session) e)
    go false e false f i = skipped v r (filter (is_of_other s) rs) f ∙ i

-- keys that are apart stay so
pub apart_kept : (s : ℕ) (rs : List KeyRow) → are_apart rs ≡ true → are_apart (filter (is_of_other s) rs) ≡ true
apart_kept s [] h = refl
apart_kept s (r ∷ rs) h =
    let rest = and_right (is_none (session_with r.key rs)) (are_apart rs) h in
    let none = none_is (session_with r.key rs) (and_left (is_none (session_with r.key rs)) (are_apart rs) h) in
    go (nat_eq r.session s) (session_kept r.key s rs rest ∙ ap (unless s) none) (apart_kept s rs rest)
  where
    go : (b : Bool) → session_with r.key (filter (is_of_other s) rs) ≡ None → are_apart (filter (is_of_other s) rs) ≡ true
        → are_apart (cond (not b) (r ∷ filter (is_of_other s) rs) (filter (is_of_other s) rs)) ≡ true
    go true n i = i
    go false n i = ap (λ o. is_none o && are_apart (filter (is_of_other s) rs)) n ∙ i
