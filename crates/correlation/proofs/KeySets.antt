-- The keys of each set, once those of one set or of a session change.
use Rattle.std.proofs.Common.{◌≡◌, ◌≤◌, ◌<◌, ◌+◌, ℕ, zero, suc, Bool, true, false, if◌then◌else◌, nat_eq, List, [], ◌∷◌, ◌++◌, Some, length, filter, get_or, set, take, drop, refl, sym, ap, subst, ◌∙◌, arith}
use Rattle.std.proofs.lemmas.Bool.{false≢true}
use Rattle.std.proofs.lemmas.Bool.Decides.{nat_tests}
use Rattle.std.proofs.lemmas.List.{drop_more}
use Rattle.correlation.specs.Index.{has_set, is_of_other, keys_of, row_of, with_key}
use Rattle.correlation.specs.Places.{is_rising, with_row}
use Rattle.correlation.specs.Sessions.{SetKey}
use Rattle.correlation.specs.declared.key.KeyRow.{KeyRow}
use Rattle.correlation.specs.declared.set_keys.SetKeys.{SetKeys}

-- a number is itself
pub itself : (m n : ℕ) → m ≡ n → nat_eq m n ≡ true
itself m n e = grind (arith, nat_tests)

-- a number that is another
pub is_that : (m n : ℕ) → nat_eq m n ≡ true → m ≡ n
is_that m n e = grind (arith, nat_tests)

-- ---- one set

-- a set of another number is passed
pub keys_passed : (n : ℕ) (s : SetKeys) (ss : List SetKeys) → nat_eq s.set n ≡ false → keys_of (s ∷ ss) n ≡ keys_of ss n
keys_passed n s ss e = ap (λ b. if b then s.keys.rows.items else keys_of ss n) e

-- a set of the number is met
pub keys_met : (n : ℕ) (s : SetKeys) (ss : List SetKeys) → nat_eq s.set n ≡ true → keys_of (s ∷ ss) n ≡ s.keys.rows.items
keys_met n s ss e = ap (λ b. if b then s.keys.rows.items else keys_of ss n) e

-- the keys of the set that stands at a place
pub keys_here : (sets : List SetKeys) (i n : ℕ) (s : SetKeys) → i < length sets → s ≡ get_or sets i s → s.set ≡ n
    → keys_of (drop i sets) n ≡ s.keys.rows.items
keys_here sets i n s l e m =
    ap (λ ss. keys_of ss n) (drop_more sets i s l) ∙ ap (λ t. keys_of (t ∷ drop (i + 1) sets) n) (sym e)
    ∙ keys_met n s (drop (i + 1) sets) (itself s.set n m)

-- the first set of a list is not of the number
passes : (n : ℕ) (s : SetKeys) (ss : List SetKeys) → has_set n (s ∷ ss) ≡ false → nat_eq s.set n ≡ false
passes n s ss h = go (nat_eq s.set n) h
  where
    go : (b : Bool) → (if b then true else has_set n ss) ≡ false → b ≡ false
    go true e = absurd (false≢true (sym e))
    go false e = refl

-- nor is one of the rest
passes_rest : (n : ℕ) (s : SetKeys) (ss : List SetKeys) → has_set n (s ∷ ss) ≡ false → has_set n ss ≡ false
passes_rest n s ss h = go (nat_eq s.set n) h
  where
    go : (b : Bool) → (if b then true else has_set n ss) ≡ false → has_set n ss ≡ false
    go true e = absurd (false≢true (sym e))
    go false e = e

-- one set more that is not of the number
pub passes_more : (n i : ℕ) (sets : List SetKeys) (d : SetKeys) → i < length sets → has_set n (take i sets) ≡ false → nat_eq (get_or sets i d).set n ≡ false
    → has_set n (take (suc i) sets) ≡ false
passes_more n i [] d l h e = absurd (omega arith)
passes_more n zero (s ∷ ss) d l h e = ap (λ b. if b then true else false) e
passes_more n (suc i) (s ∷ ss) d l h e =
    ap (λ b. if b then true else has_set n (take (suc i) ss)) (passes n s (take i ss) h)
    ∙ passes_more n i ss d (omega arith) (passes_rest n s (take i ss) h) e

-- the keys of the first set of a number
pub keys_at : (n i : ℕ) (sets : List SetKeys) (d : SetKeys) → i < length sets → has_set n (take i sets) ≡ false → (get_or sets i d).set ≡ n
    → keys_of sets n ≡ (get_or sets i d).keys.rows.items
keys_at n i [] d l h e = absurd (omega arith)
keys_at n zero (s ∷ ss) d l h e = keys_met n s ss (itself s.set n e)
keys_at n (suc i) (s ∷ ss) d l h e =
    keys_passed n s ss (passes n s (take i ss) h) ∙ keys_at n i ss d (omega arith) (passes_rest n s (take i ss) h) e

-- the keys of each set, once those of the first set of a number are others
pub keys_set : (n i : ℕ) (sets : List SetKeys) (x d : SetKeys) → i < length sets → has_set x.set (take i sets) ≡ false → (get_or sets i d).set ≡ x.set
    → keys_of (set sets i x) n ≡ (if nat_eq x.set n then x.keys.rows.items else keys_of sets n)
keys_set n i [] x d l h e = absurd (omega arith)
keys_set n zero (s ∷ ss) x d l h e = go (nat_eq x.set n) refl
  where
    go : (b : Bool) → nat_eq x.set n ≡ b → (if b then x.keys.rows.items else keys_of ss n) ≡ (if b then x.keys.rows.items else keys_of (s ∷ ss) n)
    go true f = refl
    go false f = sym (keys_passed n s ss (ap (λ m. nat_eq m n) e ∙ f))
keys_set n (suc i) (s ∷ ss) x d l h e =
    go (nat_eq s.set n) refl (keys_set n i ss x d (omega arith) (passes_rest x.set s (take i ss) h) e)
  where
    differs : nat_eq s.set n ≡ true → nat_eq x.set n ≡ false
    differs f = let g = passes x.set s (take i ss) h in grind (arith, nat_tests)

    go : (b : Bool) → nat_eq s.set n ≡ b → keys_of (set ss i x) n ≡ (if nat_eq x.set n then x.keys.rows.items else keys_of ss n)
        → (if b then s.keys.rows.items else keys_of (set ss i x) n)
        ≡ (if nat_eq x.set n then x.keys.rows.items else (if b then s.keys.rows.items else keys_of ss n))
    go true f i = sym (ap (λ b. if b then x.keys.rows.items else s.keys.rows.items) (differs f))
    go false f i = i

-- a key comes into its set, or none does
pub put_in : (mid old : List SetKeys) (i s : ℕ) (k : SetKey) (b : Bool) (x d : SetKeys) (n : ℕ) → i < length mid
    → has_set k.set (take i mid) ≡ false → (get_or mid i d).set ≡ k.set → ((m : ℕ) → keys_of mid m ≡ keys_of old m) → x.set ≡ k.set
    → x.keys.rows.items ≡ (if b then with_row (row_of s k.values) (get_or mid i d).keys.rows.items else (get_or mid i d).keys.rows.items)
    → keys_of (set mid i x) n ≡ (if b then with_key (Some k) s n (keys_of old n) else keys_of old n)
put_in mid old i s k b x d n l h e m f r =
    keys_set n i mid x d l (subst (λ a. has_set a (take i mid) ≡ false) (sym f) h) (e ∙ sym f)
    ∙ ap (λ a. if nat_eq a n then x.keys.rows.items else keys_of mid n) f
    ∙ go (nat_eq k.set n) refl b r
  where
    here : nat_eq k.set n ≡ true → (get_or mid i d).keys.rows.items ≡ keys_of old n
    here g = sym (keys_at k.set i mid d l h e) ∙ m k.set ∙ ap (keys_of old) (is_that k.set n g)

    go : (c : Bool) → nat_eq k.set n ≡ c → (b : Bool)
        → x.keys.rows.items ≡ (if b then with_row (row_of s k.values) (get_or mid i d).keys.rows.items else (get_or mid i d).keys.rows.items)
        → (if c then x.keys.rows.items else keys_of mid n)
        ≡ (if b then (if c then with_row (row_of s k.values) (keys_of old n) else keys_of old n) else keys_of old n)
    go true g true r = r ∙ ap (with_row (row_of s k.values)) (here g)
    go true g false r = r ∙ here g
    go false g true r = m n
    go false g false r = m n

-- a set more that has no keys
pub keys_of_more : (ss : List SetKeys) (s : SetKeys) (n : ℕ) → s.keys.rows.items ≡ [] → keys_of (ss ++ s ∷ []) n ≡ keys_of ss n
keys_of_more [] s n e = go (nat_eq s.set n)
  where
    go : (b : Bool) → (if b then s.keys.rows.items else []) ≡ []
    go true = e
    go false = refl
keys_of_more (t ∷ ts) s n e = ap (λ ks. if nat_eq t.set n then t.keys.rows.items else ks) (keys_of_more ts s n e)

-- the keys of each set rise
pub keys_rise : (sets : List SetKeys) (n : ℕ) → is_rising (keys_of sets n) ≡ true
keys_rise [] n = refl
keys_rise (s ∷ ss) n = go (nat_eq s.set n) (keys_rise ss n)
  where
    go : (b : Bool) → is_rising (keys_of ss n) ≡ true → is_rising (if b then s.keys.rows.items else keys_of ss n) ≡ true
    go true i = s.keys.rising
    go false i = i

-- ---- the keys of a session

-- the keys of session s are out of the first i sets
abbrev pub IsFreed : ℕ → ℕ → List SetKeys → List SetKeys → Type 0
IsFreed s zero old new = new ≡ old
IsFreed s (suc i) [] [] = Unit {0}
IsFreed s (suc i) [] (y ∷ ys) = ⊥
IsFreed s (suc i) (x ∷ xs) [] = ⊥
IsFreed s (suc i) (x ∷ xs) (y ∷ ys) = (y.set ≡ x.set) × (y.keys.rows.items ≡ filter (is_of_other s) x.keys.rows.items) × IsFreed s i xs ys

-- one set more
pub freed_more : (s i : ℕ) (old new : List SetKeys) (y d : SetKeys) → IsFreed s i old new → i < length new → y.set ≡ (get_or new i d).set
    → y.keys.rows.items ≡ filter (is_of_other s) (get_or new i d).keys.rows.items → IsFreed s (suc i) old (set new i y)
freed_more s i old [] y d f l e r = absurd (omega arith)
freed_more s zero old (z ∷ zs) y d f l e r = subst (λ o. IsFreed s 1 o (y ∷ zs)) f (e, r, refl)
freed_more s (suc i) [] (z ∷ zs) y d f l e r = absurd f
freed_more s (suc i) (x ∷ xs) (z ∷ zs) y d f l e r = (f.0, f.1, freed_more s i xs zs y d f.2 (omega arith) e r)

-- they are out of all
pub freed_keys : (s i n : ℕ) (old new : List SetKeys) → IsFreed s i old new → length new ≤ i → keys_of new n ≡ filter (is_of_other s) (keys_of old n)
freed_keys s zero n old [] f l = ap (λ o. filter (is_of_other s) (keys_of o n)) f
freed_keys s zero n old (y ∷ ys) f l = absurd (omega arith)
freed_keys s (suc i) n [] [] f l = refl
freed_keys s (suc i) n [] (y ∷ ys) f l = absurd f
freed_keys s (suc i) n (x ∷ xs) [] f l = absurd f
freed_keys s (suc i) n (x ∷ xs) (y ∷ ys) f l =
    ap (λ m. if nat_eq m n then y.keys.rows.items else keys_of ys n) f.0 ∙ go (nat_eq x.set n) (freed_keys s i n xs ys f.2 (omega arith))
  where
    go : (b : Bool) → keys_of ys n ≡ filter (is_of_other s) (keys_of xs n)
        → (if b then y.keys.rows.items else keys_of ys n) ≡ filter (is_of_other s) (if b then x.keys.rows.items else keys_of xs n)
    go true e = f.1
    go false e = e
