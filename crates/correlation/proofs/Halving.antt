-- What one comparison says of where values stand among rising keys, and what halving costs.
use Rattle.std.proofs.Common.{◌≡◌, ◌≤◌, ◌<◌, ℕ, zero, suc, ◌+◌, ◌-◌, ◌*◌, ◌^◌, Bool, true, false, ◌&&◌, List, [], ◌∷◌, length, take, drop, get_or, Result, Ok, Err, Ordering, Less, Equal, Greater, refl, sym, ap, subst, ◌∙◌, arith}
use Rattle.std.specs.Ordering.{is_lt, match_ordering}
use Rattle.std.specs.Cmp.{IsTotalOrder}
use Rattle.std.specs.Bool.{◌==◌}
use Rattle.std.proofs.lemmas.Bool.{false≢true}
use Rattle.std.proofs.lemmas.Bool.Decides.{nat_tests}
use Rattle.std.proofs.lemmas.Cmp.{alike_right}
use Rattle.jolie_trees.specs.declared.root.Root.{Root}
use Rattle.correlation.specs.Order.{key_order}
use Rattle.correlation.specs.Places.{starts_after, is_rising, behind, moved, searched}
use Rattle.correlation.specs.declared.key.KeyRow.{KeyRow}
use Rattle.correlation.proofs.Orders.{keys_total}

-- ---- tests

-- the first of two
pub and_left : (a b : Bool) → a && b ≡ true → a ≡ true
and_left true b e = refl
and_left false b e = absurd (false≢true e)

-- the second of two
pub and_right : (a b : Bool) → a && b ≡ true → b ≡ true
and_right true b e = e
and_right false b e = absurd (false≢true e)

-- an order that is less
pub is_less : (o : Ordering) → is_lt o ≡ true → o ≡ Less
is_less Less e = refl
is_less Equal e = absurd (false≢true e)
is_less Greater e = absurd (false≢true e)

-- ---- rising keys

-- the first of rising keys is below each further one
pub first_is_less : (r : KeyRow) (rs : List KeyRow) (j : ℕ) (d : KeyRow) → is_rising (r ∷ rs) ≡ true → j < length rs
    → key_order r.key (get_or rs j d).key ≡ Less
first_is_less r [] j d h l = absurd (omega arith)
first_is_less r (s ∷ rs) zero d h l = is_less (key_order r.key s.key) (and_left (is_lt (key_order r.key s.key)) (is_rising (s ∷ rs)) h)
first_is_less r (s ∷ rs) (suc j) d h l =
    let rest = and_right (is_lt (key_order r.key s.key)) (is_rising (s ∷ rs)) h in
    let first = is_less (key_order r.key s.key) (and_left (is_lt (key_order r.key s.key)) (is_rising (s ∷ rs)) h) in
    keys_total.trans r.key s.key (get_or rs j d).key first (first_is_less s rs j d rest (omega arith))

-- the rest of rising keys rise
pub rising_rest : (j : ℕ) (rs : List KeyRow) → is_rising rs ≡ true → is_rising (drop j rs) ≡ true
rising_rest zero rs h = h
rising_rest (suc j) [] h = h
rising_rest (suc j) (r ∷ rs) h = rising_rest j rs (and_right (starts_after r.key rs) (is_rising rs) h)

-- the first of rising keys rise
pub rising_first : (j : ℕ) (rs : List KeyRow) → is_rising rs ≡ true → is_rising (take j rs) ≡ true
rising_first zero rs h = refl
rising_first (suc j) [] h = h
rising_first (suc zero) (r ∷ rs) h = refl
rising_first (suc (suc j)) (r ∷ []) h = h
rising_first (suc (suc j)) (r ∷ s ∷ rs) h =
    let first = and_left (is_lt (key_order r.key s.key)) (is_rising (s ∷ rs)) h in
    let rest = rising_first (suc j) (s ∷ rs) (and_right (is_lt (key_order r.key s.key)) (is_rising (s ∷ rs)) h) in
    ap (λ b. b && is_rising (s ∷ take j rs)) first ∙ rest

-- ---- where values stand

-- a place behind one more
pub behind_moved : (n : ℕ) (r : Result ℕ ℕ) → behind (moved n r) ≡ moved (suc n) r
behind_moved n (Ok k) = let e : suc (n + k) ≡ suc n + k = omega arith in ap Ok e
behind_moved n (Err k) = let e : suc (n + k) ≡ suc n + k = omega arith in ap Err e

-- moved twice
pub moved_twice : (m n : ℕ) (r : Result ℕ ℕ) → moved m (moved n r) ≡ moved (m + n) r
moved_twice m n (Ok k) = let e : m + (n + k) ≡ m + n + k = omega arith in ap Ok e
moved_twice m n (Err k) = let e : m + (n + k) ≡ m + n + k = omega arith in ap Err e

-- the step past a key that is less
pub past : (k : List Root) (r : KeyRow) (rs : List KeyRow) → key_order r.key k ≡ Less → searched k (r ∷ rs) ≡ behind (searched k rs)
past k r rs e = ap (λ o. match_ordering o (behind (searched k rs)) (Ok 0) (Err 0)) e

-- a key that is less stands before the values, with all before it
pub after : (k : List Root) (j : ℕ) (rs : List KeyRow) (d : KeyRow) → is_rising rs ≡ true → j < length rs
    → key_order (get_or rs j d).key k ≡ Less → searched k rs ≡ moved (suc j) (searched k (drop (suc j) rs))
after k j [] d h l e = absurd (omega arith)
after k zero (r ∷ rs) d h l e = past k r rs e ∙ one (searched k rs)
  where
    one : (s : Result ℕ ℕ) → behind s ≡ moved 1 s
    one (Ok n) = let e : suc n ≡ 1 + n = omega arith in ap Ok e
    one (Err n) = let e : suc n ≡ 1 + n = omega arith in ap Err e
after k (suc j) (r ∷ rs) d h l e =
    let rest = and_right (starts_after r.key rs) (is_rising rs) h in
    let first = keys_total.trans r.key (get_or rs j d).key k (first_is_less r rs j d h (omega arith)) e in
    past k r rs first ∙ ap behind (after k j rs d rest (omega arith) e) ∙ behind_moved (suc j) (searched k (drop (suc j) rs))

-- an equal key stands where the values do
pub here : (k : List Root) (j : ℕ) (rs : List KeyRow) (d : KeyRow) → is_rising rs ≡ true → j < length rs
    → key_order (get_or rs j d).key k ≡ Equal → searched k rs ≡ Ok j
here k j [] d h l e = absurd (omega arith)
here k zero (r ∷ rs) d h l e = ap (λ o. match_ordering o (behind (searched k rs)) (Ok 0) (Err 0)) e
here k (suc j) (r ∷ rs) d h l e =
    let rest = and_right (starts_after r.key rs) (is_rising rs) h in
    let first = sym (alike_right keys_total (get_or rs j d).key k r.key e) ∙ first_is_less r rs j d h (omega arith) in
    past k r rs first ∙ ap behind (here k j rs d rest (omega arith) e)

-- a key that is greater stands after the values
pub until : (k : List Root) (j : ℕ) (rs : List KeyRow) (d : KeyRow) → j < length rs
    → key_order (get_or rs j d).key k ≡ Greater → searched k rs ≡ searched k (take j rs)
until k j [] d l e = absurd (omega arith)
until k zero (r ∷ rs) d l e = ap (λ o. match_ordering o (behind (searched k rs)) (Ok 0) (Err 0)) e
until k (suc j) (r ∷ rs) d l e =
    ap (λ s. match_ordering (key_order r.key k) (behind s) (Ok 0) (Err 0)) (until k j rs d (omega arith) e)

-- ---- a window of rows, behind b others

-- the rows after one that is less
pub went_after : (k : List Root) (b j : ℕ) (rows rs ws : List KeyRow) (d : KeyRow) → ws ≡ drop (j + 1) rs → is_rising rs ≡ true
    → j < length rs → Less ≡ key_order (get_or rs j d).key k → searched k rows ≡ moved b (searched k rs)
    → searched k rows ≡ moved (b + (j + 1)) (searched k ws)
went_after k b j rows rs ws d c h l e p =
    let n : suc j ≡ j + 1 = omega arith in
    let found = after k j rs d h l (sym e) ∙ ap (λ m. moved m (searched k (drop m rs))) n ∙ ap (λ w. moved (j + 1) (searched k w)) (sym c) in
    p ∙ ap (moved b) found ∙ moved_twice b (j + 1) (searched k ws)

-- the rows before one that is greater
pub went_before : (k : List Root) (b j : ℕ) (rows rs ws : List KeyRow) (d : KeyRow) → ws ≡ take j rs → j < length rs
    → Greater ≡ key_order (get_or rs j d).key k → searched k rows ≡ moved b (searched k rs) → searched k rows ≡ moved b (searched k ws)
went_before k b j rows rs ws d c l e p =
    p ∙ ap (moved b) (until k j rs d l (sym e) ∙ ap (searched k) (sym c))

-- a row that is equal
pub stands_here : (k : List Root) (b j : ℕ) (rows rs : List KeyRow) (d : KeyRow) → is_rising rs ≡ true → j < length rs
    → Equal ≡ key_order (get_or rs j d).key k → searched k rows ≡ moved b (searched k rs) → Ok (b + j) ≡ searched k rows
stands_here k b j rows rs d h l e p = sym (p ∙ ap (moved b) (here k j rs d h l (sym e)))

-- how many are left after some
pub dropped : (n : ℕ) (rs : List KeyRow) → length (drop n rs) ≡ length rs - n
dropped zero rs = omega arith
dropped (suc n) [] = omega arith
dropped (suc n) (r ∷ rs) = let i = dropped n rs in omega arith

-- how many the first ones are
pub taken : (n : ℕ) (rs : List KeyRow) → n ≤ length rs → length (take n rs) ≡ n
taken zero rs h = refl
taken (suc n) [] h = absurd (omega arith)
taken (suc n) (r ∷ rs) h = let i = taken n rs (omega arith) in omega arith

-- an empty list has no element
pub none : (n : ℕ) → true ≡ (n == 0) → n ≡ 0
none n e = grind (arith, nat_tests)

-- a list that is not empty has an element
pub some : (n : ℕ) → false ≡ (n == 0) → 0 < n
some n e = grind (arith, nat_tests)

-- ---- what halving costs

-- a number doubled t times
abbrev pub doubled : ℕ → ℕ → ℕ
doubled zero w = w
doubled (suc t) w = doubled t (w + w)

-- one for no rows, else twice as many as there are rows
abbrev pub weight : ℕ → ℕ
weight n = n + n + (1 - n)

-- doubling keeps an order
pub doubled_more : (t v w : ℕ) → v ≤ w → doubled t v ≤ doubled t w
doubled_more zero v w h = h
doubled_more (suc t) v w h = doubled_more t (v + v) (w + w) (omega arith)

-- a sum doubled
pub doubled_sum : (t v w : ℕ) → doubled t (v + w) ≡ doubled t v + doubled t w
doubled_sum zero v w = refl
doubled_sum (suc t) v w =
    let e : v + w + (v + w) ≡ v + v + (w + w) = omega arith in
    ap (doubled t) e ∙ doubled_sum t (v + v) (w + w)

-- one doubled is a power of two
pub power_of_two : (t : ℕ) → 2 ^ t ≡ doubled t 1
power_of_two zero = refl
power_of_two (suc t) =
    let i = power_of_two t in
    let e : 2 ^ suc t ≡ 2 ^ t + 2 ^ t = omega arith in
    let j : 2 ^ t + 2 ^ t ≡ doubled t 1 + doubled t 1 = ap (λ n. n + n) i in
    e ∙ j ∙ sym (doubled_sum t 1 1)

-- one more comparison leaves at most half
pub halved : (t u n r s : ℕ) → u ≡ t + 1 → doubled t (weight s) ≤ n → r + r ≤ s → 0 < s → doubled u (weight r) ≤ n
halved t u n r s i h l p =
    let e : suc t ≡ u = omega arith in
    let w : weight r + weight r ≤ weight s = omega arith in
    let m = doubled_more t (weight r + weight r) (weight s) w in
    subst (λ v. doubled v (weight r) ≤ n) e (omega arith)

-- what was spent once nothing is left
pub spent : (t n : ℕ) → doubled t 1 ≤ weight n → 2 ^ t ≤ 2 * n + 1
spent t n h = let e = power_of_two t in omega arith
