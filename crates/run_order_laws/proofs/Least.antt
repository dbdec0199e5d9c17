-- Where postings are finished, over plain numbers: what one posting more makes of the least number from their own on at
-- which they are finished.
use Rattle.std.proofs.Common.{◌≡◌, ◌<◌, ◌≤◌, ℕ, zero, suc, ◌+◌, ◌-◌, Bool, true, false, not, ◌&&◌, List, [], ◌∷◌}
use Rattle.std.proofs.Common.{◌++◌, refl, sym, ap, subst, ◌∙◌, cond, arith}
use Rattle.std.specs.Prelude.{nat_eq, flat_map, if◌then◌else◌, unwrap_or}
use Rattle.std.specs.List.{filter}
use Rattle.office_core.specs.Keys.{first as first_in}
use Rattle.run_record.specs.Order.{numbers_from}
use Rattle.run_order_laws.proofs.Lists.{itself, not_eq, eq_true, append_nil, append_assoc}

-- ---- lists of numbers

pub numbers_more : (n k : ℕ) → numbers_from n (suc k) ≡ numbers_from n k ++ (n + k) ∷ []
numbers_more n zero = ap (λ m. m ∷ []) (number n)
  where
    number : (m : ℕ) → m ≡ m + 0
    number m = omega arith
numbers_more n (suc k) =
    ap (λ l. n ∷ l) (numbers_more (suc n) k ∙ ap (λ m. numbers_from (suc n) k ++ m ∷ []) (number n k))
  where
    number : (m l : ℕ) → suc m + l ≡ m + suc l
    number m l = omega arith

filter_alike : (p q : ℕ → Bool) (n k : ℕ) → ((j : ℕ) → j < n + k → p j ≡ q j)
    → filter p (numbers_from n k) ≡ filter q (numbers_from n k)
filter_alike p q n zero same = refl
filter_alike p q n (suc k) same =
    λ i. cond (same n (first n k) i) (n ∷ filter_alike p q (suc n) k (λ j less. same j (later n k j less)) i)
    (filter_alike p q (suc n) k (λ j less. same j (later n k j less)) i)
  where
    first : (m l : ℕ) → m < m + suc l
    first m l = omega arith

    later : (m l j : ℕ) → j < suc m + l → j < m + suc l
    later m l j less = omega (arith, less)

flat_map_alike : (f g : ℕ → List ℕ) (n k : ℕ) → ((j : ℕ) → j < n + k → f j ≡ g j)
    → flat_map f (numbers_from n k) ≡ flat_map g (numbers_from n k)
flat_map_alike f g n zero same = refl
flat_map_alike f g n (suc k) same =
    λ i. same n (first n k) i ++ flat_map_alike f g (suc n) k (λ j less. same j (later n k j less)) i
  where
    first : (m l : ℕ) → m < m + suc l
    first m l = omega arith

    later : (m l j : ℕ) → j < suc m + l → j < m + suc l
    later m l j less = omega (arith, less)

pub filter_append : {A : Type 0} (p : A → Bool) (xs ys : List A) → filter p (xs ++ ys) ≡ filter p xs ++ filter p ys
filter_append p [] ys = refl
filter_append p (x ∷ xs) ys = by (p x) (filter_append p xs ys)
  where
    by : (b : Bool) → filter p (xs ++ ys) ≡ filter p xs ++ filter p ys
        → cond b (x ∷ filter p (xs ++ ys)) (filter p (xs ++ ys))
        ≡ cond b (x ∷ filter p xs) (filter p xs) ++ filter p ys
    by true h = ap (λ l. x ∷ l) h
    by false h = h

filter_both : {A : Type 0} (p q : A → Bool) (xs : List A) → filter (λ x. p x && q x) xs ≡ filter q (filter p xs)
filter_both p q [] = refl
filter_both p q (x ∷ xs) = by (p x) (filter_both p q xs)
  where
    by : (b : Bool) → filter (λ y. p y && q y) xs ≡ filter q (filter p xs)
        → cond (b && q x) (x ∷ filter (λ y. p y && q y) xs) (filter (λ y. p y && q y) xs)
        ≡ filter q (cond b (x ∷ filter p xs) (filter p xs))
    by true h = λ i. cond (q x) (x ∷ h i) (h i)
    by false h = h

flat_map_append : (f : ℕ → List ℕ) (xs ys : List ℕ) → flat_map f (xs ++ ys) ≡ flat_map f xs ++ flat_map f ys
flat_map_append f [] ys = refl
flat_map_append f (x ∷ xs) ys =
    ap (λ l. f x ++ l) (flat_map_append f xs ys) ∙ sym (append_assoc (f x) (flat_map f xs) (flat_map f ys))

-- ---- the least number

-- the least of the so many numbers from i on that is of a kind, and the number behind them where none is
abbrev least_from : (ℕ → Bool) → ℕ → ℕ → ℕ
least_from is_it i zero = i
least_from is_it i (suc n) = if is_it i then i else least_from is_it (suc i) n

-- it is the first of those of the kind
first_is_least : (f : ℕ → Bool) (i n count : ℕ) → i + n ≡ count
    → unwrap_or (first_in (filter f (numbers_from i n))) count ≡ least_from f i n
first_is_least f i zero count e = none i count e
  where
    none : (m k : ℕ) → m + 0 ≡ k → k ≡ m
    none m k e = omega (arith, e)
first_is_least f i (suc n) count e = by (f i) (first_is_least f (suc i) n count (moved i n count e))
  where
    moved : (m l k : ℕ) → m + suc l ≡ k → suc m + l ≡ k
    moved m l k e = omega (arith, e)

    by : (b : Bool)
        → unwrap_or (first_in (filter f (numbers_from (suc i) n))) count ≡ least_from f (suc i) n
        → unwrap_or (first_in (cond b (i ∷ filter f (numbers_from (suc i) n)) (filter f (numbers_from (suc i) n)))) count
        ≡ (if b then i else least_from f (suc i) n)
    by true h = refl
    by false h = h

-- where it is with one number more to look at
abbrev pub later : Bool → ℕ → ℕ → ℕ
later b at r = if nat_eq at r then (if b then at else suc at) else r

least_one_more : (f : ℕ → Bool) (i n : ℕ) → least_from f i (suc n) ≡ later (f (i + n)) (i + n) (least_from f i n)
least_one_more f i zero =
    sym (ap (λ m. later (f m) m i) (number i) ∙ ap (λ b. if b then (if f i then i else suc i) else i) (itself i))
  where
    number : (m : ℕ) → m + 0 ≡ m
    number m = omega arith
least_one_more f i (suc n) = by (f i) (least_one_more f (suc i) n)
  where
    number : suc i + n ≡ i + suc n
    number = omega arith

    apart : nat_eq (i + suc n) i ≡ false
    apart = not_eq (i + suc n) i (λ e. omega (arith, e))

    by : (b : Bool)
        → least_from f (suc i) (suc n) ≡ later (f (suc i + n)) (suc i + n) (least_from f (suc i) n)
        → (if b then i else least_from f (suc i) (suc n))
        ≡ later (f (i + suc n)) (i + suc n) (if b then i else least_from f (suc i) n)
    by true h = sym (ap (λ b. if b then (if f (i + suc n) then i + suc n else suc (i + suc n)) else i) apart)
    by false h =
        h ∙ ap (λ m. later (f m) m (least_from f (suc i) n)) number

least_bound : (f : ℕ → Bool) (i n : ℕ) → least_from f i n ≤ i + n
least_bound f i zero = number i
  where
    number : (m : ℕ) → m ≤ m + 0
    number m = omega arith
least_bound f i (suc n) = by (f i) (least_bound f (suc i) n)
  where
    wider : (r : ℕ) → r ≤ suc i + n → r ≤ i + suc n
    wider r h = omega (arith, h)

    here : i ≤ i + suc n
    here = omega arith

    by : (b : Bool) → least_from f (suc i) n ≤ suc i + n → (if b then i else least_from f (suc i) n) ≤ i + suc n
    by true h = here
    by false h = wider (least_from f (suc i) n) h

least_alike : (f g : ℕ → Bool) (i n : ℕ) → ((k : ℕ) → k < i + n → f k ≡ g k) → least_from f i n ≡ least_from g i n
least_alike f g i zero same = refl
least_alike f g i (suc n) same =
    λ k. if same i here k then i else least_alike f g (suc i) n (λ j less. same j (wider j less)) k
  where
    here : i < i + suc n
    here = omega arith

    wider : (j : ℕ) → j < suc i + n → j < i + suc n
    wider j less = omega (arith, less)

-- ---- where postings are finished, by a table of what is finished at which posting

-- where posting j of so many is finished
abbrev pub at_by : (ℕ → ℕ → Bool) → ℕ → ℕ → ℕ
at_by f count j = unwrap_or (first_in (filter (f j) (numbers_from j (count - j)))) count

-- it is the least from its own on
at_least : (f : ℕ → ℕ → Bool) (count j : ℕ) → j ≤ count → at_by f count j ≡ least_from (f j) j (count - j)
at_least f count j most = first_is_least (f j) j (count - j) count whole
  where
    whole : j + (count - j) ≡ count
    whole = omega (arith, most)

-- the postings among so many that are finished at i
abbrev pub there_by : (ℕ → ℕ → Bool) → ℕ → ℕ → List ℕ
there_by f count i = filter (λ j. nat_eq i (at_by f count j)) (numbers_from 0 count)

-- two tables are alike below a number
abbrev pub AreAlike : ℕ → (ℕ → ℕ → Bool) → (ℕ → ℕ → Bool) → Type 0
AreAlike count f g = (j i : ℕ) → j < count → i < count → f j i ≡ g j i

at_more : (f g : ℕ → ℕ → Bool) (count j : ℕ) → AreAlike count f g → j < count
    → at_by g (suc count) j ≡ later (g j count) count (at_by f count j)
at_more f g count j same below =
    at_least g (suc count) j longer
    ∙ ap (λ n. least_from (g j) j n) one_more
    ∙ least_one_more (g j) j (count - j)
    ∙ ap (λ n. later (g j n) n (least_from (g j) j (count - j))) whole
    ∙ ap (later (g j count) count)
    (sym (least_alike (f j) (g j) j (count - j) (λ i less. same j i below (subst (λ n. i < n) whole less)))
    ∙ sym (at_least f count j within))
  where
    within : j ≤ count
    within = omega (arith, below)

    longer : j ≤ suc count
    longer = omega (arith, below)

    one_more : suc count - j ≡ suc (count - j)
    one_more = omega (arith, below)

    whole : j + (count - j) ≡ count
    whole = omega (arith, below)

at_new : (g : ℕ → ℕ → Bool) (count : ℕ) → at_by g (suc count) count ≡ (if g count count then count else suc count)
at_new g count = at_least g (suc count) count longer ∙ ap (λ n. least_from (g count) count n) one
  where
    longer : count ≤ suc count
    longer = omega arith

    one : suc count - count ≡ 1
    one = omega arith

pub at_bound : (f : ℕ → ℕ → Bool) (count j : ℕ) → j < count → at_by f count j ≤ count
at_bound f count j below =
    subst (λ n. n ≤ count) (sym (at_least f count j within))
    (subst (λ n. least_from (f j) j (count - j) ≤ n) whole (least_bound (f j) j (count - j)))
  where
    within : j ≤ count
    within = omega (arith, below)

    whole : j + (count - j) ≡ count
    whole = omega (arith, below)

split_numbers : (p : ℕ → Bool) (count : ℕ)
    → filter p (numbers_from 0 (suc count)) ≡ filter p (numbers_from 0 count) ++ filter p (count ∷ [])
split_numbers p count =
    ap (filter p) (numbers_more 0 count ∙ ap (λ n. numbers_from 0 count ++ n ∷ []) number)
    ∙ filter_append p (numbers_from 0 count) (count ∷ [])
  where
    number : 0 + count ≡ count
    number = omega arith

below_zero : (count j : ℕ) → j < 0 + count → j < count
below_zero count j less = omega (arith, less)

-- before the new posting nothing changes
there_before : (f g : ℕ → ℕ → Bool) (count i : ℕ) → AreAlike count f g → i < count
    → there_by g (suc count) i ≡ there_by f count i
there_before f g count i same below =
    split_numbers (λ j. nat_eq i (at_by g (suc count) j)) count
    ∙ (λ k. filter_alike (λ j. nat_eq i (at_by g (suc count) j)) (λ j. nat_eq i (at_by f count j)) 0 count old k
    ++ cond (new k) (count ∷ []) [])
    ∙ append_nil (there_by f count i)
  where
    apart : nat_eq i count ≡ false
    apart = not_eq i count (λ e. omega (arith, below, e))

    behind : nat_eq i (suc count) ≡ false
    behind = not_eq i (suc count) (λ e. omega (arith, below, e))

    neither : (b : Bool) → nat_eq i (if b then count else suc count) ≡ false
    neither true = apart
    neither false = behind

    by : (b c : Bool) (r : ℕ) → nat_eq count r ≡ c
        → nat_eq i (if c then (if b then count else suc count) else r) ≡ nat_eq i r
    by b true r e = neither b ∙ sym (ap (nat_eq i) (sym (eq_true count r e)) ∙ apart)
    by b false r e = refl

    old : (j : ℕ) → j < 0 + count → nat_eq i (at_by g (suc count) j) ≡ nat_eq i (at_by f count j)
    old j less =
        ap (nat_eq i) (at_more f g count j same (below_zero count j less))
        ∙ by (g j count) (nat_eq count (at_by f count j)) (at_by f count j) refl

    new : nat_eq i (at_by g (suc count) count) ≡ false
    new = ap (nat_eq i) (at_new g count) ∙ neither (g count count)

-- at the new posting those are finished that were not before and now are, the new one with them
there_now : (f g : ℕ → ℕ → Bool) (count : ℕ) → AreAlike count f g
    → there_by g (suc count) count ≡ filter (λ j. g j count) (there_by f count count ++ count ∷ [])
there_now f g count same =
    split_numbers (λ j. nat_eq count (at_by g (suc count) j)) count
    ∙ (λ k. (filter_alike (λ j. nat_eq count (at_by g (suc count) j)) (λ j. nat_eq count (at_by f count j)
    && g j count) 0 count old
    ∙ filter_both (λ j. nat_eq count (at_by f count j)) (λ j. g j count) (numbers_from 0 count)) k
    ++ cond (new k) (count ∷ []) [])
    ∙ sym (filter_append (λ j. g j count) (there_by f count count) (count ∷ []))
  where
    behind : nat_eq count (suc count) ≡ false
    behind = not_eq count (suc count) (λ e. omega (arith, e))

    which : (b : Bool) → nat_eq count (if b then count else suc count) ≡ b
    which true = itself count
    which false = behind

    by : (b c : Bool) (r : ℕ) → nat_eq count r ≡ c
        → nat_eq count (if c then (if b then count else suc count) else r) ≡ (c && b)
    by b true r e = which b
    by b false r e = e

    old : (j : ℕ) → j < 0 + count → nat_eq count (at_by g (suc count) j) ≡ (nat_eq count (at_by f count j) && g j count)
    old j less =
        ap (nat_eq count) (at_more f g count j same (below_zero count j less))
        ∙ by (g j count) (nat_eq count (at_by f count j)) (at_by f count j) refl

    new : nat_eq count (at_by g (suc count) count) ≡ g count count
    new = ap (nat_eq count) (at_new g count) ∙ which (g count count)

-- the others are not finished yet
there_later : (f g : ℕ → ℕ → Bool) (count : ℕ) → AreAlike count f g
    → there_by g (suc count) (suc count) ≡ filter (λ j. not (g j count)) (there_by f count count ++ count ∷ [])
there_later f g count same =
    split_numbers (λ j. nat_eq (suc count) (at_by g (suc count) j)) count
    ∙ (λ k. (filter_alike (λ j. nat_eq (suc count) (at_by g (suc count) j)) (λ j. nat_eq count (at_by f count j)
    && not (g j count)) 0 count old
    ∙ filter_both (λ j. nat_eq count (at_by f count j)) (λ j. not (g j count)) (numbers_from 0 count)) k
    ++ cond (new k) (count ∷ []) [])
    ∙ sym (filter_append (λ j. not (g j count)) (there_by f count count) (count ∷ []))
  where
    before : nat_eq (suc count) count ≡ false
    before = not_eq (suc count) count (λ e. omega (arith, e))

    which : (b : Bool) → nat_eq (suc count) (if b then count else suc count) ≡ not b
    which true = before
    which false = itself (suc count)

    by : (b c : Bool) (r : ℕ) → nat_eq count r ≡ c → r ≤ count
        → nat_eq (suc count) (if c then (if b then count else suc count) else r) ≡ (c && not b)
    by b true r e most = which b
    by b false r e most = not_eq (suc count) r (λ q. omega (arith, q, most))

    old : (j : ℕ) → j < 0 + count
        → nat_eq (suc count) (at_by g (suc count) j) ≡ (nat_eq count (at_by f count j) && not (g j count))
    old j less =
        ap (nat_eq (suc count)) (at_more f g count j same (below_zero count j less))
        ∙ by (g j count) (nat_eq count (at_by f count j)) (at_by f count j) refl
        (at_bound f count j (below_zero count j less))

    new : nat_eq (suc count) (at_by g (suc count) count) ≡ not (g count count)
    new = ap (nat_eq (suc count)) (at_new g count) ∙ which (g count count)

-- those that are finished before one of the postings stay so, one posting more
pub before_more : (f g : ℕ → ℕ → Bool) (count j : ℕ) → AreAlike count f g → j ≤ count
    → flat_map (there_by g (suc count)) (numbers_from 0 j) ≡ flat_map (there_by f count) (numbers_from 0 j)
before_more f g count j same most =
    flat_map_alike (there_by g (suc count)) (there_by f count) 0 j (λ i less. there_before f g count i same (lower i less))
  where
    lower : (i : ℕ) → i < 0 + j → i < count
    lower i less = omega (arith, less, most)

-- where no posting comes any more the same are finished at each
there_same : (f g : ℕ → ℕ → Bool) (count i : ℕ) → AreAlike count f g → there_by f count i ≡ there_by g count i
there_same f g count i same =
    filter_alike (λ j. nat_eq i (at_by f count j)) (λ j. nat_eq i (at_by g count j)) 0 count
    (λ j less. ap (nat_eq i) (at_same j (below_zero count j less)))
  where
    within : (j : ℕ) → j < count → j ≤ count
    within j below = omega (arith, below)

    whole : (j : ℕ) → j < count → j + (count - j) ≡ count
    whole j below = omega (arith, below)

    at_same : (j : ℕ) → j < count → at_by f count j ≡ at_by g count j
    at_same j below =
        at_least f count j (within j below)
        ∙ least_alike (f j) (g j) j (count - j) (λ k less. same j k below (subst (λ n. k < n) (whole j below) less))
        ∙ sym (at_least g count j (within j below))

-- and so are those before one of them
pub before_same : (f g : ℕ → ℕ → Bool) (count j : ℕ) → AreAlike count f g
    → flat_map (there_by f count) (numbers_from 0 j) ≡ flat_map (there_by g count) (numbers_from 0 j)
before_same f g count j same =
    flat_map_alike (there_by f count) (there_by g count) 0 j (λ i less. there_same f g count i same)

-- What is told and what is not yet, by a table: those that are finished at one of so many postings, in order, and the
-- others.
pub record InOrderBy (f : ℕ → ℕ → Bool) (count : ℕ) (said open_yet : List ℕ) : Type 0 where
  pub told : said ≡ flat_map (there_by f count) (numbers_from 0 count)
  pub pending : open_yet ≡ there_by f count count

-- one posting more
pub in_order_next : (f g : ℕ → ℕ → Bool) (count : ℕ) (told pending : List ℕ) → AreAlike count f g
    → InOrderBy f count told pending
    → InOrderBy g (suc count) (told ++ filter (λ j. g j count) (pending ++ count ∷ []))
    (filter (λ j. not (g j count)) (pending ++ count ∷ []))
in_order_next f g count told pending same o = record {
  told =
      (λ k. o.told k ++ filter (λ j. g j count) (o.pending k ++ count ∷ []))
      ∙ (λ k. sym before k ++ sym (there_now f g count same) k)
      ∙ sym whole;
  pending = ap (λ l. filter (λ j. not (g j count)) (l ++ count ∷ [])) o.pending ∙ sym (there_later f g count same);
}
  where
    enough : count ≤ count
    enough = omega arith

    before : flat_map (there_by g (suc count)) (numbers_from 0 count)
        ≡ flat_map (there_by f count) (numbers_from 0 count)
    before = before_more f g count count same enough

    number : 0 + count ≡ count
    number = omega arith

    whole : flat_map (there_by g (suc count)) (numbers_from 0 (suc count))
        ≡ flat_map (there_by g (suc count)) (numbers_from 0 count) ++ there_by g (suc count) count
    whole =
        ap (flat_map (there_by g (suc count))) (numbers_more 0 count ∙ ap (λ n. numbers_from 0 count ++ n ∷ []) number)
        ∙ flat_map_append (there_by g (suc count)) (numbers_from 0 count) (count ∷ [])
        ∙ ap (λ l. flat_map (there_by g (suc count)) (numbers_from 0 count)
        ++ l) (append_nil (there_by g (suc count) count))

-- at the end those that were told are those that are finished before it
pub in_order_early : (f g : ℕ → ℕ → Bool) (count : ℕ) (told pending : List ℕ) → AreAlike count f g
    → InOrderBy f count told pending → told ≡ flat_map (there_by g count) (numbers_from 0 count)
in_order_early f g count told pending same o = o.told ∙ before_same f g count count same

-- at the end the others are told behind them
pub in_order_ends : (f g : ℕ → ℕ → Bool) (count : ℕ) (told pending : List ℕ) → AreAlike count f g
    → InOrderBy f count told pending
    → told ++ pending ≡ flat_map (there_by g count) (numbers_from 0 (suc count))
in_order_ends f g count told pending same o =
    (λ k. o.told k ++ o.pending k)
    ∙ (λ k. before_same f g count count same k ++ there_same f g count count same k)
    ∙ sym
    (ap (flat_map (there_by g count)) (numbers_more 0 count ∙ ap (λ n. numbers_from 0 count ++ n ∷ []) number)
    ∙ flat_map_append (there_by g count) (numbers_from 0 count) (count ∷ [])
    ∙ ap (λ l. flat_map (there_by g count) (numbers_from 0 count) ++ l) (append_nil (there_by g count count)))
  where
    number : 0 + count ≡ count
    number = omega arith
