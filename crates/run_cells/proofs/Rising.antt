-- A list that rises: one number more, one less, and the first from a number on.
use Rattle.std.proofs.Common.{◌≡◌, ◌⊎◌, ◌≤◌, ◌<◌, ℕ, zero, suc, ◌+◌, List, [], ◌∷◌, length, None, Some, inl, inr, refl, sym, ap, subst, ◌∙◌, arith, zero-le}
use Rattle.std.specs.Prelude.{Err, IfNone, IfSome, MatchResult, Ok, Option, Result, get_or, if◌then◌else◌, is_ok, slice_get}
use Rattle.std.specs.List.{insert, remove}
use Rattle.std.specs.List.Sorted.{IsBinarySearchResult}
use Rattle.std.specs.Ordering.{nat_cmp}
use Rattle.std.proofs.lemmas.List.Edits.{get_or-insert_above, get_or-insert_at, get_or-insert_below, get_or-remove_above, get_or-remove_below, length-insert, length-remove}
use Rattle.std.proofs.lemmas.List.Sorted.{searched}
use Rattle.std.proofs.lemmas.Option.{none-some, slice_get-get_or, slice_get_within}
use Rattle.run_cells.specs.Awake.{HasNoneFrom, IsFirstFrom, IsOn, IsRising, PutsOn, TakesOff}
use Rattle.run_cells.proofs.Teams.{same_of}

-- a place is before another, the same, or behind it
pub data Side (i p : ℕ) : Type 0 where
  earlier : i < p → Side i p
  at_it : i ≡ p → Side i p
  later : (j : ℕ) → i ≡ suc j → p ≤ j → Side i p

pub side : (i p : ℕ) → Side i p
side zero zero = at_it refl
side zero (suc p) = earlier (omega arith)
side (suc i) zero = later i refl zero-le
side (suc i) (suc p) = up (side i p)
  where
    up : Side i p → Side (suc i) (suc p)
    up (earlier l) = earlier (omega arith)
    up (at_it e) = at_it (ap suc e)
    up (later j e l) = later (suc j) (ap suc e) (omega arith)

next-place : (j : ℕ) → j + 1 ≡ suc j
next-place j = omega arith

-- ---- one more

module _ (ns : List ℕ) (p n : ℕ) (l : p ≤ length ns) where
  long : length (insert ns p n) ≡ length ns + 1
  long = length-insert ns p n l

  insert-below : (k : ℕ) → k < p → get_or (insert ns p n) k 0 ≡ get_or ns k 0
  insert-below k u = get_or-insert_below ns p n 0 k u l

  insert-here : get_or (insert ns p n) p 0 ≡ n
  insert-here = get_or-insert_at ns p n 0 l

  insert-above : (k : ℕ) → p ≤ k → get_or (insert ns p n) (suc k) 0 ≡ get_or ns k 0
  insert-above k u = ap (λ i. get_or (insert ns p n) i 0) (sym (next-place k)) ∙ get_or-insert_above ns p n 0 k u l

  stays-on : (m i : ℕ) → i < length ns → get_or ns i 0 ≡ m → Side i p → IsOn (insert ns p n) m
  stays-on m i w e (earlier u) =
      let v : length (insert ns p n) ≡ length ns + 1 = long in
      record { place = i; within = omega arith; is = insert-below i u ∙ e }
  stays-on m i w e (at_it q) =
      let v : length (insert ns p n) ≡ length ns + 1 = long in
      record { place = suc i; within = omega arith; is = insert-above i (omega arith) ∙ e }
  stays-on m i w e (later j q u) =
      let v : length (insert ns p n) ≡ length ns + 1 = long in
      record { place = suc i; within = omega arith; is = insert-above i (omega arith) ∙ e }

  was-on : (m i : ℕ) → i < length (insert ns p n) → get_or (insert ns p n) i 0 ≡ m → Side i p → IsOn ns m ⊎ (m ≡ n)
  was-on m i w e (earlier u) = inl (record { place = i; within = omega arith; is = sym (insert-below i u) ∙ e })
  was-on m i w e (at_it q) = inr (sym e ∙ ap (λ k. get_or (insert ns p n) k 0) q ∙ insert-here)
  was-on m i w e (later j q u) =
      let v : length (insert ns p n) ≡ length ns + 1 = long in
      inl
      (record {
        place = j;
        within = omega arith;
        is = sym (insert-above j u) ∙ ap (λ k. get_or (insert ns p n) k 0) (sym q) ∙ e;
      })

  pub inserted : PutsOn n ns (insert ns p n)
  inserted = record {
    here = record { place = p; within = let v : length (insert ns p n) ≡ length ns + 1 = long in omega arith; is = insert-here };
    stay = λ m on. stays-on m on.place on.within on.is (side on.place p);
    only = λ m on. was-on m on.place on.within on.is (side on.place p);
  }

  module _ (rising : IsRising ns) (below : (k : ℕ) → k < p → get_or ns k 0 < n)
      (above : (k : ℕ) → p ≤ k → k < length ns → n < get_or ns k 0) where
    rises : (i j : ℕ) → i < j → j < length (insert ns p n) → Side i p → Side j p
        → get_or (insert ns p n) i 0 < get_or (insert ns p n) j 0
    rises i j u w (earlier f) (earlier g) =
        let r : get_or ns i 0 < get_or ns j 0 = rising i j u (omega arith) in
        subst (λ k. k < get_or (insert ns p n) j 0) (sym (insert-below i f))
        (subst (λ k. get_or ns i 0 < k) (sym (insert-below j g)) r)
    rises i j u w (earlier f) (at_it g) =
        subst (λ k. k < get_or (insert ns p n) j 0) (sym (insert-below i f))
        (subst (λ k. get_or ns i 0 < k) (sym (ap (λ k. get_or (insert ns p n) k 0) g ∙ insert-here)) (below i f))
    rises i j u w (earlier f) (later b g v) =
        let z : length (insert ns p n) ≡ length ns + 1 = long in
        let r : get_or ns i 0 < get_or ns b 0 = rising i b (omega arith) (omega arith) in
        subst (λ k. k < get_or (insert ns p n) j 0) (sym (insert-below i f))
        (subst (λ k. get_or ns i 0 < k) (sym (ap (λ k. get_or (insert ns p n) k 0) g ∙ insert-above b v)) r)
    rises i j u w (at_it f) (earlier g) = absurd (omega arith)
    rises i j u w (at_it f) (at_it g) = absurd (omega arith)
    rises i j u w (at_it f) (later b g v) =
        let z : length (insert ns p n) ≡ length ns + 1 = long in
        subst (λ k. k < get_or (insert ns p n) j 0) (sym (ap (λ k. get_or (insert ns p n) k 0) f ∙ insert-here))
        (subst (λ k. n < k) (sym (ap (λ k. get_or (insert ns p n) k 0) g ∙ insert-above b v)) (above b v (omega arith)))
    rises i j u w (later a f x) (earlier g) = absurd (omega arith)
    rises i j u w (later a f x) (at_it g) = absurd (omega arith)
    rises i j u w (later a f x) (later b g v) =
        let z : length (insert ns p n) ≡ length ns + 1 = long in
        let r : get_or ns a 0 < get_or ns b 0 = rising a b (omega arith) (omega arith) in
        subst (λ k. k < get_or (insert ns p n) j 0)
        (sym (ap (λ k. get_or (insert ns p n) k 0) f ∙ insert-above a x))
        (subst (λ k. get_or ns a 0 < k) (sym (ap (λ k. get_or (insert ns p n) k 0) g ∙ insert-above b v)) r)

    pub insert_rises : IsRising (insert ns p n)
    insert_rises i j u w = rises i j u w (side i p) (side j p)

-- ---- one less

module _ (ns : List ℕ) (p n : ℕ) (l : p < length ns) (is : get_or ns p 0 ≡ n) where
  short : length (remove ns p) + 1 ≡ length ns
  short = length-remove ns p l

  remove-below : (k : ℕ) → k < p → get_or (remove ns p) k 0 ≡ get_or ns k 0
  remove-below k u = get_or-remove_below ns p 0 k u l

  remove-above : (k : ℕ) → p ≤ k → get_or (remove ns p) k 0 ≡ get_or ns (suc k) 0
  remove-above k u = get_or-remove_above ns p 0 k u l ∙ ap (λ i. get_or ns i 0) (next-place k)

  keeps-on : (m i : ℕ) → i < length ns → get_or ns i 0 ≡ m → (m ≡ n → ⊥) → Side i p → IsOn (remove ns p) m
  keeps-on m i w e other (earlier u) =
      let v : length (remove ns p) + 1 ≡ length ns = short in
      record { place = i; within = omega arith; is = remove-below i u ∙ e }
  keeps-on m i w e other (at_it q) = absurd (other (sym e ∙ ap (λ k. get_or ns k 0) q ∙ is))
  keeps-on m i w e other (later j q u) =
      let v : length (remove ns p) + 1 ≡ length ns = short in
      record { place = j; within = omega arith; is = remove-above j u ∙ ap (λ k. get_or ns k 0) (sym q) ∙ e }

  had-on : (m i : ℕ) → i < length (remove ns p) → get_or (remove ns p) i 0 ≡ m → Side i p → IsOn ns m
  had-on m i w e (earlier u) =
      let v : length (remove ns p) + 1 ≡ length ns = short in
      record { place = i; within = omega arith; is = sym (remove-below i u) ∙ e }
  had-on m i w e (at_it q) =
      let v : length (remove ns p) + 1 ≡ length ns = short in
      record { place = suc i; within = omega arith; is = sym (remove-above i (omega arith)) ∙ e }
  had-on m i w e (later j q u) =
      let v : length (remove ns p) + 1 ≡ length ns = short in
      record { place = suc i; within = omega arith; is = sym (remove-above i (omega arith)) ∙ e }

  pub removed : TakesOff n ns (remove ns p)
  removed = record {
    stay = λ m on other. keeps-on m on.place on.within on.is other (side on.place p);
    only = λ m on. had-on m on.place on.within on.is (side on.place p);
  }

  module _ (rising : IsRising ns) where
    falls : (i j : ℕ) → i < j → j < length (remove ns p) → Side i p → Side j p
        → get_or (remove ns p) i 0 < get_or (remove ns p) j 0
    falls i j u w f g = go (shift i f) (shift j g)
      where
        shift : (k : ℕ) → Side k p → (q : ℕ) × (get_or (remove ns p) k 0 ≡ get_or ns q 0) × (((k < p) × (q ≡ k)) ⊎ ((p ≤ k) × (q ≡ suc k)))
        shift k (earlier x) = (k, remove-below k x, inl (x, refl))
        shift k (at_it e) = let x : p ≤ k = omega arith in (suc k, remove-above k x, inr (x, refl))
        shift k (later b e x) = let y : p ≤ k = omega arith in (suc k, remove-above k y, inr (y, refl))

        order : (a b : ℕ) → ((i < p) × (a ≡ i)) ⊎ ((p ≤ i) × (a ≡ suc i)) → ((j < p) × (b ≡ j)) ⊎ ((p ≤ j) × (b ≡ suc j))
            → (a < b) × (b < length ns)
        order a b (inl x) (inl y) =
            let v : length (remove ns p) + 1 ≡ length ns = short in
            let e : a ≡ i = x.1 in
            let d : b ≡ j = y.1 in
            (omega arith, omega arith)
        order a b (inl x) (inr y) =
            let v : length (remove ns p) + 1 ≡ length ns = short in
            let e : a ≡ i = x.1 in
            let d : b ≡ suc j = y.1 in
            (omega arith, omega arith)
        order a b (inr x) (inl y) =
            let f : p ≤ i = x.0 in
            let g : j < p = y.0 in
            absurd (omega arith)
        order a b (inr x) (inr y) =
            let v : length (remove ns p) + 1 ≡ length ns = short in
            let e : a ≡ suc i = x.1 in
            let d : b ≡ suc j = y.1 in
            (omega arith, omega arith)

        go : (q : ℕ) × (get_or (remove ns p) i 0 ≡ get_or ns q 0) × (((i < p) × (q ≡ i)) ⊎ ((p ≤ i) × (q ≡ suc i)))
            → (q : ℕ) × (get_or (remove ns p) j 0 ≡ get_or ns q 0) × (((j < p) × (q ≡ j)) ⊎ ((p ≤ j) × (q ≡ suc j)))
            → get_or (remove ns p) i 0 < get_or (remove ns p) j 0
        go x y =
            let o = order x.0 y.0 x.2 y.2 in
            subst (λ k. k < get_or (remove ns p) j 0) (sym x.1)
            (subst (λ k. get_or ns x.0 0 < k) (sym y.1) (rising x.0 y.0 o.0 o.1))

    pub remove_rises : IsRising (remove ns p)
    remove_rises i j u w = falls i j u w (side i p) (side j p)

-- ---- a search

-- what a search for a number found
abbrev pub Searched : List ℕ → ℕ → Result ℕ ℕ → Type 0
Searched ns n r = MatchResult r (λ i. (i < length ns) × (get_or ns i 0 ≡ n))
    (λ i. (i ≤ length ns) × ((k : ℕ) → k < i → get_or ns k 0 < n) × ((k : ℕ) → i ≤ k → k < length ns → n < get_or ns k 0))

module _ (ns : List ℕ) (rising : IsRising ns) where
  no-fall : (i j : ℕ) → i ≤ j → j < length ns → get_or ns i 0 ≤ get_or ns j 0
  no-fall i j l w = by (side i j)
    where
      by : Side i j → get_or ns i 0 ≤ get_or ns j 0
      by (earlier u) = let r : get_or ns i 0 < get_or ns j 0 = rising i j u w in omega arith
      by (at_it e) = let r : get_or ns i 0 ≡ get_or ns j 0 = ap (λ k. get_or ns k 0) e in omega arith
      by (later k e u) = absurd (omega arith)

  pub search_of : (n : ℕ) (r : Result ℕ ℕ) → IsBinarySearchResult (λ y. nat_cmp y n) ns r → Searched ns n r
  search_of n r found = searched ns n r found no-fall

  -- what stands where a search ended
  module _ (from p : ℕ) (low : (k : ℕ) → k < p → get_or ns k 0 < from)
      (high : (k : ℕ) → p ≤ k → k < length ns → from ≤ get_or ns k 0) where
    pub first_there : (n : ℕ) → slice_get ns p ≡ Some n → IsFirstFrom from ns n
    first_there n at =
        let w : p < length ns = slice_get_within ns p n at in
        let is : get_or ns p 0 ≡ n = same_of (get_or ns p 0) n (sym (slice_get-get_or ns p 0 w) ∙ at) in
        record {
          on = record { place = p; within = w; is = is };
          rising = subst (λ k. from ≤ k) is (high p (omega arith) w);
          least = λ m on u. least n is m on.place on.within on.is u (side on.place p);
        }
      where
        least : (n : ℕ) → get_or ns p 0 ≡ n → (m i : ℕ) → i < length ns → get_or ns i 0 ≡ m → from ≤ m → Side i p → n ≤ m
        least n is m i w e u (earlier l) =
            let r : get_or ns i 0 < from = low i l in
            absurd (omega (arith, e))
        least n is m i w e u (at_it q) =
            let r : get_or ns i 0 ≡ get_or ns p 0 = ap (λ k. get_or ns k 0) q in
            omega (arith, e, is, r)
        least n is m i w e u (later j q l) =
            let r : get_or ns p 0 ≤ get_or ns i 0 = no-fall p i (omega arith) w in
            omega (arith, e, is, r)

    pub none_there : slice_get ns p ≡ None → HasNoneFrom from ns
    none_there at m on = by (side on.place p)
      where
        past-end : {A : Type 0} (xs : List A) (i : ℕ) → slice_get xs i ≡ None → length xs ≤ i
        past-end [] i h = zero-le
        past-end (x ∷ xs) zero h = absurd (none-some x (sym h))
        past-end (x ∷ xs) (suc i) h = let l : length xs ≤ i = past-end xs i h in omega arith

        end : length ns ≤ p
        end = past-end ns p at

        by : Side on.place p → m < from
        by (earlier l) = let r : get_or ns on.place 0 < from = low on.place l in subst (λ k. k < from) on.is r
        by (at_it q) = let v : on.place < length ns = on.within in absurd (omega (arith, end, q))
        by (later j q l) = let v : on.place < length ns = on.within in absurd (omega (arith, end, q, l))

-- ---- what a search gives, of a slice of the list

module _ (ns ds : List ℕ) (n p : ℕ) (same : ds ≡ ns) (rising : IsRising ns) where
  found-in : (r : Result ℕ ℕ) → IsBinarySearchResult (λ y. nat_cmp y n) ds r → Searched ns n r
  found-in r found = search_of ns rising n r (subst (λ (l : List ℕ). IsBinarySearchResult (λ y. nat_cmp y n) l r) same found)

  -- where it was not found it is put
  module _ (found : IsBinarySearchResult (λ y. nat_cmp y n) ds (Err p)) where
    pub put_there : {new : List ℕ} → new ≡ insert ns p n → PutsOn n ns new
    put_there e = subst (PutsOn n ns) (sym e) (inserted ns p n (found-in (Err p) found).0)

    pub put_rises : {X E : Type 0} {new : List ℕ} (r : Result X E) → new ≡ (if is_ok r then insert ns p n else ns) → IsRising new
    put_rises (Ok x) e =
        let f = found-in (Err p) found in
        subst IsRising (sym e) (insert_rises ns p n f.0 rising f.1 f.2)
    put_rises (Err x) e = subst IsRising (sym e) rising

    -- and the next one stands there
    pub next_there : (m : ℕ) → slice_get ns p ≡ Some m → IsFirstFrom n ns m
    next_there m at =
        let f = found-in (Err p) found in
        first_there ns rising n p f.1 (λ k l u. below k (f.2 k l u)) m at
      where
        below : (k : ℕ) → n < get_or ns k 0 → n ≤ get_or ns k 0
        below k l = omega arith

    pub none_next : slice_get ns p ≡ None → HasNoneFrom n ns
    none_next at =
        let f = found-in (Err p) found in
        none_there ns rising n p f.1 (λ k l u. below k (f.2 k l u)) at
      where
        below : (k : ℕ) → n < get_or ns k 0 → n ≤ get_or ns k 0
        below k l = omega arith

    pub some_next : {seen : List ℕ} (o : Option ℕ) → o ≡ slice_get ns p → ns ≡ seen → IfSome o (λ m. IsFirstFrom n seen m)
    some_next None e v = tt
    some_next (Some m) e v = subst (λ (l : List ℕ). IsFirstFrom n l m) v (next_there m (sym e))

    pub nothing_next : {seen : List ℕ} (o : Option ℕ) → o ≡ slice_get ns p → ns ≡ seen → IfNone o (HasNoneFrom n seen)
    nothing_next None e v = subst (HasNoneFrom n) v (none_next (sym e))
    nothing_next (Some m) e v = tt

  -- where it was found it is taken off
  module _ (found : IsBinarySearchResult (λ y. nat_cmp y n) ds (Ok p)) where
    pub taken_off : {new : List ℕ} → new ≡ remove ns p → TakesOff n ns new
    taken_off e =
        let f = found-in (Ok p) found in
        subst (TakesOff n ns) (sym e) (removed ns p n f.0 f.1)

    pub taken_rises : {new : List ℕ} → new ≡ remove ns p → IsRising new
    taken_rises e =
        let f = found-in (Ok p) found in
        subst IsRising (sym e) (remove_rises ns p n f.0 f.1 rising)
