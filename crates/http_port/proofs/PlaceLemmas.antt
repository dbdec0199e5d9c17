-- The first of a list of places is the first place.
use Rattle.std.proofs.Common.{◌≡◌, ℕ, zero, suc, ◌+◌, ◌-◌, Bool, false, List, [], ◌∷◌, length, Some, None, sym, subst, ◌∙◌, arith, inl, inr}
use Rattle.std.specs.Prelude.{Option, slice_index}
use Rattle.std.proofs.lemmas.Bool.{cases_Bool, cases_lt, cond-true, cond-false, false≢true}
use Rattle.memchr.specs.Find.{TakesFirst, Passes, Nowhere, NoneBefore, IsFirstByte, places_from, places}

module _ (test : ℕ → Bool) (hay : List ℕ) where
  -- the list goes on behind a place that passes, and behind one that fails
  here : (i n : ℕ) → Passes test hay i → places_from test hay i (suc n) ≡ i ∷ places_from test hay (i + 1) n
  unfolding places_from
  here i n h = cond-true _ _ _ h

  skip : (i n : ℕ) → test (slice_index hay i) ≡ false → places_from test hay i (suc n) ≡ places_from test hay (i + 1) n
  unfolding places_from
  skip i n f = cond-false _ _ _ f

  -- what passes nowhere behind a place that fails passes nowhere from it on
  nowhere_more : (i j : ℕ) → test (slice_index hay i) ≡ false → Nowhere (Passes test hay) (i + 1) j → Nowhere (Passes test hay) i j
  nowhere_more i j f behind k low high p = elim (cases_lt i k) [
    | inl more ↦ behind k (omega arith) high p
    | inr last ↦
        let same : k ≡ i = omega arith in
        absurd (false≢true (sym f ∙ subst (Passes test hay) same p))
  ]

  -- where the list is empty, nothing passes
  none_from : (i n : ℕ) → places_from test hay i n ≡ [] → Nowhere (Passes test hay) i (i + n)
  none_from i zero e = λ k low high p. absurd (omega arith)
  none_from i (suc n) e = elim (cases_Bool (test (slice_index hay i))) [
    | inl t ↦ absurd (no_place (sym (here i n t) ∙ e))
    | inr f ↦ nowhere_more i (i + suc n) f (λ k low high p. none_from (i + 1) n (sym (skip i n f) ∙ e) k low (omega arith) p)
  ]
    where
      no_place : i ∷ places_from test hay (i + 1) n ≡ [] → ⊥
      no_place g = absurd (cc)

  -- where it is not, its first place is the first that passes
  some_from : (i n x : ℕ) (rest : List ℕ) → places_from test hay i n ≡ x ∷ rest → NoneBefore (Passes test hay) i (i + n) x × Passes test hay x
  unfolding places_from
  some_from i zero x rest e = absurd (cc)
  some_from i (suc n) x rest e = elim (cases_Bool (test (slice_index hay i))) [
    | inl t ↦
        let same : i ≡ x = first_same (sym (here i n t) ∙ e) in
        (record { low = omega arith; high = omega arith; before = λ k low high p. absurd (omega arith) }, subst (Passes test hay) same t)
    | inr f ↦
        let later = some_from (i + 1) n x rest (sym (skip i n f) ∙ e) in
        let low = later.0.low in
        let high = later.0.high in
        (record { low = omega arith; high = omega arith; before = nowhere_more i x f later.0.before }, later.1)
  ]
    where
      first_same : i ∷ places_from test hay (i + 1) n ≡ x ∷ rest → i ≡ x
      first_same g = cc

  -- both
  pub first_by_places : (r : Option ℕ) (rest : List ℕ) → TakesFirst (places test hay) r rest → IsFirstByte test hay r
  first_by_places None rest e = λ k low high p. none_from 0 (length hay - 0) e.0 k low (omega arith) p
  first_by_places (Some x) rest e =
      let found = some_from 0 (length hay - 0) x rest e in
      let low = found.0.low in
      let high = found.0.high in
      (record { low = low; high = omega arith; before = found.0.before }, found.1)
