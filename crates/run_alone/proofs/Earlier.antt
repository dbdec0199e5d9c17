-- What had been told when each posting was asked for.
use Rattle.std.proofs.Common.{◌≡◌, ◌≤◌, ◌⊎◌, ℕ, zero, suc, List, [], ◌∷◌, ◌++◌, length, take, None, Some, inl, inr, ⊎_elim, refl, sym, ap, subst, ◌∙◌, arith, le_refl}
use Rattle.std.specs.Prelude.{slice_get}
use Rattle.std.proofs.lemmas.List.{length-append, length_push, take-append-le, take_all}
use Rattle.std.proofs.lemmas.Option.{slice_get_within}
use Rattle.run_theorem.specs.Exchange.{Exchange, Sent, Told}
use Rattle.run_cells.specs.RunStates.{State}
use Rattle.run_posts.specs.CallStates.{Wait}
use Rattle.run_posts.specs.Open.{StandsInOrder, told_places}
use Rattle.run_alone.specs.Between.{WasTold, WereTold}

-- ---- counts

none_some : {A : Type 0} (x : A) → None ≡ Some x → ⊥
none_some x e = cc

some_same : {A : Type 0} (x y : A) → Some x ≡ Some y → x ≡ y
some_same x y e = cc

-- with one count more each is one of those before, or the last
pub one_of_more : (counts : List ℕ) (count j k : ℕ) → slice_get (counts ++ count ∷ []) j ≡ Some k
    → (slice_get counts j ≡ Some k) ⊎ ((j ≡ length counts) × (k ≡ count))
one_of_more [] count zero k e = inr (refl, some_same k count (sym e))
one_of_more [] count (suc j) k e = absurd (none_some k e)
one_of_more (c ∷ counts) count zero k e = inl e
one_of_more (c ∷ counts) count (suc j) k e =
    ⊎_elim
    (λ (h : slice_get counts j ≡ Some k). inl h)
    (λ (h : (j ≡ length counts) × (k ≡ count)). inr (ap suc h.0, h.1))
    (one_of_more counts count j k e)

pub one_count_more : (counts : List ℕ) (count n : ℕ) → length counts ≡ n → length (counts ++ count ∷ []) ≡ suc n
one_count_more counts count n e = let pushed = length_push counts count in omega (arith, pushed, e)

-- before the first posting none was asked for
pub none_asked : (counts : List ℕ) (j k : ℕ) → counts ≡ [] → slice_get counts j ≡ Some k → ⊥
none_asked counts j k none at = none_some k (ap (λ (ks : List ℕ). slice_get ks j) (sym none) ∙ at)

-- of so many
pub asked_within : (counts : List ℕ) (j k n : ℕ) → length counts ≡ suc n → slice_get counts j ≡ Some k → j ≤ n
asked_within counts j k n count at = let inside = slice_get_within counts j k at in omega (arith, inside, count)

-- ---- what was told

-- where more is told
pub longer_told : (k : ℕ) (ts more : List Told) → k ≤ length ts → k ≤ length (ts ++ more)
longer_told k ts more within = let both = length-append ts more in omega (arith, both, within)

-- the first are the same
pub first_told : (k : ℕ) (ts more : List Told) → k ≤ length ts → told_places (take k (ts ++ more)) ≡ told_places (take k ts)
first_told k ts more within = ap (λ (l : List Told). told_places l) (take-append-le k ts more within)

module _ (s : State) (n : ℕ) (xs : List Wait) (ts : List Told) (order : StandsInOrder s.setting s.history n ts xs) where
  -- all that was told so far are those that are finished before the next posting
  all_told : WasTold s n ts n (length ts)
  all_told = record {
    within = le_refl (length ts);
    are = ap (λ (l : List Told). told_places l) (take_all (length ts) ts (le_refl (length ts))) ∙ order.told;
  }

  -- one posting more is asked for
  pub told_next : (counts : List ℕ) → length counts ≡ n → ((j k : ℕ) → slice_get counts j ≡ Some k → WasTold s n ts j k)
      → (j k : ℕ) → slice_get (counts ++ length ts ∷ []) j ≡ Some k → WasTold s n ts j k
  told_next counts count were j k at =
      ⊎_elim
      (λ (h : slice_get counts j ≡ Some k). were j k h)
      (λ (h : (j ≡ length counts) × (k ≡ length ts)).
      let place : j ≡ n = h.0 ∙ count in
      let number : k ≡ length ts = h.1 in
      coe 1 0 (i. WasTold s n ts (place i) (number i)) all_told)
      (one_of_more counts (length ts) j k at)

-- the same of the same exchange under other names
pub told_as : (s : State) (n : ℕ) (before now : Exchange) (counts : List ℕ) → now.sent ≡ before.sent
    → now.received.seens ≡ counts → ((j k : ℕ) → slice_get counts j ≡ Some k → WasTold s n before.sent.told j k)
    → WereTold s n now
told_as s n before now counts sent seens were j k at =
    subst (λ (x : Sent). WasTold s n x.told j k) (sym sent)
    (were j k (ap (λ (ks : List ℕ). slice_get ks j) (sym seens) ∙ at))
