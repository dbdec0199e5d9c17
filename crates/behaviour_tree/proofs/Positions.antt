use Rattle.std.proofs.Common.{◌≡◌, ℕ, suc, ◌+◌, ◌^◌, ◌≤◌, Bool, true, false, cond, List, [], ◌∷◌, ◌++◌, length, refl, sym, ap, subst, arith, add-zero, Option, Some, None}
use Rattle.std.specs.Prelude.{option_and_then}
use Rattle.std.specs.List.{position_from}
use Rattle.std.proofs.lemmas.Option.{none-some, same_Some}
use Rattle.std.proofs.lemmas.Grind.{common_steps}
use Rattle.behaviour_tree.specs.Operations.{in_32_bits}

here : (b : Bool) (i j k : ℕ) (before after : Option ℕ) → cond b (Some j) before ≡ Some k → (before ≡ Some k → after ≡ Some (i + k)) → cond b (Some (i + j)) after ≡ Some (i + k)
here true i j k before after e f = ap (λ n. Some (i + n)) (same_Some j k e)
here false i j k before after e f = f e

-- a place in a list is a place in a longer one, as much later as the count begins later
position-within-at : {A : Type 0} (t : A → Bool) (i j k : ℕ) (xs ys : List A) → position_from t j xs ≡ Some k → position_from t (i + j) (xs ++ ys) ≡ Some (i + k)
position-within-at t i j k [] ys e = absurd (none-some k e)
position-within-at t i j k (x ∷ xs) ys e =
    let P : ℕ → Type 0 = λ n. position_from t n (xs ++ ys) ≡ Some (i + k) in
    let same : i + (j + 1) ≡ i + j + 1 = omega arith in
    here (t x) i j k (position_from t (j + 1) xs) (position_from t (i + j + 1) (xs ++ ys)) e (λ h. subst P same (position-within-at t i (j + 1) k xs ys h))

pub position-within : {A : Type 0} (t : A → Bool) (i k : ℕ) (xs ys : List A) → position_from t 0 xs ≡ Some k → position_from t i (xs ++ ys) ≡ Some (i + k)
position-within t i k xs ys e = rw (add-zero i) at (position-within-at t i 0 k xs ys e)

further : (b : Bool) (i j : ℕ) (before after later : Option ℕ) → cond b (Some j) before ≡ None → (before ≡ None → after ≡ later) → cond b (Some i) after ≡ later
further true i j before after later e f = absurd (none-some j (sym e))
further false i j before after later e f = f e

-- behind a list without a place the count goes on
position-behind-at : {A : Type 0} (t : A → Bool) (i j : ℕ) (xs ys : List A) → position_from t j xs ≡ None → position_from t i (xs ++ ys) ≡ position_from t (i + length xs) ys
position-behind-at t i j [] ys e = rw (add-zero i) refl
position-behind-at t i j (x ∷ xs) ys e =
    let P : ℕ → Type 0 = λ n. position_from t (i + 1) (xs ++ ys) ≡ position_from t n ys in
    let same : i + 1 + length xs ≡ i + suc (length xs) = omega arith in
    further (t x) i j (position_from t (j + 1) xs) (position_from t (i + 1) (xs ++ ys)) (position_from t (i + suc (length xs)) ys) e (λ h. subst P same (position-behind-at t (i + 1) (j + 1) xs ys h))

pub position-behind : {A : Type 0} (t : A → Bool) (i : ℕ) (xs ys : List A) → position_from t 0 xs ≡ None → position_from t i (xs ++ ys) ≡ position_from t (i + length xs) ys
position-behind t i xs ys e = position-behind-at t i 0 xs ys e

large : (n : ℕ) → in_32_bits n ≡ None → 2 ^ 32 ≤ n
large n e = grind (arith, common_steps)

too-large : (n : ℕ) → 2 ^ 32 ≤ n → in_32_bits n ≡ None
too-large n le = grind (arith, common_steps)

beyond : (b : Bool) (i : ℕ) (later : Option ℕ) → in_32_bits i ≡ None → option_and_then in_32_bits later ≡ None → option_and_then in_32_bits (cond b (Some i) later) ≡ None
beyond true i later e f = e
beyond false i later e f = f

-- no place behind the numbers of 32 bits is one
pub position-beyond : {A : Type 0} (t : A → Bool) (i : ℕ) (xs : List A) → in_32_bits i ≡ None → option_and_then in_32_bits (position_from t i xs) ≡ None
position-beyond t i [] e = refl
position-beyond t i (x ∷ xs) e =
    let le = large i e in
    beyond (t x) i (position_from t (i + 1) xs) e (position-beyond t (i + 1) xs (too-large (i + 1) (omega (arith, le))))
