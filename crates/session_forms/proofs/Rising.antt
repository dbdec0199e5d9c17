-- Numbers in rising order are told by how often each of them is there.
use Rattle.std.proofs.Common.{◌≡◌, ℕ, suc, ◌+◌, ◌<◌, ◌≤◌, Bool, true, false, if◌then◌else◌, nat_le, nat_eq, List, [], ◌∷◌, length, get_or, inl, inr, refl, sym, ap, ◌∙◌, arith}
use Rattle.std.specs.List.{sum_by}
use Rattle.std.specs.List.Sorted.{IsPermutation, IsNonDecreasing}
use Rattle.std.proofs.lemmas.List.Sums.{sum_by-cons}
use Rattle.std.proofs.lemmas.List.Sorted.{sum_by-IsPermutation}
use Rattle.std.proofs.lemmas.Bool.{leb-true, leb-false, eqb-true, eq-eqb}
use Rattle.std.proofs.lemmas.Bool.Decides.{leb_tells}
use Rattle.session_calculus.specs.Ready.{placed, rising}

-- 1 for a number itself, and 0 for any other
abbrev one : ℕ → ℕ → ℕ
one n m = if nat_eq n m then 1 else 0

one-same : (n : ℕ) → one n n ≡ 1
one-same n = rw (eq-eqb n n refl) refl

one-other : (n m : ℕ) (b : Bool) → nat_eq n m ≡ b → n < m → one n m ≡ 0
one-other n m true e h = absurd (omega (arith, eqb-true n m e))
one-other n m false e h = rw e refl

one-less : (n m : ℕ) → n < m → one n m ≡ 0
one-less n m h = one-other n m (nat_eq n m) refl h

-- how often a number is there
abbrev times : ℕ → List ℕ → ℕ
times n [] = 0
times n (m ∷ ms) = one n m + times n ms

times-sum_by : (n : ℕ) (xs : List ℕ) → sum_by (one n) xs ≡ times n xs
times-sum_by n [] = refl
times-sum_by n (x ∷ xs) = sum_by-cons (one n) x xs ∙ ap (λ k. one n x + k) (times-sum_by n xs)

-- another order changes nothing of that
times-permutation : (n : ℕ) (xs ys : List ℕ) → IsPermutation xs ys → times n ys ≡ times n xs
times-permutation n xs ys h = sym (times-sum_by n ys) ∙ sum_by-IsPermutation (one n) xs ys h ∙ times-sum_by n xs

times-placed : (n m : ℕ) (xs : List ℕ) → times n (placed m xs) ≡ one n m + times n xs
times-placed n m [] = refl
times-placed n m (k ∷ ks) =
    elim (nat_le m k) as (λ b. times n (if b then m ∷ k ∷ ks else k ∷ placed m ks) ≡ one n m + (one n k + times n ks)) [
      | true ↦ refl
      | false ↦ omega (arith, times-placed n m ks)
    ]

times-rising : (n : ℕ) (xs : List ℕ) → times n (rising xs) ≡ times n xs
times-rising n [] = refl
times-rising n (x ∷ xs) = times-placed n x (rising xs) ∙ ap (λ k. one n x + k) (times-rising n xs)

-- no number is below another
abbrev AtLeast : ℕ → List ℕ → Type 0
AtLeast n [] = Unit {0}
AtLeast n (m ∷ ms) = (n ≤ m) × AtLeast n ms

-- none is below one before it
abbrev Rises : List ℕ → Type 0
Rises [] = Unit {0}
Rises (n ∷ ns) = AtLeast n ns × Rises ns

AtLeast-less : (k n : ℕ) (ns : List ℕ) → k ≤ n → AtLeast n ns → AtLeast k ns
AtLeast-less k n [] h a = tt
AtLeast-less k n (m ∷ ms) h a = (omega (arith, a.0), AtLeast-less k n ms h a.1)

AtLeast-placed : (k m : ℕ) (xs : List ℕ) → k ≤ m → AtLeast k xs → AtLeast k (placed m xs)
AtLeast-placed k m [] h a = (h, tt)
AtLeast-placed k m (x ∷ xs) h a =
    elim (nat_le m x) as (λ b. AtLeast k (if b then m ∷ x ∷ xs else x ∷ placed m xs)) [
      | true ↦ (h, a)
      | false ↦ (a.0, AtLeast-placed k m xs h a.1)
    ]

Rises-chosen : (m x : ℕ) (xs : List ℕ) (b : Bool) → nat_le m x ≡ b → Rises (x ∷ xs) → Rises (placed m xs) → Rises (if b then m ∷ x ∷ xs else x ∷ placed m xs)
Rises-chosen m x xs true e r p = let h : m ≤ x = leb-true m x e in ((h, AtLeast-less m x xs h r.0), r)
Rises-chosen m x xs false e r p = let h : x < m = leb-false m x e in (AtLeast-placed x m xs (omega arith) r.0, p)

Rises-placed : (m : ℕ) (xs : List ℕ) → Rises xs → Rises (placed m xs)
Rises-placed m [] r = (tt, tt)
Rises-placed m (x ∷ xs) r = Rises-chosen m x xs (nat_le m x) refl r (Rises-placed m xs r.1)

Rises-rising : (xs : List ℕ) → Rises (rising xs)
Rises-rising [] = tt
Rises-rising (x ∷ xs) = Rises-placed x (rising xs) (Rises-rising xs)

AtLeast-all : (n : ℕ) (ns : List ℕ) → ((k d : ℕ) → k < length ns → n ≤ get_or ns k d) → AtLeast n ns
AtLeast-all n [] h = tt
AtLeast-all n (m ∷ ms) h = (h 0 0 (omega arith), AtLeast-all n ms (λ k d lt. h (suc k) d (omega arith)))

-- what does not fall rises
Rises-all : (ns : List ℕ) → IsNonDecreasing ns → Rises ns
Rises-all [] h = tt
Rises-all (n ∷ ns) h =
    (AtLeast-all n ns (λ k d lt. h 0 (suc k) d (omega arith) (omega arith)), Rises-all ns (λ i j d le lt. h (suc i) (suc j) d (omega arith) (omega arith)))

times-below : (x n : ℕ) (ns : List ℕ) → x < n → AtLeast n ns → times x ns ≡ 0
times-below x n [] h a = refl
times-below x n (m ∷ ms) h a =
    let less : x < m = omega (arith, a.0) in
    omega (arith, one-less x m less, times-below x n ms h a.1)

not_above : (x y : ℕ) (xs ys : List ℕ) → AtLeast x xs → times y (x ∷ xs) ≡ times y (y ∷ ys) → x ≤ y
not_above x y xs ys a h =
    elim (leb_tells x y) [
      | inl p ↦ p.1
      | inr q ↦ absurd (omega (arith, h, one-same y, one-less y x q.1, times-below y x xs q.1 a))
    ]

-- lists that rise, with each number as often
same_rising : (xs ys : List ℕ) → Rises xs → Rises ys → ((n : ℕ) → times n xs ≡ times n ys) → xs ≡ ys
same_rising [] [] r s h = refl
same_rising [] (y ∷ ys) r s h = absurd (omega (arith, h y, one-same y))
same_rising (x ∷ xs) [] r s h = absurd (omega (arith, h x, one-same x))
same_rising (x ∷ xs) (y ∷ ys) r s h =
    let low : x ≤ y = not_above x y xs ys r.0 (h y) in
    let high : y ≤ x = not_above y x ys xs s.0 (sym (h x)) in
    let e : x ≡ y = omega arith in
    ap (λ n. n ∷ xs) e ∙ ap (λ ns. y ∷ ns) (same_rising xs ys r.1 s.1 (λ n. omega (arith, h n, ap (one n) e)))

-- numbers in another order that do not fall are these numbers in rising order
pub sorted-rising : (xs ys : List ℕ) → IsPermutation xs ys → IsNonDecreasing ys → ys ≡ rising xs
sorted-rising xs ys p s =
    same_rising ys (rising xs) (Rises-all ys s) (Rises-rising xs) (λ n. times-permutation n xs ys p ∙ sym (times-rising n xs))
