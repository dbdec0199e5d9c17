-- How often a number stands in lists, and which numbers are below another.
use Rattle.std.proofs.Common.{◌≡◌, ℕ, suc, ◌+◌, ◌-◌, ◌≤◌, ◌<◌, min, Bool, true, false, cond, not, List, [], ◌∷◌, ◌++◌, nat_eq, nat_lt, count_by, ⊎_elim, refl, sym, ap, arith}
use Rattle.std.specs.List.{list_all}
use Rattle.std.proofs.lemmas.Bool.{eqb-true, eqb-false, eq-eqb, ne_eqb, ltb-true, lt-ltb, not-true, not_from_false, and_parts, and_from, or_parts, or_from, cases_eq}
use Rattle.std.proofs.lemmas.List.Sums.{sum_by-cons, sum_by-append}
use Rattle.behaviour_tree.specs.Distinct.{numbers_differ}
use Rattle.behaviour_tree.specs.Operations.{is_among}
use Rattle.session_calculus.specs.Sound.{are_below}

-- one where it is so
abbrev pub once : Bool → ℕ
once b = cond b 1 0

-- how often a number stands in a list
abbrev pub times : ℕ → List ℕ → ℕ
times k ns = count_by (nat_eq k) ns

-- in a longer list
pub times-cons : (k n : ℕ) (ns : List ℕ) → times k (n ∷ ns) ≡ once (nat_eq k n) + times k ns
times-cons k n ns = sum_by-cons (λ x. cond (nat_eq k x) 1 0) n ns

-- in two lists
pub times-append : (k : ℕ) (ns ms : List ℕ) → times k (ns ++ ms) ≡ times k ns + times k ms
times-append k ns ms = sum_by-append (λ x. cond (nat_eq k x) 1 0) ns ms

-- one where number x is below n
pub below : ℕ → ℕ → ℕ
below n x = min 1 (n - x)

-- a number counts once beside those below it
pub below-suc : (x n : ℕ) → once (nat_eq x n) + below n x ≡ below (suc n) x
unfolding below
below-suc x n = go (nat_eq x n) refl
  where
    go : (b : Bool) → nat_eq x n ≡ b → once b + min 1 (n - x) ≡ min 1 (suc n - x)
    go true e = let same : x ≡ n = eqb-true x n e in omega arith
    go false e = let other : x ≡ n → ⊥ = eqb-false x n e in omega arith

-- a number is below another or not
pub below-at : (x n : ℕ) → x < n → below n x ≡ 1
unfolding below
below-at x n h = omega arith

-- what counts is below
pub below-lt : (x n : ℕ) → 1 ≤ below n x → x < n
unfolding below
below-lt x n h = omega arith

-- at most one
pub below-le : (x n : ℕ) → below n x ≤ 1
unfolding below
below-le x n = omega arith

-- of a larger number
pub below-grows : (x n m : ℕ) → n ≤ m → below n x ≤ below m x
unfolding below
below-grows x n m h = omega arith

-- nothing is below zero
pub below-zero : (x : ℕ) → below 0 x ≡ 0
unfolding below
below-zero x = omega arith

-- at most one
pub once-le : (b : Bool) → once b ≤ 1
once-le true = omega arith
once-le false = omega arith

-- a number is itself
pub once-same : (x n : ℕ) → x ≡ n → once (nat_eq x n) ≡ 1
once-same x n same = ap once (eq-eqb x n same)

-- a number is no other
pub once-other : (x n : ℕ) → (x ≡ n → ⊥) → once (nat_eq x n) ≡ 0
once-other x n other = ap once (ne_eqb x n other)

-- what is not among numbers stands never in them
pub times-not_among : (n : ℕ) (ns : List ℕ) → is_among ns n ≡ false → times n ns ≡ 0
times-not_among n [] e = refl
times-not_among n (m ∷ ns) e =
    let both = or_parts (nat_eq m n) (is_among ns n) e in
    omega (
      arith,
      times-cons n m ns,
      once-other n m (λ same. eqb-false m n both.0 (sym same)),
      times-not_among n ns both.1,
    )

-- what stands never in numbers is not among them
pub not_among-times : (n : ℕ) (ns : List ℕ) → times n ns ≡ 0 → is_among ns n ≡ false
not_among-times n [] e = refl
not_among-times n (m ∷ ns) e =
    let rest : times n ns ≡ 0 = omega (arith, times-cons n m ns) in
    let other : n ≡ m → ⊥ = λ same. absurd (omega (arith, times-cons n m ns, once-same n m same)) in
    or_from (nat_eq m n) (is_among ns n) (ne_eqb m n (λ same. other (sym same))) (not_among-times n ns rest)

-- numbers that differ stand once at most
pub differ-times : (ns : List ℕ) → numbers_differ ns ≡ true → (x : ℕ) → times x ns ≤ 1
differ-times [] e x = omega arith
differ-times (n ∷ ns) e x =
    let both = and_parts (not (is_among ns n)) (numbers_differ ns) e in
    ⊎_elim
    (λ (same : x ≡ n). omega (
      arith,
      times-cons x n ns,
      once-le (nat_eq x n),
      ap (λ y. times y ns) same,
      times-not_among n ns (not-true (is_among ns n) both.0),
    ))
    (λ (other : x ≡ n → ⊥). omega (arith, times-cons x n ns, once-other x n other, differ-times ns both.1 x))
    (cases_eq x n)

-- and the other way round
pub times-differ : (ns : List ℕ) → ((x : ℕ) → times x ns ≤ 1) → numbers_differ ns ≡ true
times-differ [] h = refl
times-differ (n ∷ ns) h =
    and_from (not (is_among ns n)) (numbers_differ ns)
    (not_from_false (is_among ns n) (not_among-times n ns (omega (arith, times-cons n n ns, once-same n n refl, h n))))
    (times-differ ns (λ x. omega (arith, times-cons x n ns, h x)))

-- numbers that differ and are below another stand once at most, and only below
pub sound-times : (most : ℕ) (ns : List ℕ) → are_below most ns ≡ true → (x : ℕ) → times x ns ≤ below most x
sound-times most ns e =
    let both = and_parts (numbers_differ ns) (list_all (λ n. nat_lt n most) ns) e in go ns both.0 both.1
  where
    go : (ns : List ℕ) → numbers_differ ns ≡ true → list_all (λ n. nat_lt n most) ns ≡ true → (x : ℕ)
        → times x ns ≤ below most x
    go [] d l x = omega arith
    go (n ∷ ns) d l x =
        let both = and_parts (nat_lt n most) (list_all (λ m. nat_lt m most) ns) l in
        let rest = and_parts (not (is_among ns n)) (numbers_differ ns) d in
        ⊎_elim
        (λ (same : x ≡ n). omega (
          arith,
          differ-times (n ∷ ns) d x,
          below-at x most (omega (arith, ltb-true n most both.0)),
        ))
        (λ (other : x ≡ n → ⊥). omega (arith, times-cons x n ns, once-other x n other, go ns rest.1 both.1 x))
        (cases_eq x n)

-- and the other way round
pub times-sound : (most : ℕ) (ns : List ℕ) → ((x : ℕ) → times x ns ≤ below most x) → are_below most ns ≡ true
times-sound most ns h =
    and_from (numbers_differ ns) (list_all (λ n. nat_lt n most) ns)
    (times-differ ns (λ x. omega (arith, h x, below-le x most))) (go ns h)
  where
    go : (ns : List ℕ) → ((x : ℕ) → times x ns ≤ below most x) → list_all (λ n. nat_lt n most) ns ≡ true
    go [] h = refl
    go (n ∷ ns) h =
        and_from (nat_lt n most) (list_all (λ m. nat_lt m most) ns)
        (lt-ltb n most (below-lt n most (omega (arith, times-cons n n ns, once-same n n refl, h n))))
        (go ns (λ x. omega (arith, times-cons x n ns, h x)))
