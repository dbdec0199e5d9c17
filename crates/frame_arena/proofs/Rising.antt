-- Numbers that rise.
use Rattle.std.proofs.Common.{◌≡◌, ℕ, zero, suc, ◌+◌, ◌<◌, ◌≤◌, List, [], ◌∷◌, ◌++◌, length, get_or, arith, ⊎_elim}
use Rattle.std.proofs.lemmas.Bool.{cases_order}
use Rattle.frame_arena.specs.Places.{Rises, IsPlace}

-- none is below the first bound
pub rises_at : (ns : List ℕ) (from next i : ℕ) → Rises from ns next → i < length ns → from ≤ get_or ns i 0
rises_at [] from next i r lt = absurd (omega (arith, lt))
rises_at (n ∷ ns) from next zero r lt = r.0
rises_at (n ∷ ns) from next (suc i) r lt = omega (arith, r.0, rises_at ns (suc n) next i r.1 (omega (arith, lt)))

-- nor above the last
pub rises_below : (ns : List ℕ) (from next i : ℕ) → Rises from ns next → i < length ns → get_or ns i 0 < next
rises_below [] from next i r lt = absurd (omega (arith, lt))
rises_below (n ∷ []) from next zero r lt = omega (arith, r.1)
rises_below (n ∷ m ∷ ns) from next zero r lt = omega (arith, r.1.0, rises_below (m ∷ ns) (suc n) next 0 r.1 (omega arith))
rises_below (n ∷ ns) from next (suc i) r lt = rises_below ns (suc n) next i r.1 (omega (arith, lt))

-- a later one is not lower
pub rises_order : (ns : List ℕ) (from next i j : ℕ) → Rises from ns next → i ≤ j → j < length ns → get_or ns i 0 ≤ get_or ns j 0
rises_order [] from next i j r le lt = absurd (omega (arith, lt))
rises_order (n ∷ ns) from next zero zero r le lt = omega arith
rises_order (n ∷ ns) from next zero (suc j) r le lt = omega (arith, rises_at ns (suc n) next j r.1 (omega (arith, lt)))
rises_order (n ∷ ns) from next (suc i) zero r le lt = absurd (omega (arith, le))
rises_order (n ∷ ns) from next (suc i) (suc j) r le lt = rises_order ns (suc n) next i j r.1 (omega (arith, le)) (omega (arith, lt))

-- they rise from a lower bound too
pub rises_sooner : (ns : List ℕ) (low from next : ℕ) → low ≤ from → Rises from ns next → Rises low ns next
rises_sooner [] low from next le r = omega (arith, le, r)
rises_sooner (n ∷ ns) low from next le r = (omega (arith, le, r.0), r.1)

-- and to a higher one
pub rises_longer : (ns : List ℕ) (from next high : ℕ) → next ≤ high → Rises from ns next → Rises from ns high
rises_longer [] from next high le r = omega (arith, le, r)
rises_longer (n ∷ ns) from next high le r = (r.0, rises_longer ns (suc n) next high le r.1)

-- those that are put after them
pub rises_joined : (ns ms : List ℕ) (from next high : ℕ) → Rises from ns next → Rises next ms high → Rises from (ns ++ ms) high
rises_joined [] ms from next high r s = rises_sooner ms from next high r s
rises_joined (n ∷ ns) ms from next high r s = (r.0, rises_joined ns ms (suc n) next high r.1 s)

-- the half in which a number is sought
pub went_up : (ns : List ℕ) (from next n middle : ℕ) → Rises from ns next → middle < length ns → get_or ns middle 0 < n
    → (i : ℕ) → i < middle + 1 → get_or ns i 0 < n
went_up ns from next n middle r lt less i below = omega (arith, less, rises_order ns from next i middle r (omega (arith, below)) lt)

pub went_down : (ns : List ℕ) (from next n middle : ℕ) → Rises from ns next → n ≤ get_or ns middle 0
    → (i : ℕ) → middle ≤ i → i < length ns → n ≤ get_or ns i 0
went_down ns from next n middle r more i above lt = omega (arith, more, rises_order ns from next middle i r above lt)

-- a later one is higher
pub rises_strict : (ns : List ℕ) (from next i j : ℕ) → Rises from ns next → i < j → j < length ns → get_or ns i 0 < get_or ns j 0
rises_strict [] from next i j r less lt = absurd (omega (arith, lt))
rises_strict (n ∷ ns) from next i zero r less lt = absurd (omega (arith, less))
rises_strict (n ∷ ns) from next zero (suc j) r less lt = omega (arith, rises_at ns (suc n) next j r.1 (omega (arith, lt)))
rises_strict (n ∷ ns) from next (suc i) (suc j) r less lt = rises_strict ns (suc n) next i j r.1 (omega (arith, less)) (omega (arith, lt))

-- a number stands at its place alone
pub place_is : (ns : List ℕ) (next n k i : ℕ) → Rises 0 ns next → IsPlace ns n k → i < length ns → get_or ns i 0 ≡ n → i ≡ k
place_is ns next n k i r at lt is =
    ⊎_elim
    (λ (same : i ≡ k). same)
    (λ other.
    ⊎_elim
    (λ (below : i < k). absurd (omega (arith, is, at.before i below)))
    (λ (above : k < i).
    let least = at.after k (omega arith) (omega (arith, above, lt)) in
    absurd (omega (arith, is, least, rises_strict ns 0 next k i r above lt)))
    other)
    (cases_order i k)
