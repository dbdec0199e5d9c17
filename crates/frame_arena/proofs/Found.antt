-- The strand of a number among rows.
use Rattle.std.proofs.Common.{◌≡◌, ◌≢◌, ℕ, zero, suc, ◌+◌, ◌<◌, ◌≤◌, true, false, cond, nat_eq, List, [], ◌∷◌, ◌++◌, length, get_or, set, filter, Option, sym, ap, subst, ◌∙◌, refl, arith, ⊎_elim}
use Rattle.std.proofs.lemmas.Bool.{cases_eq, cases_Bool, cond-true, cond-false, and_from, and_left, and_right, eq-eqb, ne_eqb}
use Rattle.frame_arena.specs.Lines.{no_line, new_line}
use Rattle.frame_arena.specs.Entries.{Entry, numbers, is_used, has_number, shown, line_of, new_entry, new_entries}
use Rattle.frame_arena.specs.Places.{Rises}
use Rattle.frame_arena.proofs.Rising.{rises_at, rises_sooner}

-- a row that has another number, or nothing in use, is passed over
pub passed_over : {F K : Type 0} (e : Entry F K) (es : List (Entry F K)) (n : ℕ) → e.number ≢ n → line_of (e ∷ es) n ≡ line_of es n
passed_over e es n ne = cond-false (has_number n e) e.line (line_of es n) (and_left (nat_eq e.number n) e.line.is_live (ne_eqb e.number n ne))

pub freed_over : {F K : Type 0} (e : Entry F K) (es : List (Entry F K)) (n : ℕ) → e.line.is_live ≡ false → line_of (e ∷ es) n ≡ line_of es n
freed_over e es n dead = cond-false (has_number n e) e.line (line_of es n) (and_right (nat_eq e.number n) e.line.is_live dead)

-- the row of the number
pub stops_here : {F K : Type 0} (e : Entry F K) (es : List (Entry F K)) (n : ℕ) → e.number ≡ n → e.line.is_live ≡ true → line_of (e ∷ es) n ≡ e.line
stops_here e es n is live = cond-true (has_number n e) e.line (line_of es n) (and_from (nat_eq e.number n) e.line.is_live (eq-eqb e.number n is) live)

-- no row below the first bound
pub none_below : {F K : Type 0} (es : List (Entry F K)) (from next n : ℕ) → Rises from (numbers es) next → n < from → line_of es n ≡ no_line
none_below [] from next n r lt = refl
none_below (e ∷ es) from next n r lt =
    passed_over e es n (λ is. absurd (omega (arith, is, lt, r.0))) ∙ none_below es (suc e.number) next n r.1 (omega (arith, lt, r.0))

-- what a row shows, if none after it has its number
pub shows_here : {F K : Type 0} (e : Entry F K) (es : List (Entry F K)) (next n : ℕ) → Rises (suc e.number) (numbers es) next → e.number ≡ n
    → line_of (e ∷ es) n ≡ shown e
shows_here e es next n r is =
    ⊎_elim
    (λ live. stops_here e es n is live ∙ sym (cond-true e.line.is_live e.line no_line live))
    (λ dead. freed_over e es n dead ∙ none_below es (suc e.number) next n r (omega (arith, is)) ∙ sym (cond-false e.line.is_live e.line no_line dead))
    (cases_Bool e.line.is_live)

-- a row in front has another number than one after it
pub first_lower : {F K : Type 0} (e : Entry F K) (es : List (Entry F K)) (next n k : ℕ) → Rises (suc e.number) (numbers es) next → k < length (numbers es)
    → get_or (numbers es) k 0 ≡ n → e.number ≢ n
first_lower e es next n k r lt is same = absurd (omega (arith, rises_at (numbers es) (suc e.number) next k r lt, is, same))

-- the row at a place shows the strand of its number
pub shows_at : {F K : Type 0} (es : List (Entry F K)) (from next n k : ℕ) (d : Entry F K) → Rises from (numbers es) next → k < length (numbers es)
    → get_or (numbers es) k 0 ≡ n → line_of es n ≡ shown (get_or es k d)
shows_at [] from next n k d r lt is = absurd (omega (arith, lt))
shows_at (e ∷ es) from next n zero d r lt is = shows_here e es next n r.1 is
shows_at (e ∷ es) from next n (suc k) d r lt is =
    let rest : k < length (numbers es) = omega (arith, lt) in
    passed_over e es n (first_lower e es next n k r.1 rest is) ∙ shows_at es (suc e.number) next n k d r.1 rest is

-- the strand of a number that no row in use has
pub none_there : {F K : Type 0} (es : List (Entry F K)) (n : ℕ) (d : Entry F K)
    → ((i : ℕ) → i < length es → (get_or es i d).number ≡ n → (get_or es i d).line.is_live ≡ false) → line_of es n ≡ no_line
none_there [] n d none = refl
none_there (e ∷ es) n d none =
    let later : line_of es n ≡ no_line = none_there es n d (λ i lt. none (suc i) (omega (arith, lt))) in
    ⊎_elim
    (λ is. freed_over e es n (none 0 (omega arith) is) ∙ later)
    (λ ne. passed_over e es n ne ∙ later)
    (cases_eq e.number n)

-- one row changed: the strand of its number
pub set_same : {F K : Type 0} (es : List (Entry F K)) (from next n k : ℕ) (e : Entry F K) → Rises from (numbers es) next → k < length (numbers es)
    → get_or (numbers es) k 0 ≡ n → e.number ≡ n → line_of (set es k e) n ≡ shown e
set_same [] from next n k e r lt is same = absurd (omega (arith, lt))
set_same (f ∷ fs) from next n zero e r lt is same =
    shows_here e fs next n (subst (λ m. Rises (suc m) (numbers fs) next) (is ∙ sym same) r.1) same
set_same (f ∷ fs) from next n (suc k) e r lt is same =
    let rest : k < length (numbers fs) = omega (arith, lt) in
    passed_over f (set fs k e) n (first_lower f fs next n k r.1 rest is) ∙ set_same fs (suc f.number) next n k e r.1 rest is same

-- and all others
pub set_other : {F K : Type 0} (es : List (Entry F K)) (n k m : ℕ) (e : Entry F K) → k < length (numbers es)
    → get_or (numbers es) k 0 ≡ n → e.number ≡ n → n ≢ m → line_of (set es k e) m ≡ line_of es m
set_other [] n k m e lt is same ne = refl
set_other (f ∷ fs) n zero m e lt is same ne =
    passed_over e fs m (λ x. ne (sym same ∙ x)) ∙ sym (passed_over f fs m (λ x. ne (sym is ∙ x)))
set_other (f ∷ fs) n (suc k) m e lt is same ne =
    ap (λ l. cond (has_number m f) f.line l) (set_other fs n k m e (omega (arith, lt)) is same ne)

-- without the rows of freed strands
pub squeezed : {F K : Type 0} (es : List (Entry F K)) (n : ℕ) → line_of (filter is_used es) n ≡ line_of es n
squeezed [] n = refl
squeezed (e ∷ es) n =
    ⊎_elim
    (λ live. ap (λ l. line_of l n) (cond-true e.line.is_live (e ∷ filter is_used es) (filter is_used es) live)
    ∙ ap (λ l. cond (has_number n e) e.line l) (squeezed es n))
    (λ dead. ap (λ l. line_of l n) (cond-false e.line.is_live (e ∷ filter is_used es) (filter is_used es) dead)
    ∙ squeezed es n ∙ sym (freed_over e es n dead))
    (cases_Bool e.line.is_live)

pub squeezed-rises : {F K : Type 0} (es : List (Entry F K)) (from next : ℕ) → Rises from (numbers es) next → Rises from (numbers (filter is_used es)) next
squeezed-rises [] from next r = r
squeezed-rises {F} {K} (e ∷ es) from next r =
    let rest : Rises (suc e.number) (numbers (filter is_used es)) next = squeezed-rises es (suc e.number) next r.1 in
    ⊎_elim
    (λ live. subst (λ (l : List (Entry F K)). Rises from (numbers l) next) (sym (cond-true e.line.is_live (e ∷ filter is_used es) (filter is_used es) live)) (r.0, rest))
    (λ dead. subst (λ (l : List (Entry F K)). Rises from (numbers l) next) (sym (cond-false e.line.is_live (e ∷ filter is_used es) (filter is_used es) dead))
    (rises_sooner (numbers (filter is_used es)) from (suc e.number) next (omega (arith, r.0)) rest))
    (cases_Bool e.line.is_live)

-- a first row is below the last bound
pub lower : {F K : Type 0} (e : Entry F K) (es : List (Entry F K)) (next : ℕ) → Rises (suc e.number) (numbers es) next → e.number < next
lower e [] next r = omega (arith, r)
lower e (f ∷ fs) next r = omega (arith, r.0, lower f fs next r.1)

-- rows that are put after others
pub joined_below : {F K : Type 0} (es more : List (Entry F K)) (next high n : ℕ) → Rises next (numbers more) high → n < next
    → line_of (es ++ more) n ≡ line_of es n
joined_below [] more next high n r lt = none_below more next high n r lt
joined_below (e ∷ es) more next high n r lt = ap (λ l. cond (has_number n e) e.line l) (joined_below es more next high n r lt)

pub joined_above : {F K : Type 0} (es more : List (Entry F K)) (from next n : ℕ) → Rises from (numbers es) next → next ≤ n
    → line_of (es ++ more) n ≡ line_of more n
joined_above [] more from next n r le = refl
joined_above (e ∷ es) more from next n r le =
    passed_over e (es ++ more) n (λ is. absurd (omega (arith, is, le, lower e es next r.1)))
    ∙ joined_above es more (suc e.number) next n r.1 le

-- no row from the last bound on
pub none_above : {F K : Type 0} (es : List (Entry F K)) (from next n : ℕ) → Rises from (numbers es) next → next ≤ n → line_of es n ≡ no_line
none_above [] from next n r le = refl
none_above (e ∷ es) from next n r le =
    passed_over e es n (λ is. absurd (omega (arith, is, le, lower e es next r.1))) ∙ none_above es (suc e.number) next n r.1 le

-- new rows
pub new_rises : (F K : Type 0) (parent : Option ℕ) (from count : ℕ) → Rises from (numbers (new_entries {F = F} {K = K} parent from count)) (from + count)
new_rises F K parent from zero = omega arith
new_rises F K parent from (suc count) =
    let same : suc from + count ≡ from + suc count = omega arith in
    (omega arith, subst (λ m. Rises (suc from) (numbers (new_entries {F = F} {K = K} parent (suc from) count)) m) same (new_rises F K parent (suc from) count))

pub new_at : {F K : Type 0} (parent : Option ℕ) (from count i m : ℕ) → i < count → m ≡ from + i → line_of (new_entries {F = F} {K = K} parent from count) m ≡ new_line parent
new_at parent from zero i m lt is = absurd (omega (arith, lt))
new_at {F} {K} parent from (suc count) zero m lt is =
    let here : from ≡ m = omega (arith, is) in
    stops_here (new_entry parent from) (new_entries parent (suc from) count) m here refl
new_at {F} {K} parent from (suc count) (suc i) m lt is =
    passed_over (new_entry parent from) (new_entries parent (suc from) count) m (λ (same : from ≡ m). absurd (omega (arith, same, is)))
    ∙ new_at {F = F} {K = K} parent (suc from) count i m (omega (arith, lt)) (omega (arith, is))

pub new_more : {F K : Type 0} (parent : Option ℕ) (from i m : ℕ) → m ≡ from + i
    → new_entries {F = F} {K = K} parent from (suc i) ≡ new_entries parent from i ++ new_entry parent m ∷ []
new_more {F} {K} parent from zero m is =
    let here : from ≡ m = omega (arith, is) in
    ap (λ k. new_entry {F = F} {K = K} parent k ∷ []) here
new_more {F} {K} parent from (suc i) m is = let later : m ≡ suc from + i = omega (arith, is) in
    ap (λ es. new_entry {F = F} {K = K} parent from ∷ es) (new_more {F = F} {K = K} parent (suc from) i m later)
