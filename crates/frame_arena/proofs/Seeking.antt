-- What is found among rows in memory, and rows that are put after others.
use Rattle.std.proofs.Common.{◌≡◌, ℕ, suc, ◌+◌, ◌<◌, ◌≤◌, true, false, List, [], ◌∷◌, ◌++◌, length, get_or, Option, sym, ap, ◌∙◌, refl, arith, ⊎_elim}
use Rattle.std.proofs.lemmas.Bool.{cases_lt}
use Rattle.std.proofs.lemmas.List.{length-map, map-append, append_assoc}
use Rattle.frame_arena.specs.Lines.{no_line}
use Rattle.frame_arena.specs.Entries.{Entry, entry, entries, numbers, line_of, new_entry, new_entries}
use Rattle.frame_arena.specs.Places.{IsRising, IsPlace, IsRowOf, IsNextRow}
use Rattle.frame_arena.specs.declared.row.Row.{Row}
use Rattle.frame_arena.proofs.Rising.{went_up, went_down}
use Rattle.frame_arena.proofs.Found.{new_more}
use Rattle.frame_arena.proofs.Rows.{length_numbers, number_at, entry_at}
use Rattle.frame_arena.proofs.Changes.{length_of_numbers, number_of, row_at, none_at, live_at}
use Rattle.frame_arena.proofs.Reading.{dead_between}

-- any row at all
pub some_entry : (F K : Type 0) → Entry F K
some_entry F K = record { number = 0; line = no_line }

pub length_entries : {F K : Type 0} (rows : List (Row F K)) → length (entries rows) ≡ length rows
length_entries {F} {K} rows = length-map rows (entry {F = F} {K = K})

-- a number is higher than the one in the middle
pub sought_up : {F K : Type 0} (rows : List (Row F K)) (n middle : ℕ) (x : Row F K) → IsRising (numbers (entries rows)) → middle < length rows
    → x ≡ get_or rows middle x → x.number < n → (i : ℕ) → i < middle + 1 → get_or (numbers (entries rows)) i 0 < n
sought_up rows n middle x rising lt is less =
    went_up (numbers (entries rows)) 0 rising.0 n middle rising.1 (omega (arith, lt, length_numbers rows)) (omega (arith, number_at rows middle x lt is, less))

-- or it is not
pub sought_down : {F K : Type 0} (rows : List (Row F K)) (n middle : ℕ) (x : Row F K) → IsRising (numbers (entries rows)) → middle < length rows
    → x ≡ get_or rows middle x → n ≤ x.number → (i : ℕ) → middle ≤ i → i < length (numbers (entries rows)) → n ≤ get_or (numbers (entries rows)) i 0
sought_down rows n middle x rising lt is more =
    went_down (numbers (entries rows)) 0 rising.0 n middle rising.1 (omega (arith, number_at rows middle x lt is, more))

-- the row with the number is that of the strand, if it is in use
pub row_found : {F K : Type 0} (rows : List (Row F K)) (n k : ℕ) (x : Row F K) → IsRising (numbers (entries rows)) → k < length rows
    → x ≡ get_or rows k x → x.number ≡ n → x.is_live ≡ true → IsRowOf (entries rows) n k
row_found rows n k x rising lt is same live =
    row_at (entries rows) rising.0 n k (entry x) rising.1 (omega (arith, lt, length_entries rows)) (λ d. entry_at rows k x d lt is) same live

-- no row stands at the place of the number
pub row_past : {F K : Type 0} (rows : List (Row F K)) (n k : ℕ) → IsRising (numbers (entries rows)) → IsPlace (numbers (entries rows)) n k
    → length rows ≤ k → line_of (entries rows) n ≡ no_line
row_past {F} {K} rows n k rising at past =
    none_at (entries rows) rising.0 n k (some_entry F K) rising.1 at (λ lt is. absurd (omega (arith, lt, past, length_entries rows)))

-- the row at the place of the number is another one, or not in use
pub row_missing : {F K : Type 0} (rows : List (Row F K)) (n k : ℕ) (x : Row F K) → IsRising (numbers (entries rows)) → IsPlace (numbers (entries rows)) n k
    → k < length rows → x ≡ get_or rows k x → (x.number ≡ n → x.is_live ≡ false) → line_of (entries rows) n ≡ no_line
row_missing {F} {K} rows n k x rising at lt is dead =
    let here : get_or (entries rows) k (some_entry F K) ≡ entry x = entry_at rows k x (some_entry F K) lt is in
    none_at (entries rows) rising.0 n k (some_entry F K) rising.1 at
    (λ lt' same. ap (λ (e : Entry F K). e.line.is_live) here ∙ dead (sym (ap (λ (e : Entry F K). e.number) here) ∙ same))

-- the strand that is there has its row there
pub row_live : {F K : Type 0} (rows : List (Row F K)) (n k : ℕ) → IsRising (numbers (entries rows)) → IsPlace (numbers (entries rows)) n k
    → (line_of (entries rows) n).is_live ≡ true → IsRowOf (entries rows) n k
row_live {F} {K} rows n k rising at live = live_at (entries rows) rising.0 n k (some_entry F K) rising.1 at live

pub row_within : {F K : Type 0} (rows : List (Row F K)) (n k : ℕ) → IsRowOf (entries rows) n k → k < length rows
row_within rows n k row = omega (arith, row.within, length_entries rows)

-- one row more that is not in use
pub dead_more : {F K : Type 0} (rows : List (Row F K)) (start k : ℕ) (x : Row F K) → k < length rows → x ≡ get_or rows k x → x.is_live ≡ false
    → ((d : Entry F K) (i : ℕ) → start ≤ i → i < k → (get_or (entries rows) i d).line.is_live ≡ false)
    → (d : Entry F K) (i : ℕ) → start ≤ i → i < k + 1 → (get_or (entries rows) i d).line.is_live ≡ false
dead_more {F} {K} rows start k x lt is dead before d i low high =
    ⊎_elim
    (λ (under : i < k). before d i low under)
    (λ (over : k ≤ i).
    let here : i ≡ k = omega (arith, over, high) in
    ap (λ j. (get_or (entries rows) j d).line.is_live) here ∙ ap (λ (e : Entry F K). e.line.is_live) (entry_at rows k x d lt is) ∙ dead)
    (cases_lt i k)

-- the first one in use
pub next_found : {F K : Type 0} (rows : List (Row F K)) (from start k : ℕ) (x : Row F K) → IsRising (numbers (entries rows))
    → IsPlace (numbers (entries rows)) from start → start ≤ k → k < length rows → x ≡ get_or rows k x → x.is_live ≡ true
    → ((d : Entry F K) (i : ℕ) → start ≤ i → i < k → (get_or (entries rows) i d).line.is_live ≡ false) → IsNextRow (entries rows) from k
next_found {F} {K} rows from start k x rising at above lt is live dead =
    let within : k < length (entries rows) = omega (arith, lt, length_entries rows) in
    record {
      within = within;
      above = λ d.
          let least = at.after k above (omega (arith, within, length_of_numbers (entries rows))) in
          omega (arith, least, number_of (entries rows) k d within);
      live = λ d. ap (λ (e : Entry F K). e.line.is_live) (entry_at rows k x d lt is) ∙ live;
      none_before = λ d n low high. dead_between (entries rows) rising.0 from start k n d rising.1 at (dead d) low (λ _. high);
    }

-- there is none
pub none_found : {F K : Type 0} (rows : List (Row F K)) (from start k : ℕ) → IsRising (numbers (entries rows)) → IsPlace (numbers (entries rows)) from start
    → length rows ≤ k → ((d : Entry F K) (i : ℕ) → start ≤ i → i < k → (get_or (entries rows) i d).line.is_live ≡ false)
    → (n : ℕ) → from ≤ n → line_of (entries rows) n ≡ no_line
none_found {F} {K} rows from start k rising at past dead n low =
    dead_between (entries rows) rising.0 from start k n (some_entry F K) rising.1 at (dead (some_entry F K)) low
    (λ (here : k < length (entries rows)). absurd (omega (arith, here, past, length_entries rows)))

-- one new row more after the others
pub grown_more : {F K : Type 0} (old now new : List (Row F K)) (x : Row F K) (parent : Option ℕ) (first i j : ℕ)
    → entries now ≡ entries old ++ new_entries parent first i → new ≡ now ++ x ∷ [] → entry x ≡ new_entry parent (first + i) → j ≡ suc i
    → entries new ≡ entries old ++ new_entries parent first j
grown_more {F} {K} old now new x parent first i j before pushed made next =
    let more : List (Entry F K) = new_entries parent first i in
    ap (λ (l : List (Row F K)). entries l) pushed
    ∙ map-append entry now (x ∷ [])
    ∙ ap (λ (l : List (Entry F K)). l ++ entry x ∷ []) before
    ∙ append_assoc (entries old) more (entry x ∷ [])
    ∙ ap (λ (e : Entry F K). entries old ++ (more ++ e ∷ [])) made
    ∙ ap (λ (l : List (Entry F K)). entries old ++ l) (sym (new_more {F = F} {K = K} parent first i (first + i) refl))
    ∙ ap (λ k. entries old ++ new_entries {F = F} {K = K} parent first k) (sym next)
