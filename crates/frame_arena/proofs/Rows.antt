-- Rows in memory, as entries.
use Rattle.std.proofs.Common.{◌≡◌, ℕ, ◌+◌, ◌<◌, List, [], ◌∷◌, ◌++◌, length, get_or, filter, take, sym, ap, ◌∙◌, refl, arith, ⊎_elim}
use Rattle.std.proofs.lemmas.Bool.{cases_Bool, cond-true, cond-false}
use Rattle.std.proofs.lemmas.List.{length-map, get_or-map, take-map, take_at}
use Rattle.frame_arena.specs.Entries.{Entry, entry, entries, numbers, is_used}
use Rattle.frame_arena.specs.declared.row.Row.{Row}

pub length_numbers : {F K : Type 0} (rows : List (Row F K)) → length (numbers (entries rows)) ≡ length rows
length_numbers {F} {K} rows = length-map (entries rows) (λ (e : Entry F K). e.number) ∙ length-map rows (entry {F = F} {K = K})

-- the number of the row at a place
pub number_at : {F K : Type 0} (rows : List (Row F K)) (k : ℕ) (x : Row F K) → k < length rows → x ≡ get_or rows k x
    → get_or (numbers (entries rows)) k 0 ≡ x.number
number_at {F} {K} rows k x lt is =
    get_or-map (λ (e : Entry F K). e.number) (entries rows) k (entry x) 0 (omega (arith, length-map rows (entry {F = F} {K = K})))
    ∙ ap (λ (e : Entry F K). e.number) (get_or-map entry rows k x (entry x) lt)
    ∙ ap (λ (r : Row F K). r.number) (sym is)

-- the row at a place
pub entry_at : {F K : Type 0} (rows : List (Row F K)) (k : ℕ) (x : Row F K) (d : Entry F K) → k < length rows → x ≡ get_or rows k x
    → get_or (entries rows) k d ≡ entry x
entry_at {F} {K} rows k x d lt is = get_or-map entry rows k x d lt ∙ ap entry (sym is)

-- the rows of strands that are there
pub filtered : {F K : Type 0} (rows : List (Row F K)) → entries (filter (λ (r : Row F K). r.is_live) rows) ≡ filter is_used (entries rows)
filtered [] = refl
filtered {F} {K} (r ∷ rows) =
    ⊎_elim
    (λ live. ap (λ (l : List (Row F K)). entries l) (cond-true r.is_live (r ∷ filter (λ (q : Row F K). q.is_live) rows) (filter (λ (q : Row F K). q.is_live) rows) live)
    ∙ ap (λ l. entry r ∷ l) (filtered rows)
    ∙ sym (cond-true r.is_live (entry r ∷ filter is_used (entries rows)) (filter is_used (entries rows)) live))
    (λ dead. ap (λ (l : List (Row F K)). entries l) (cond-false r.is_live (r ∷ filter (λ (q : Row F K). q.is_live) rows) (filter (λ (q : Row F K). q.is_live) rows) dead)
    ∙ filtered rows
    ∙ sym (cond-false r.is_live (entry r ∷ filter is_used (entries rows)) (filter is_used (entries rows)) dead))
    (cases_Bool r.is_live)

-- what was put after the rows is taken back
pub taken_back : {F K : Type 0} (rows now : List (Row F K)) (more : List (Entry F K)) (n : ℕ) → length rows ≡ n → entries now ≡ entries rows ++ more
    → entries (take n now) ≡ entries rows
taken_back {F} {K} rows now more n len is =
    sym (take-map entry n now) ∙ ap (λ l. take n l) is ∙ take_at (entries rows) more n (length-map rows (entry {F = F} {K = K}) ∙ len)
