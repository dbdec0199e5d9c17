-- What one row changed makes of the strands.
use Rattle.std.proofs.Common.{◌≡◌, ◌≢◌, ℕ, ◌+◌, ◌<◌, ◌≤◌, true, false, List, length, get_or, set, filter, IfSome, sym, ap, subst, ◌∙◌, arith, ⊎_elim}
use Rattle.std.proofs.lemmas.Bool.{cases_Bool, cases_lt, cases_eq, cond-true, cond-false, false≢true}
use Rattle.std.proofs.lemmas.List.{length-map, map-set, set-get_or, get_or-map, get_or_default}
use Rattle.frame_arena.specs.Line.{Line}
use Rattle.frame_arena.specs.Lines.{no_line, line_at, IsOrdered}
use Rattle.frame_arena.specs.Entries.{Entry, entry, entries, numbers, is_used, shown, over, line_of, lines_from}
use Rattle.frame_arena.specs.Places.{Rises, IsPlace, IsSound, IsRowOf}
use Rattle.frame_arena.specs.declared.row.Row.{Row}
use Rattle.frame_arena.proofs.Rising.{rises_below, place_is}
use Rattle.frame_arena.proofs.Found.{shows_at, none_there, set_same, set_other, squeezed, squeezed-rises}
use Rattle.frame_arena.proofs.Lines.{length_lines, line_is, lines_same, lines_set, ordered_set}
use Rattle.frame_arena.proofs.Rows.{entry_at}

pub length_of_numbers : {F K : Type 0} (es : List (Entry F K)) → length (numbers es) ≡ length es
length_of_numbers {F} {K} es = length-map es (λ (e : Entry F K). e.number)

pub number_of : {F K : Type 0} (es : List (Entry F K)) (k : ℕ) (d : Entry F K) → k < length es → get_or (numbers es) k 0 ≡ (get_or es k d).number
number_of {F} {K} es k d lt = get_or-map (λ (e : Entry F K). e.number) es k d 0 lt

-- the number at its place is that of the strand, which is there
pub row_at : {F K : Type 0} (es : List (Entry F K)) (next n k : ℕ) (x : Entry F K) → Rises 0 (numbers es) next → k < length es
    → ((d : Entry F K) → get_or es k d ≡ x) → x.number ≡ n → x.line.is_live ≡ true → IsRowOf es n k
row_at {F} {K} es next n k x r lt is same live =
    let here : get_or (numbers es) k 0 ≡ n = number_of es k x lt ∙ ap (λ (e : Entry F K). e.number) (is x) ∙ same in
    let shows : line_of es n ≡ x.line =
    shows_at es 0 next n k x r (omega (arith, length_of_numbers es, lt)) here ∙ ap shown (is x) ∙ cond-true x.line.is_live x.line no_line live in
    record {
      within = lt;
      number = λ d. ap (λ (e : Entry F K). e.number) (is d) ∙ same;
      live = ap (λ (l : Line F K). l.is_live) shows ∙ live;
      line = λ d. shows ∙ sym (ap (λ (e : Entry F K). e.line) (is d));
    }

-- a row that shows a strand is in use
pub shown_live : {F K : Type 0} (e : Entry F K) → (shown e).is_live ≡ true → e.line.is_live ≡ true
shown_live {F} {K} e live =
    ⊎_elim
    (λ (is : e.line.is_live ≡ true). is)
    (λ (dead : e.line.is_live ≡ false). absurd (false≢true (ap (λ (l : Line F K). l.is_live) (sym (cond-false e.line.is_live e.line no_line dead)) ∙ live)))
    (cases_Bool e.line.is_live)

-- where the row at its place has another number, or is not in use, the strand is not there
pub none_at : {F K : Type 0} (es : List (Entry F K)) (next n k : ℕ) (d : Entry F K) → Rises 0 (numbers es) next → IsPlace (numbers es) n k
    → (k < length es → (get_or es k d).number ≡ n → (get_or es k d).line.is_live ≡ false) → line_of es n ≡ no_line
none_at {F} {K} es next n k d r at dead =
    none_there es n d
    (λ i lt is.
    let len = length_of_numbers es in
    let same : get_or (numbers es) i 0 ≡ n = number_of es i d lt ∙ is in
    let here : i ≡ k = place_is (numbers es) next n k i r at (omega (arith, len, lt)) same in
    ap (λ j. (get_or es j d).line.is_live) here ∙ dead (omega (arith, here, lt)) (ap (λ j. (get_or es j d).number) (sym here) ∙ is))

-- the strand that is there has its row at the place of its number
pub live_at : {F K : Type 0} (es : List (Entry F K)) (next n k : ℕ) (d : Entry F K) → Rises 0 (numbers es) next → IsPlace (numbers es) n k
    → (line_of es n).is_live ≡ true → IsRowOf es n k
live_at {F} {K} es next n k d r at live =
    let none : line_of es n ≡ no_line → ⊥ = λ gone. false≢true (ap (λ (l : Line F K). l.is_live) (sym gone) ∙ live) in
    ⊎_elim
    (λ (lt : k < length es).
    ⊎_elim
    (λ (is : (get_or es k d).number ≡ n).
    let shows = shows_at es 0 next n k d r (omega (arith, length_of_numbers es, lt)) (number_of es k d lt ∙ is) in
    row_at es next n k (get_or es k d) r lt (λ e. get_or_default es k e d lt) is
    (shown_live (get_or es k d) (ap (λ (l : Line F K). l.is_live) (sym shows) ∙ live)))
    (λ (ne : (get_or es k d).number ≢ n). absurd (none (none_at es next n k d r at (λ lt' is. absurd (ne is)))))
    (cases_eq (get_or es k d).number n))
    (λ (ge : length es ≤ k). absurd (none (none_at es next n k d r at (λ lt is. absurd (omega (arith, lt, ge))))))
    (cases_lt k (length es))

-- rows of which one has changed: the strands are as they were, but for one
pub record Changed {F K : Type 0} (es fs : List (Entry F K)) (next n : ℕ) (l : Line F K) : Type 0 where
  pub lines : lines_from fs 0 next ≡ set (lines_from es 0 next) n l
  pub sound : IsSound fs next

-- the row of a strand, changed
pub set_entry : {F K : Type 0} (es : List (Entry F K)) (next n k : ℕ) (e : Entry F K) → IsSound es next → IsRowOf es n k → e.number ≡ n
    → (0 < (shown e).count → (n < (shown e).first) × ((shown e).first + (shown e).count ≤ next)) → IfSome (shown e).parent (λ p. p < n)
    → Changed es (set es k e) next n (shown e)
set_entry {F} {K} es next n k e sound row is fits parent =
    let lt : k < length (numbers es) = omega (arith, length_of_numbers es, row.within) in
    let here : get_or (numbers es) k 0 ≡ n = number_of es k e row.within ∙ row.number e in
    let below : n < next = omega (arith, here, rises_below (numbers es) 0 next k sound.rises lt) in
    let same : numbers (set es k e) ≡ numbers es =
    map-set (λ (x : Entry F K). x.number) es k e ∙ ap (λ m. set (numbers es) k m) (is ∙ sym here) ∙ set-get_or (numbers es) k 0 in
    let len : length (lines_from es 0 next) ≡ next = length_lines es 0 next in
    let lines = lines_set es (set es k e) next n (shown e) below
    (set_same es 0 next n k e sound.rises lt here is)
    (λ m ne. set_other es n k m e lt here is ne) in
    record {
      lines = lines;
      sound = record {
        rises = subst (λ ns. Rises 0 ns next) (sym same) sound.rises;
        ordered = subst (λ (ls : List (Line F K)). IsOrdered ls) (sym lines)
            (ordered_set (lines_from es 0 next) n (shown e) sound.ordered (omega (arith, len, below))
            (λ some. let f = fits some in (f.0, omega (arith, f.1, len))) parent);
      };
    }

-- the row of a strand in memory, changed
pub put_row : {F K : Type 0} (rows : List (Row F K)) (next n k : ℕ) (x r : Row F K) (f : Line F K → Line F K)
    → IsSound (entries rows) next → IsRowOf (entries rows) n k → x ≡ get_or rows k x → entry r ≡ over f (entry x)
    → ((l : Line F K) → l.is_live ≡ true → (f l).is_live ≡ true)
    → ((l : Line F K) → (0 < l.count → (n < l.first) × (l.first + l.count ≤ next)) → 0 < (f l).count → (n < (f l).first) × ((f l).first + (f l).count ≤ next))
    → ((l : Line F K) → (f l).parent ≡ l.parent)
    → Changed (entries rows) (entries (set rows k r)) next n (f (line_at (lines_from (entries rows) 0 next) n))
put_row {F} {K} rows next n k x r f sound row read is live fits parent =
    let es = entries rows in
    let within : k < length rows = omega (arith, length-map rows (entry {F = F} {K = K}), row.within) in
    let at : get_or es k (entry x) ≡ entry x = entry_at rows k x (entry x) within read in
    let line : line_at (lines_from es 0 next) n ≡ (entry x).line = line_is es next n sound.rises ∙ row.line (entry x) ∙ ap (λ (e : Entry F K). e.line) at in
    let number : (entry r).number ≡ n = ap (λ (e : Entry F K). e.number) is ∙ sym (ap (λ (e : Entry F K). e.number) at) ∙ row.number (entry x) in
    let l₀ : Line F K = line_at (lines_from es 0 next) n in
    let l : Line F K = f l₀ in
    let now : (entry r).line ≡ l = ap (λ (e : Entry F K). e.line) is ∙ ap f (sym line) in
    let lives : l.is_live ≡ true = live l₀ (ap (λ (m : Line F K). m.is_live) (line_is es next n sound.rises) ∙ row.live) in
    let shows : shown (entry r) ≡ l =
    cond-true (entry r).line.is_live (entry r).line no_line (ap (λ (m : Line F K). m.is_live) now ∙ lives) ∙ now in
    let len : length (lines_from es 0 next) ≡ next = length_lines es 0 next in
    let fit : 0 < l.count → (n < l.first) × (l.first + l.count ≤ next) =
    fits l₀ (λ some. let was = sound.ordered.members n some in (was.0, omega (arith, was.1, len))) in
    let above : IfSome l.parent (λ p. p < n) = subst (λ o. IfSome o (λ p. p < n)) (sym (parent l₀)) (sound.ordered.parents n) in
    let changed : Changed es (set es k (entry r)) next n (shown (entry r)) =
    set_entry es next n k (entry r) sound row number
    (subst (λ (m : Line F K). 0 < m.count → (n < m.first) × (m.first + m.count ≤ next)) (sym shows) fit)
    (subst (λ (m : Line F K). IfSome m.parent (λ p. p < n)) (sym shows) above) in
    subst (λ (fs : List (Entry F K)). Changed es fs next n l) (sym (map-set entry rows k r))
    (subst (λ (m : Line F K). Changed es (set es k (entry r)) next n m) shows changed)

-- what stays beside the frames and what a strand keeps
pub record Keeps {F K : Type 0} (l m : Line F K) : Type 0 where
  pub live : m.is_live ≡ l.is_live
  pub parent : m.parent ≡ l.parent
  pub first : m.first ≡ l.first
  pub count : m.count ≡ l.count

pub keep_row : {F K : Type 0} (rows : List (Row F K)) (next n k : ℕ) (x r : Row F K) (f : Line F K → Line F K)
    → ((l : Line F K) → Keeps l (f l)) → IsSound (entries rows) next → IsRowOf (entries rows) n k → x ≡ get_or rows k x → entry r ≡ over f (entry x)
    → Changed (entries rows) (entries (set rows k r)) next n (f (line_at (lines_from (entries rows) 0 next) n))
keep_row rows next n k x r f keeps sound row read is =
    put_row rows next n k x r f sound row read is
    (λ l lives. (keeps l).live ∙ lives)
    (λ l fits some. let k = keeps l in let was = fits (omega (arith, some, k.count)) in
    (omega (arith, was.0, k.first), omega (arith, was.1, k.first, k.count)))
    (λ l. (keeps l).parent)

-- the row of a strand that is freed
pub free_row : {F K : Type 0} (rows : List (Row F K)) (next n k : ℕ) (x r : Row F K)
    → IsSound (entries rows) next → IsRowOf (entries rows) n k → x ≡ get_or rows k x → r.number ≡ x.number → r.is_live ≡ false
    → Changed (entries rows) (entries (set rows k r)) next n no_line
free_row {F} {K} rows next n k x r sound row read same dead =
    let es = entries rows in
    let within : k < length rows = omega (arith, length-map rows (entry {F = F} {K = K}), row.within) in
    let at : get_or es k (entry x) ≡ entry x = entry_at rows k x (entry x) within read in
    let number : (entry r).number ≡ n = same ∙ sym (ap (λ (e : Entry F K). e.number) at) ∙ row.number (entry x) in
    let shows : shown (entry r) ≡ no_line = cond-false (entry r).line.is_live (entry r).line no_line dead in
    let changed : Changed es (set es k (entry r)) next n (shown (entry r)) =
    set_entry es next n k (entry r) sound row number
    (subst (λ (m : Line F K). 0 < m.count → (n < m.first) × (m.first + m.count ≤ next)) (sym shows) (λ some. absurd (omega (arith, some))))
    (subst (λ (m : Line F K). IfSome m.parent (λ p. p < n)) (sym shows) tt) in
    subst (λ (fs : List (Entry F K)). Changed es fs next n no_line) (sym (map-set entry rows k r))
    (subst (λ (m : Line F K). Changed es (set es k (entry r)) next n m) shows changed)

-- without the rows that are not in use
pub squeeze_rows : {F K : Type 0} (es fs : List (Entry F K)) (next : ℕ) → fs ≡ filter is_used es → IsSound es next
    → (lines_from fs 0 next ≡ lines_from es 0 next) × IsSound fs next
squeeze_rows {F} {K} es fs next is sound =
    let lines : lines_from fs 0 next ≡ lines_from es 0 next =
    ap (λ (l : List (Entry F K)). lines_from l 0 next) is ∙ lines_same (filter is_used es) es 0 next (squeezed es) in (
      lines,
      record {
        rises = subst (λ (l : List (Entry F K)). Rises 0 (numbers l) next) (sym is) (squeezed-rises es 0 next sound.rises);
        ordered = subst (λ (ls : List (Line F K)). IsOrdered ls) (sym lines) sound.ordered;
      },
    )
