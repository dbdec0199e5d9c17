-- What is read of a strand, and what is said of one that is not there.
use Rattle.std.proofs.Common.{◌≡◌, ◌≢◌, ℕ, ◌+◌, ◌-◌, ◌<◌, ◌≤◌, true, false, List, [], ◌++◌, length, get_or, set, replicate, Some, sym, ap, subst, ◌∙◌, refl, arith, ⊎_elim}
use Rattle.std.proofs.lemmas.Bool.{cases_lt, false≢true}
use Rattle.std.proofs.lemmas.List.{length-map, map-append, get_or_default, get_or_append_left, set-append_left}
use Rattle.frame_arena.specs.Line.{Line}
use Rattle.frame_arena.specs.Lines.{no_line, new_line, line_at, is_live, frames_of, with_frames, with_members, without, forked, IsOrdered, IsNext}
use Rattle.frame_arena.specs.Entries.{Entry, entry, entries, numbers, over, line_of, lines_from, new_entries}
use Rattle.frame_arena.specs.Places.{Rises, IsRising, IsPlace, IsRowOf, IsNextRow, IsSound}
use Rattle.frame_arena.specs.declared.row.Row.{Row}
use Rattle.frame_arena.proofs.Rising.{rises_joined, rises_order}
use Rattle.frame_arena.proofs.Found.{joined_below, none_there, new_rises, none_above}
use Rattle.frame_arena.proofs.Lines.{length_lines, line_is, lines_joined, ordered_joined, stays}
use Rattle.frame_arena.proofs.Rows.{entry_at}
use Rattle.frame_arena.proofs.Changes.{Changed, Keeps, keep_row, put_row, free_row, length_of_numbers, number_of, row_at}

-- the strand of a number, where its row is read
pub read : {F K : Type 0} (rows : List (Row F K)) (ls : List (Line F K)) (next n k : ℕ) (x : Row F K) → IsSound (entries rows) next
    → lines_from (entries rows) 0 next ≡ ls → IsRowOf (entries rows) n k → x ≡ get_or rows k x → line_at ls n ≡ (entry x).line
read {F} {K} rows ls next n k x sound view row is =
    ap (λ (l : List (Line F K)). line_at l n) (sym view) ∙ line_is (entries rows) next n sound.rises ∙ row.line (entry x)
    ∙ ap (λ (e : Entry F K). e.line) (entry_at rows k x (entry x) (omega (arith, row.within, length-map rows (entry {F = F} {K = K}))) is)

-- where it has none
pub gone : {F K : Type 0} (es : List (Entry F K)) (ls : List (Line F K)) (next n : ℕ) → IsSound es next
    → lines_from es 0 next ≡ ls → line_of es n ≡ no_line → line_at ls n ≡ no_line
gone {F} {K} es ls next n sound view none = ap (λ (l : List (Line F K)). line_at l n) (sym view) ∙ line_is es next n sound.rises ∙ none

-- a strand that is there has a row
pub there : {F K : Type 0} (es : List (Entry F K)) (ls : List (Line F K)) (next n : ℕ) → IsSound es next
    → lines_from es 0 next ≡ ls → (line_at ls n).is_live ≡ true → (line_of es n).is_live ≡ true
there {F} {K} es ls next n sound view live =
    ap (λ (l : Line F K). l.is_live) (sym (line_is es next n sound.rises) ∙ ap (λ (l : List (Line F K)). line_at l n) view) ∙ live

-- and one that has a row is there
pub lives : {F K : Type 0} (es : List (Entry F K)) (ls : List (Line F K)) (next n k : ℕ) → IsSound es next
    → lines_from es 0 next ≡ ls → IsRowOf es n k → (line_at ls n).is_live ≡ true
lives {F} {K} es ls next n k sound view row =
    ap (λ (l : Line F K). l.is_live) (ap (λ (l : List (Line F K)). line_at l n) (sym view) ∙ line_is es next n sound.rises) ∙ row.live

-- what changes nothing of a strand that is not there
pub unchanged : {F K : Type 0} (ls : List (Line F K)) (n : ℕ) (f : Line F K → Line F K) → line_at ls n ≡ no_line → f no_line ≡ no_line → ls ≡ set ls n (f (line_at ls n))
unchanged ls n f none same = sym (stays ls n (f (line_at ls n)) (none ∙ sym same ∙ ap f (sym none)))

-- a change of rows, said of the strands that contracts see
pub seen : {F K : Type 0} (es fs : List (Entry F K)) (ls : List (Line F K)) (next n : ℕ) (f : Line F K → Line F K)
    → Changed es fs next n (f (line_at (lines_from es 0 next) n)) → lines_from es 0 next ≡ ls → lines_from fs 0 next ≡ set ls n (f (line_at ls n))
seen {F} {K} es fs ls next n f changed view = changed.lines ∙ ap (λ (l : List (Line F K)). set l n (f (line_at l n))) view

-- a strand that is there has a number that was given
pub below_next : {F K : Type 0} (es : List (Entry F K)) (next n : ℕ) → IsSound es next → (line_of es n).is_live ≡ true → n < next
below_next {F} {K} es next n sound live =
    ⊎_elim
    (λ (below : n < next). below)
    (λ (above : next ≤ n). absurd (false≢true (ap (λ (l : Line F K). l.is_live) (sym (none_above es 0 next n sound.rises above)) ∙ live)))
    (cases_lt n next)

-- new rows after the others
pub grown : {F K : Type 0} (es : List (Entry F K)) (next n count : ℕ) → IsSound es next → (line_of es n).is_live ≡ true
    → IsSound (es ++ new_entries (Some n) next count) (next + count)
grown {F} {K} es next n count sound live =
    let more : List (Entry F K) = new_entries (Some n) next count in
    let numbered : numbers (es ++ more) ≡ numbers es ++ numbers more = map-append (λ (e : Entry F K). e.number) es more in
    let below : n < next = below_next es next n sound live in
    record {
      rises = subst (λ ns. Rises 0 ns (next + count)) (sym numbered)
          (rises_joined (numbers es) (numbers more) 0 next (next + count) sound.rises (new_rises F K (Some n) next count));
      ordered = subst (λ (l : List (Line F K)). IsOrdered l) (sym (lines_joined es next count (Some n) sound.rises))
          (ordered_joined (lines_from es 0 next) count n (omega (arith, below, length_lines es 0 next)) sound.ordered);
    }

pub grown_line : {F K : Type 0} (es : List (Entry F K)) (next n count : ℕ) → IsSound es next → (line_of es n).is_live ≡ true
    → (line_of (es ++ new_entries (Some n) next count) n).is_live ≡ true
grown_line {F} {K} es next n count sound live =
    ap (λ (l : Line F K). l.is_live) (joined_below es (new_entries (Some n) next count) next (next + count) n
    (new_rises F K (Some n) next count) (below_next es next n sound live)) ∙ live

-- a strand with new members, which are put after all others
pub forks : {F K : Type 0} (es fs : List (Entry F K)) (ls : List (Line F K)) (next n count : ℕ) → IsSound es next → (line_of es n).is_live ≡ true
    → lines_from es 0 next ≡ ls
    → Changed (es ++ new_entries (Some n) next count) fs (next + count) n
    (let l = line_at (lines_from (es ++ new_entries (Some n) next count) 0 (next + count)) n in record l { first = next; count = count; undone = count })
    → lines_from fs 0 (next + count) ≡ forked ls n count
forks {F} {K} es fs ls next n count sound live view changed =
    let old : List (Line F K) = lines_from es 0 next in
    let news : List (Line F K) = replicate count (new_line (Some n)) in
    let len : length old ≡ next = length_lines es 0 next in
    let below : n < length old = omega (arith, len, below_next es next n sound live) in
    let f : ℕ → Line F K → Line F K = λ m l. record l { first = m; count = count; undone = count } in
    changed.lines
    ∙ ap (λ (l : List (Line F K)). set l n (f next (line_at l n))) (lines_joined es next count (Some n) sound.rises)
    ∙ ap (λ (l : Line F K). set (old ++ news) n (f next l)) (get_or_append_left old news no_line n below)
    ∙ set-append_left old news n (f next (line_at old n)) below
    ∙ ap (λ m. set old n (f m (line_at old n)) ++ news) (sym len)
    ∙ ap (λ (l : List (Line F K)). forked l n count) view

-- the first strand that is there
pub next_is : {F K : Type 0} (es : List (Entry F K)) (ls : List (Line F K)) (next from k n : ℕ) (x : Entry F K) → IsSound es next → lines_from es 0 next ≡ ls
    → IsNextRow es from k → get_or es k x ≡ x → x.number ≡ n → IsNext ls from n
next_is {F} {K} es ls next from k n x sound view row at is =
    let number : (get_or es k x).number ≡ n = ap (λ (e : Entry F K). e.number) at ∙ is in
    let mine = row_at es next n k (get_or es k x) sound.rises row.within (λ d. get_or_default es k d x row.within) number (row.live x) in
    record {
      from_there = omega (arith, row.above x, number);
      there = lives es ls next n k sound view mine;
      none_before = λ m above below.
          ap (λ (l : Line F K). l.is_live) (gone es ls next m sound view (row.none_before x m above (omega (arith, below, number))));
    }

pub none_next : {F K : Type 0} (es : List (Entry F K)) (ls : List (Line F K)) (next from : ℕ) → IsSound es next → lines_from es 0 next ≡ ls
    → ((n : ℕ) → from ≤ n → line_of es n ≡ no_line) → (n : ℕ) → from ≤ n → is_live ls n ≡ false
none_next {F} {K} es ls next from sound view none n above = ap (λ (l : Line F K). l.is_live) (gone es ls next n sound view (none n above))

-- none is in use between the place of a number and the first that is
pub dead_between : {F K : Type 0} (es : List (Entry F K)) (next from start k n : ℕ) (d : Entry F K) → Rises 0 (numbers es) next → IsPlace (numbers es) from start
    → ((i : ℕ) → start ≤ i → i < k → (get_or es i d).line.is_live ≡ false)
    → from ≤ n → (k < length es → n < (get_or es k d).number) → line_of es n ≡ no_line
dead_between {F} {K} es next from start k n d r at dead above below =
    none_there es n d
    (λ i lt is.
    let lt' : i < length (numbers es) = omega (arith, length_of_numbers es, lt) in
    let same : get_or (numbers es) i 0 ≡ n = number_of es i d lt ∙ is in
    ⊎_elim
    (λ (before : i < start). absurd (omega (arith, same, above, at.before i before)))
    (λ (after : start ≤ i).
    ⊎_elim
    (λ (inside : i < k). dead i after inside)
    (λ (past : k ≤ i).
    let here : k < length es = omega (arith, past, lt) in
    absurd (omega (arith, same, below here, number_of es k d here, rises_order (numbers es) 0 next k i r past lt')))
    (cases_lt i k))
    (cases_lt i start))

-- ---- the same where the rows are read as a slice

pub rising_in : {F K : Type 0} (rows xs : List (Row F K)) (next : ℕ) → IsSound (entries rows) next → xs ≡ rows → IsRising (numbers (entries xs))
rising_in {F} {K} rows xs next sound is = subst (λ (l : List (Row F K)). IsRising (numbers (entries l))) (sym is) (next, sound.rises)

pub live_in : {F K : Type 0} (rows xs : List (Row F K)) (ls : List (Line F K)) (next n : ℕ) → IsSound (entries rows) next
    → lines_from (entries rows) 0 next ≡ ls → xs ≡ rows → is_live ls n ≡ true → (line_of (entries xs) n).is_live ≡ true
live_in {F} {K} rows xs ls next n sound view is live =
    ap (λ (l : List (Row F K)). (line_of (entries l) n).is_live) is ∙ there (entries rows) ls next n sound view live

pub row_in : {F K : Type 0} (rows xs : List (Row F K)) (n k : ℕ) → xs ≡ rows → IsRowOf (entries xs) n k → IsRowOf (entries rows) n k
row_in {F} {K} rows xs n k is row = subst (λ (l : List (Row F K)). IsRowOf (entries l) n k) is row

pub read_in : {F K : Type 0} (rows xs : List (Row F K)) (ls : List (Line F K)) (next n k : ℕ) (x : Row F K) → IsSound (entries rows) next
    → lines_from (entries rows) 0 next ≡ ls → xs ≡ rows → IsRowOf (entries xs) n k → x ≡ get_or rows k x → line_at ls n ≡ (entry x).line
read_in rows xs ls next n k x sound view is row at = read rows ls next n k x sound view (row_in rows xs n k is row) at

pub none_in : {F K : Type 0} (rows xs : List (Row F K)) (ls : List (Line F K)) (next n : ℕ) → IsSound (entries rows) next
    → lines_from (entries rows) 0 next ≡ ls → xs ≡ rows → line_of (entries xs) n ≡ no_line → line_at ls n ≡ no_line
none_in {F} {K} rows xs ls next n sound view is none =
    gone (entries rows) ls next n sound view (ap (λ (l : List (Row F K)). line_of (entries l) n) (sym is) ∙ none)

pub live_of : {F K : Type 0} (rows xs : List (Row F K)) (next n k : ℕ) (x : Row F K) → IsSound (entries rows) next → xs ≡ rows
    → IsRowOf (entries xs) n k → x ≡ get_or rows k x → x.is_live ≡ true
live_of {F} {K} rows xs next n k x sound is row at =
    let mine = row_in rows xs n k is row in
    let same : line_of (entries rows) n ≡ (entry x).line =
    mine.line (entry x) ∙ ap (λ (e : Entry F K). e.line) (entry_at rows k x (entry x) (omega (arith, mine.within, length-map rows (entry {F = F} {K = K}))) at) in
    ap (λ (l : Line F K). l.is_live) (sym same) ∙ mine.live

pub next_in : {F K : Type 0} (rows xs : List (Row F K)) (ls : List (Line F K)) (next from k : ℕ) (x : Row F K) → IsSound (entries rows) next
    → lines_from (entries rows) 0 next ≡ ls → xs ≡ rows → IsNextRow (entries xs) from k → x ≡ get_or rows k x → IsNext ls from x.number
next_in {F} {K} rows xs ls next from k x sound view is row at =
    let mine = subst (λ (l : List (Row F K)). IsNextRow (entries l) from k) is row in
    let within : k < length rows = omega (arith, mine.within, length-map rows (entry {F = F} {K = K})) in
    next_is (entries rows) ls next from k x.number (entry x) sound view mine (entry_at rows k x (entry x) within at) refl

pub none_next_in : {F K : Type 0} (rows xs : List (Row F K)) (ls : List (Line F K)) (next from : ℕ) → IsSound (entries rows) next
    → lines_from (entries rows) 0 next ≡ ls → xs ≡ rows → ((n : ℕ) → from ≤ n → line_of (entries xs) n ≡ no_line)
    → (n : ℕ) → from ≤ n → is_live ls n ≡ false
none_next_in {F} {K} rows xs ls next from sound view is none =
    none_next (entries rows) ls next from sound view (λ n above. ap (λ (l : List (Row F K)). line_of (entries l) n) (sym is) ∙ none n above)

-- rows of which one has changed, and the strands that contracts see then
record IsChanged {F K : Type 0} (fs : List (Entry F K)) (ls : List (Line F K)) (next n : ℕ) (f : Line F K → Line F K) : Type 0 where
  pub sound : IsSound fs next
  pub lines : lines_from fs 0 next ≡ set ls n (f (line_at ls n))

-- a row changed, but for what it says of the strand's place among others
kept_change : {F K : Type 0} (rows xs : List (Row F K)) (ls : List (Line F K)) (next n k : ℕ) (x r : Row F K) (f : Line F K → Line F K)
    → ((l : Line F K) → Keeps l (f l)) → IsSound (entries rows) next → lines_from (entries rows) 0 next ≡ ls → xs ≡ rows → IsRowOf (entries xs) n k
    → x ≡ get_or rows k x → entry r ≡ over f (entry x) → IsChanged (entries (set rows k r)) ls next n f
kept_change rows xs ls next n k x r f keeps sound view is row at now =
    let changed = keep_row rows next n k x r f keeps sound (row_in rows xs n k is row) at now in
    record { sound = changed.sound; lines = seen (entries rows) (entries (set rows k r)) ls next n f changed view }

-- a row changed in its members
members_change : {F K : Type 0} (rows xs : List (Row F K)) (ls : List (Line F K)) (next n k first count : ℕ) (x r : Row F K)
    → (0 < count → (n < first) × (first + count ≤ next)) → IsSound (entries rows) next → lines_from (entries rows) 0 next ≡ ls → xs ≡ rows → IsRowOf (entries xs) n k
    → x ≡ get_or rows k x → entry r ≡ over (λ (l : Line F K). record l { first = first; count = count; undone = count }) (entry x)
    → IsChanged (entries (set rows k r)) ls next n (λ (l : Line F K). record l { first = first; count = count; undone = count })
members_change {F} {K} rows xs ls next n k first count x r fits sound view is row at now =
    let f : Line F K → Line F K = λ l. record l { first = first; count = count; undone = count } in
    let changed = put_row rows next n k x r f sound (row_in rows xs n k is row) at now (λ l live. live) (λ l was some. fits some) (λ l. refl) in
    record { sound = changed.sound; lines = seen (entries rows) (entries (set rows k r)) ls next n f changed view }

-- a row that is not in use any more
freed_change : {F K : Type 0} (rows xs : List (Row F K)) (ls : List (Line F K)) (next n k : ℕ) (x r : Row F K) → IsSound (entries rows) next
    → lines_from (entries rows) 0 next ≡ ls → xs ≡ rows → IsRowOf (entries xs) n k → x ≡ get_or rows k x → r.number ≡ x.number → r.is_live ≡ false
    → IsChanged (entries (set rows k r)) ls next n (λ l. no_line)
freed_change {F} {K} rows xs ls next n k x r sound view is row at same dead =
    let changed = free_row rows next n k x r sound (row_in rows xs n k is row) at same dead in
    record { sound = changed.sound; lines = seen (entries rows) (entries (set rows k r)) ls next n (λ l. no_line) changed view }

-- a row with other frames, made of those that it had
frames_change : {F K : Type 0} (rows xs : List (Row F K)) (ls : List (Line F K)) (next n k : ℕ) (x r : Row F K) (g : List F → List F) → IsSound (entries rows) next
    → lines_from (entries rows) 0 next ≡ ls → xs ≡ rows → IsRowOf (entries xs) n k → x ≡ get_or rows k x
    → r.number ≡ x.number → r.is_live ≡ x.is_live → r.parent ≡ x.parent → r.first ≡ x.first → r.count ≡ x.count → r.undone ≡ x.undone → r.kept ≡ x.kept
    → r.frames.items ≡ g x.frames.items → IsChanged (entries (set rows k r)) ls next n (λ (l : Line F K). record l { frames = g l.frames })
frames_change {F} {K} rows xs ls next n k x r g sound view is row at same_number same_live same_parent same_first same_count same_undone same_kept now =
    let f : Line F K → Line F K = λ l. record l { frames = g l.frames } in
    let changed : entry r ≡ record {
      number = x.number;
      line = record {
        is_live = x.is_live;
        parent = x.parent;
        first = x.first;
        count = x.count;
        undone = x.undone;
        frames = g x.frames.items;
        kept = x.kept.items;
      };
    } = cc in
    kept_change rows xs ls next n k x r f (λ l. record { live = refl; parent = refl; first = refl; count = refl }) sound view is row at changed

-- a strand that is not there has no frames to change
pub no_frames : {F K : Type 0} (ls : List (Line F K)) (n : ℕ) (g : List F → List F) → line_at ls n ≡ no_line → g [] ≡ [] → ls ≡ with_frames ls n (g (line_at ls n).frames)
no_frames {F} {K} ls n g none empty =
    unchanged ls n (λ (l : Line F K). record l { frames = g l.frames }) none
    (ap (λ fs. let l : Line F K = record no_line { frames = fs } in l) empty)

-- ---- each half of a change by itself

pub kept_sound : {F K : Type 0} (rows xs : List (Row F K)) (ls : List (Line F K)) (next n k : ℕ) (x r : Row F K) (f : Line F K → Line F K)
    → ((l : Line F K) → Keeps l (f l)) → IsSound (entries rows) next → lines_from (entries rows) 0 next ≡ ls → xs ≡ rows → IsRowOf (entries xs) n k
    → x ≡ get_or rows k x → entry r ≡ over f (entry x) → IsSound (entries (set rows k r)) next
kept_sound rows xs ls next n k x r f keeps sound view is row at now =
    (kept_change rows xs ls next n k x r f keeps sound view is row at now).sound

pub kept_lines : {F K : Type 0} (rows xs : List (Row F K)) (ls : List (Line F K)) (next n k : ℕ) (x r : Row F K) (f : Line F K → Line F K)
    → ((l : Line F K) → Keeps l (f l)) → IsSound (entries rows) next → lines_from (entries rows) 0 next ≡ ls → xs ≡ rows → IsRowOf (entries xs) n k
    → x ≡ get_or rows k x → entry r ≡ over f (entry x) → lines_from (entries (set rows k r)) 0 next ≡ set ls n (f (line_at ls n))
kept_lines rows xs ls next n k x r f keeps sound view is row at now =
    (kept_change rows xs ls next n k x r f keeps sound view is row at now).lines

pub members_sound : {F K : Type 0} (rows xs : List (Row F K)) (ls : List (Line F K)) (next n k first count : ℕ) (x r : Row F K)
    → (0 < count → (n < first) × (first + count ≤ next)) → IsSound (entries rows) next → lines_from (entries rows) 0 next ≡ ls → xs ≡ rows → IsRowOf (entries xs) n k
    → x ≡ get_or rows k x → entry r ≡ over (λ (l : Line F K). record l { first = first; count = count; undone = count }) (entry x)
    → IsSound (entries (set rows k r)) next
members_sound rows xs ls next n k first count x r fits sound view is row at now =
    (members_change rows xs ls next n k first count x r fits sound view is row at now).sound

pub members_lines : {F K : Type 0} (rows xs : List (Row F K)) (ls : List (Line F K)) (next n k first count : ℕ) (x r : Row F K)
    → (0 < count → (n < first) × (first + count ≤ next)) → IsSound (entries rows) next → lines_from (entries rows) 0 next ≡ ls → xs ≡ rows → IsRowOf (entries xs) n k
    → x ≡ get_or rows k x → entry r ≡ over (λ (l : Line F K). record l { first = first; count = count; undone = count }) (entry x)
    → lines_from (entries (set rows k r)) 0 next ≡ with_members ls n first count
members_lines rows xs ls next n k first count x r fits sound view is row at now =
    (members_change rows xs ls next n k first count x r fits sound view is row at now).lines

pub freed_sound : {F K : Type 0} (rows xs : List (Row F K)) (ls : List (Line F K)) (next n k : ℕ) (x r : Row F K) → IsSound (entries rows) next
    → lines_from (entries rows) 0 next ≡ ls → xs ≡ rows → IsRowOf (entries xs) n k → x ≡ get_or rows k x → r.number ≡ x.number → r.is_live ≡ false
    → IsSound (entries (set rows k r)) next
freed_sound rows xs ls next n k x r sound view is row at same dead =
    (freed_change rows xs ls next n k x r sound view is row at same dead).sound

pub freed_lines : {F K : Type 0} (rows xs : List (Row F K)) (ls : List (Line F K)) (next n k : ℕ) (x r : Row F K) → IsSound (entries rows) next
    → lines_from (entries rows) 0 next ≡ ls → xs ≡ rows → IsRowOf (entries xs) n k → x ≡ get_or rows k x → r.number ≡ x.number → r.is_live ≡ false
    → lines_from (entries (set rows k r)) 0 next ≡ without ls n
freed_lines rows xs ls next n k x r sound view is row at same dead =
    (freed_change rows xs ls next n k x r sound view is row at same dead).lines

pub frames_sound : {F K : Type 0} (rows xs : List (Row F K)) (ls : List (Line F K)) (next n k : ℕ) (x r : Row F K) (g : List F → List F) → IsSound (entries rows) next
    → lines_from (entries rows) 0 next ≡ ls → xs ≡ rows → IsRowOf (entries xs) n k → x ≡ get_or rows k x
    → r.number ≡ x.number → r.is_live ≡ x.is_live → r.parent ≡ x.parent → r.first ≡ x.first → r.count ≡ x.count → r.undone ≡ x.undone → r.kept ≡ x.kept
    → r.frames.items ≡ g x.frames.items → IsSound (entries (set rows k r)) next
frames_sound rows xs ls next n k x r g sound view is row at number live parent first count undone kept now =
    (frames_change rows xs ls next n k x r g sound view is row at number live parent first count undone kept now).sound

pub frames_lines : {F K : Type 0} (rows xs : List (Row F K)) (ls : List (Line F K)) (next n k : ℕ) (x r : Row F K) (g : List F → List F) → IsSound (entries rows) next
    → lines_from (entries rows) 0 next ≡ ls → xs ≡ rows → IsRowOf (entries xs) n k → x ≡ get_or rows k x
    → r.number ≡ x.number → r.is_live ≡ x.is_live → r.parent ≡ x.parent → r.first ≡ x.first → r.count ≡ x.count → r.undone ≡ x.undone → r.kept ≡ x.kept
    → r.frames.items ≡ g x.frames.items → lines_from (entries (set rows k r)) 0 next ≡ with_frames ls n (g (frames_of ls n))
frames_lines rows xs ls next n k x r g sound view is row at number live parent first count undone kept now =
    (frames_change rows xs ls next n k x r g sound view is row at number live parent first count undone kept now).lines

-- ---- new members

-- rows with those of new strands after them
pub grown_in : {F K : Type 0} (rows more : List (Row F K)) (ls : List (Line F K)) (next n count : ℕ) → IsSound (entries rows) next
    → lines_from (entries rows) 0 next ≡ ls → is_live ls n ≡ true → entries more ≡ entries rows ++ new_entries (Some n) next count
    → IsSound (entries more) (next + count)
grown_in {F} {K} rows more ls next n count sound view live is =
    subst (λ (es : List (Entry F K)). IsSound es (next + count)) (sym is)
    (grown (entries rows) next n count sound (there (entries rows) ls next n sound view live))

-- the strand whose members they are is there as before
pub parent_in : {F K : Type 0} (rows more xs : List (Row F K)) (ls : List (Line F K)) (next n count : ℕ) → IsSound (entries rows) next
    → lines_from (entries rows) 0 next ≡ ls → is_live ls n ≡ true → entries more ≡ entries rows ++ new_entries (Some n) next count → xs ≡ more
    → (line_of (entries xs) n).is_live ≡ true
parent_in {F} {K} rows more xs ls next n count sound view live is same =
    ap (λ (l : List (Row F K)). (line_of (entries l) n).is_live) same
    ∙ ap (λ (es : List (Entry F K)). (line_of es n).is_live) is
    ∙ grown_line (entries rows) next n count sound (there (entries rows) ls next n sound view live)

-- its row with the new members
fork_change : {F K : Type 0} (rows more xs : List (Row F K)) (ls : List (Line F K)) (next n count k : ℕ) (x r : Row F K) → IsSound (entries rows) next
    → lines_from (entries rows) 0 next ≡ ls → is_live ls n ≡ true → entries more ≡ entries rows ++ new_entries (Some n) next count → xs ≡ more
    → IsRowOf (entries xs) n k → x ≡ get_or more k x
    → entry r ≡ over (λ (l : Line F K). record l { first = next; count = count; undone = count }) (entry x)
    → IsSound (entries (set more k r)) (next + count) × (lines_from (entries (set more k r)) 0 (next + count) ≡ forked ls n count)
fork_change {F} {K} rows more xs ls next n count k x r sound view live is same row at now =
    let f : Line F K → Line F K = λ l. record l { first = next; count = count; undone = count } in
    let mine = there (entries rows) ls next n sound view live in
    let below : n < next = below_next (entries rows) next n sound mine in
    let fits : 0 < count → (n < next) × (next + count ≤ next + count) = λ some. (below, omega arith) in
    let changed = put_row more (next + count) n k x r f (grown_in rows more ls next n count sound view live is) (row_in more xs n k same row) at now
    (λ l lives. lives) (λ l was some. fits some) (λ l. refl) in
    let fs = entries (set more k r) in
    let moved : Changed (entries rows ++ new_entries (Some n) next count) fs (next + count) n
    (f (line_at (lines_from (entries rows ++ new_entries (Some n) next count) 0 (next + count)) n)) =
    subst (λ (es : List (Entry F K)). Changed es fs (next + count) n (f (line_at (lines_from es 0 (next + count)) n))) is changed in
    (changed.sound, forks (entries rows) fs ls next n count sound mine view moved)

pub fork_sound : {F K : Type 0} (rows more xs : List (Row F K)) (ls : List (Line F K)) (next n count k : ℕ) (x r : Row F K) → IsSound (entries rows) next
    → lines_from (entries rows) 0 next ≡ ls → is_live ls n ≡ true → entries more ≡ entries rows ++ new_entries (Some n) next count → xs ≡ more
    → IsRowOf (entries xs) n k → x ≡ get_or more k x
    → entry r ≡ over (λ (l : Line F K). record l { first = next; count = count; undone = count }) (entry x)
    → IsSound (entries (set more k r)) (next + count)
fork_sound rows more xs ls next n count k x r sound view live is same row at now =
    (fork_change rows more xs ls next n count k x r sound view live is same row at now).0

pub fork_lines : {F K : Type 0} (rows more xs : List (Row F K)) (ls : List (Line F K)) (next n count k : ℕ) (x r : Row F K) → IsSound (entries rows) next
    → lines_from (entries rows) 0 next ≡ ls → is_live ls n ≡ true → entries more ≡ entries rows ++ new_entries (Some n) next count → xs ≡ more
    → IsRowOf (entries xs) n k → x ≡ get_or more k x
    → entry r ≡ over (λ (l : Line F K). record l { first = next; count = count; undone = count }) (entry x)
    → lines_from (entries (set more k r)) 0 (next + count) ≡ forked ls n count
fork_lines rows more xs ls next n count k x r sound view live is same row at now =
    (fork_change rows more xs ls next n count k x r sound view live is same row at now).1
