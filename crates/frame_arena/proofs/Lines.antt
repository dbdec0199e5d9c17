-- The strands by number, of rows.
use Rattle.std.proofs.Common.{◌≡◌, ◌≢◌, ℕ, zero, suc, ◌+◌, ◌-◌, ◌<◌, ◌≤◌, List, ◌∷◌, ◌++◌, length, get_or, set, replicate, Option, Some, IfSome, sym, ap, subst, ◌∙◌, refl, arith, ⊎_elim}
use Rattle.std.proofs.lemmas.Bool.{cases_lt, cases_eq}
use Rattle.std.proofs.lemmas.List.{ext_get_or, get_or-set_same, get_or-set_other, get_or_past, length-set, length-append, length-replicate, get_or_append_left, get_or-append_right, get_or-replicate, set-get_or}
use Rattle.frame_arena.specs.Line.{Line}
use Rattle.frame_arena.specs.Lines.{no_line, new_line, line_at, IsOrdered}
use Rattle.frame_arena.specs.Entries.{Entry, numbers, line_of, lines_from, new_entries}
use Rattle.frame_arena.specs.Places.{Rises}
use Rattle.frame_arena.proofs.Found.{none_above, joined_above, joined_below, new_rises, new_at}

pub length_lines : {F K : Type 0} (es : List (Entry F K)) (from count : ℕ) → length (lines_from es from count) ≡ count
length_lines es from zero = refl
length_lines es from (suc count) = ap suc (length_lines es (suc from) count)

pub lines_at : {F K : Type 0} (es : List (Entry F K)) (from count i m : ℕ) (d : Line F K) → i < count → m ≡ from + i
    → get_or (lines_from es from count) i d ≡ line_of es m
lines_at es from zero i m d lt is = absurd (omega (arith, lt))
lines_at es from (suc count) zero m d lt is = ap (λ k. line_of es k) (omega (arith, is))
lines_at es from (suc count) (suc i) m d lt is = lines_at es (suc from) count i m d (omega (arith, lt)) (omega (arith, is))

-- the strand of a number, by the list and by the rows
pub line_is : {F K : Type 0} (es : List (Entry F K)) (next n : ℕ) → Rises 0 (numbers es) next → line_at (lines_from es 0 next) n ≡ line_of es n
line_is es next n r =
    ⊎_elim
    (λ lt. lines_at es 0 next n n no_line lt (omega arith))
    (λ le. get_or_past (lines_from es 0 next) n no_line (omega (arith, length_lines es 0 next, le)) ∙ sym (none_above es 0 next n r le))
    (cases_lt n next)

-- rows that show the same
pub lines_same : {F K : Type 0} (es fs : List (Entry F K)) (from count : ℕ) → ((n : ℕ) → line_of es n ≡ line_of fs n) → lines_from es from count ≡ lines_from fs from count
lines_same es fs from zero same = refl
lines_same es fs from (suc count) same = λ i. same from i ∷ lines_same es fs (suc from) count same i

-- rows that show one strand otherwise
pub lines_set : {F K : Type 0} (es fs : List (Entry F K)) (next n : ℕ) (l : Line F K) → n < next → line_of fs n ≡ l
    → ((m : ℕ) → n ≢ m → line_of fs m ≡ line_of es m) → lines_from fs 0 next ≡ set (lines_from es 0 next) n l
lines_set es fs next n l below here others =
    let len = length_lines fs 0 next in
    let old = length_lines es 0 next in
    ext_get_or no_line (lines_from fs 0 next) (set (lines_from es 0 next) n l) (len ∙ sym (length-set (lines_from es 0 next) n l ∙ old))
    (λ i lt. let lt' : i < next = omega (arith, lt, len) in
    lines_at fs 0 next i i no_line lt' (omega arith)
    ∙ ⊎_elim
    (λ (is : n ≡ i). ap (λ k. line_of fs k) (sym is) ∙ here ∙ sym (ap (λ k. get_or (set (lines_from es 0 next) n l) k no_line) (sym is)
    ∙ get_or-set_same (lines_from es 0 next) n l no_line (omega (arith, old, below))))
    (λ (ne : n ≢ i). others i ne ∙ sym (get_or-set_other (lines_from es 0 next) n i l no_line (λ is. ne (sym is))
    ∙ lines_at es 0 next i i no_line lt' (omega arith)))
    (cases_eq n i))

-- a strand that is not there does not change
pub stays : {F K : Type 0} (ls : List (Line F K)) (n : ℕ) (l : Line F K) → line_at ls n ≡ l → set ls n l ≡ ls
stays ls n l is = ap (λ x. set ls n x) (sym is) ∙ set-get_or ls n no_line

-- one strand changed: members still come after, and the strand that one is a member of before
pub ordered_set : {F K : Type 0} (ls : List (Line F K)) (n : ℕ) (l : Line F K) → IsOrdered ls → n < length ls
    → (0 < l.count → (n < l.first) × (l.first + l.count ≤ length ls)) → IfSome l.parent (λ p. p < n) → IsOrdered (set ls n l)
ordered_set {F} {K} ls n l ordered lt members parent =
    let len : length (set ls n l) ≡ length ls = length-set ls n l in
    let here : (m : ℕ) → n ≡ m → line_at (set ls n l) m ≡ l =
    λ m is. ap (λ k. line_at (set ls n l) k) (sym is) ∙ get_or-set_same ls n l no_line lt in
    let other : (m : ℕ) → n ≢ m → line_at (set ls n l) m ≡ line_at ls m =
    λ m ne. get_or-set_other ls n m l no_line (λ is. ne (sym is)) in
    record {
      members = λ m some.
          ⊎_elim
          (λ (is : n ≡ m).
          let c = ap (λ (x : Line F K). x.count) (here m is) in
          let f = ap (λ (x : Line F K). x.first) (here m is) in
          let fits = members (omega (arith, some, c)) in
          (omega (arith, fits.0, f, is), omega (arith, fits.1, f, c, len)))
          (λ (ne : n ≢ m).
          let c = ap (λ (x : Line F K). x.count) (other m ne) in
          let f = ap (λ (x : Line F K). x.first) (other m ne) in
          let fits = ordered.members m (omega (arith, some, c)) in
          (omega (arith, fits.0, f), omega (arith, fits.1, f, c, len)))
          (cases_eq n m);
      parents = λ m.
          ⊎_elim
          (λ (is : n ≡ m). subst (λ (x : Line F K). IfSome x.parent (λ p. p < m)) (sym (here m is)) (subst (λ k. IfSome l.parent (λ p. p < k)) is parent))
          (λ (ne : n ≢ m). subst (λ (x : Line F K). IfSome x.parent (λ p. p < m)) (sym (other m ne)) (ordered.parents m))
          (cases_eq n m);
    }

-- new strands after the others
pub lines_joined : {F K : Type 0} (es : List (Entry F K)) (next count : ℕ) (parent : Option ℕ) → Rises 0 (numbers es) next
    → lines_from (es ++ new_entries parent next count) 0 (next + count) ≡ lines_from es 0 next ++ replicate count (new_line parent)
lines_joined {F} {K} es next count parent r =
    let more : List (Entry F K) = new_entries parent next count in
    let all : List (Entry F K) = es ++ more in
    let news : List (Line F K) = replicate count (new_line parent) in
    let rm = new_rises F K parent next count in
    let len = length_lines all 0 (next + count) in
    let old = length_lines es 0 next in
    ext_get_or no_line (lines_from all 0 (next + count)) (lines_from es 0 next ++ news)
    (len ∙ sym (length-append (lines_from es 0 next) news ∙ omega (arith, old, length-replicate count (new_line {F = F} {K = K} parent))))
    (λ i lt. let lt' : i < next + count = omega (arith, lt, len) in
    lines_at all 0 (next + count) i i no_line lt' (omega arith)
    ∙ ⊎_elim
    (λ (below : i < next). joined_below es more next (next + count) i rm below
    ∙ sym (get_or_append_left (lines_from es 0 next) news no_line i (omega (arith, below, old)) ∙ lines_at es 0 next i i no_line below (omega arith)))
    (λ (above : next ≤ i). joined_above es more 0 next i r above
    ∙ new_at {F = F} {K = K} parent next count (i - next) i (omega (arith, above, lt')) (omega (arith, above))
    ∙ sym (get_or-append_right (lines_from es 0 next) news next i no_line old above ∙ get_or-replicate count (i - next) (new_line parent) no_line (omega (arith, above, lt'))))
    (cases_lt i next))

-- and they are in order
pub ordered_joined : {F K : Type 0} (ls : List (Line F K)) (count n : ℕ) → n < length ls → IsOrdered ls → IsOrdered (ls ++ replicate count (new_line (Some n)))
ordered_joined {F} {K} ls count n lt ordered =
    let news : List (Line F K) = replicate count (new_line (Some n)) in
    let all : List (Line F K) = ls ++ news in
    let len : length all ≡ length ls + count = length-append ls news ∙ ap (λ k. length ls + k) (length-replicate count (new_line {F = F} {K = K} (Some n))) in
    let old : (m : ℕ) → m < length ls → line_at all m ≡ line_at ls m = λ m below. get_or_append_left ls news no_line m below in
    let new : (m : ℕ) → length ls ≤ m → m < length all → line_at all m ≡ new_line (Some n) =
    λ m above below. get_or-append_right ls news (length ls) m no_line refl above ∙ get_or-replicate count (m - length ls) (new_line (Some n)) no_line (omega (arith, above, below, len)) in
    let past : (m : ℕ) → length all ≤ m → line_at all m ≡ no_line = λ m above. get_or_past all m no_line above in
    record {
      members = λ m some.
          ⊎_elim
          (λ (below : m < length ls).
          let c = ap (λ (x : Line F K). x.count) (old m below) in
          let f = ap (λ (x : Line F K). x.first) (old m below) in
          let fits = ordered.members m (omega (arith, some, c)) in
          (omega (arith, fits.0, f), omega (arith, fits.1, f, c, len)))
          (λ (above : length ls ≤ m).
          ⊎_elim
          (λ (below : m < length all). absurd (omega (arith, some, ap (λ (x : Line F K). x.count) (new m above below))))
          (λ (beyond : length all ≤ m). absurd (omega (arith, some, ap (λ (x : Line F K). x.count) (past m beyond))))
          (cases_lt m (length all)))
          (cases_lt m (length ls));
      parents = λ m.
          ⊎_elim
          (λ (below : m < length ls). subst (λ (x : Line F K). IfSome x.parent (λ p. p < m)) (sym (old m below)) (ordered.parents m))
          (λ (above : length ls ≤ m).
          ⊎_elim
          (λ (below : m < length all). let low : n < m = omega (arith, above, lt) in
          subst (λ (x : Line F K). IfSome x.parent (λ p. p < m)) (sym (new m above below)) low)
          (λ (beyond : length all ≤ m). subst (λ (x : Line F K). IfSome x.parent (λ p. p < m)) (sym (past m beyond)) tt)
          (cases_lt m (length all)))
          (cases_lt m (length ls));
    }
