-- Lines, and the length of a head part, of a front of the bytes.
use Rattle.std.proofs.Common.{◌≡◌, ◌≢◌, ℕ, zero, suc, min, inl, inr, ◌+◌, ◌-◌, ◌<◌, ◌≤◌, Bool, true, false, not, cond, ◌&&◌, ◌||◌, eqb, List, [], ◌∷◌, ◌++◌, length, get_or, take, drop, Some, None, sym, refl, ap, ◌∙◌, subst, arith, add-one, length-append, append_assoc}
use Rattle.std.specs.Prelude.{Option, option_map}
use Rattle.std.proofs.lemmas.Bool.{eq-eqb, eqb-true, ne_eqb, cases_lt}
use Rattle.std.proofs.lemmas.List.{take-append-drop, take-append-le, take-take, length-take, length-drop, get_or-take, take_rest, take_all}
use Rattle.std.proofs.Math.Seq.{take-suc, take-add}
use Rattle.std.proofs.lemmas.Option.{none-some, same_Some}
use Rattle.http_port.specs.declared.scan.Scan.{Scan}
use Rattle.http_port.specs.HeadPart.{begin_with, lines, is_empty_line, part_length, longest_head, head_part, HoldsScan}
use Rattle.http_port.specs.Walks.{begun_behind}
use Rattle.memchr.specs.Find.{IsFirstByte, is_byte}

-- no byte of the list is an LF
abbrev pub HasNoLf : List ℕ → Type 0
HasNoLf bytes = (k : ℕ) → k < length bytes → get_or bytes k 0 ≢ 10

-- a line of text and what follows it
pub lines_line : (text more : List ℕ) → HasNoLf text → lines (text ++ 10 ∷ more) ≡ (text ++ 10 ∷ []) ∷ lines more
lines_line [] more none = refl
lines_line (b ∷ text) more none =
    ap (λ t. cond t ((b ∷ []) ∷ lines (text ++ 10 ∷ more)) (begin_with b (lines (text ++ 10 ∷ more)))) (ne_eqb b 10 (none 0 (omega arith)))
    ∙ ap (begin_with b) (lines_line text more (λ k below. none (suc k) (omega arith)))

pub lines_none : (bytes : List ℕ) → HasNoLf bytes → lines bytes ≡ []
lines_none [] none = refl
lines_none (b ∷ bytes) none =
    ap (λ t. cond t ((b ∷ []) ∷ lines bytes) (begin_with b (lines bytes))) (ne_eqb b 10 (none 0 (omega arith)))
    ∙ ap (begin_with b) (lines_none bytes (λ k below. none (suc k) (omega arith)))

pub option_map_twice : (m n : ℕ) (o : Option ℕ) → option_map (λ k. m + k) (option_map (λ k. n + k) o) ≡ option_map (λ k. m + n + k) o
option_map_twice m n None = refl
option_map_twice m n (Some k) = ap Some (omega arith)

-- a line that does not end the head part
pub part_goes_on : (begun : Bool) (line : List ℕ) (more : List (List ℕ)) → (begun && is_empty_line line) ≡ false
    → part_length begun (line ∷ more) ≡ option_map (λ n. length line + n) (part_length (begun || not (is_empty_line line)) more)
part_goes_on begun line more e =
    ap (λ t. cond t (Some (length line)) (option_map (λ n. length line + n) (part_length (begun || not (is_empty_line line)) more))) e

-- one that does
pub part_ends : (begun : Bool) (line : List ℕ) (more : List (List ℕ)) → (begun && is_empty_line line) ≡ true
    → part_length begun (line ∷ more) ≡ Some (length line)
part_ends begun line more e =
    ap (λ t. cond t (Some (length line)) (option_map (λ n. length line + n) (part_length (begun || not (is_empty_line line)) more))) e

-- the first LF of the bytes behind the scan stands n bytes on
pub record IsNextLf (bytes : List ℕ) (at n : ℕ) : Type 0 where
  pub inside : n < length (drop at bytes)
  pub lf : get_or (drop at bytes) n 0 ≡ 10
  pub before : (k : ℕ) → k < n → get_or (drop at bytes) k 0 ≢ 10

-- the line that ends there
abbrev pub next_line : List ℕ → ℕ → ℕ → List ℕ
next_line bytes at n = take (n + 1) (drop at bytes)

-- the line is text without an LF, and then the LF
line_text : (bytes : List ℕ) (at n : ℕ) → IsNextLf bytes at n → next_line bytes at n ≡ take n (drop at bytes) ++ 10 ∷ []
line_text bytes at n is =
    ap (λ k. take k (drop at bytes)) (add-one n) ∙ take-suc (drop at bytes) n 0 is.inside ∙ ap (λ b. take n (drop at bytes) ++ b ∷ []) is.lf

text_has_none : (bytes : List ℕ) (at n : ℕ) → IsNextLf bytes at n → HasNoLf (take n (drop at bytes))
text_has_none bytes at n is k below e =
    let within : k < n = omega (arith, length-take n (drop at bytes)) in
    is.before k within (sym (get_or-take n (drop at bytes) k 0 within) ∙ e)

pub lines_next : (bytes more : List ℕ) (at n : ℕ) → IsNextLf bytes at n → lines (next_line bytes at n ++ more) ≡ next_line bytes at n ∷ lines more
lines_next bytes more at n is =
    let text = take n (drop at bytes) in
    ap (λ l. lines (l ++ more)) (line_text bytes at n is)
    ∙ ap lines (append_assoc text (10 ∷ []) more)
    ∙ lines_line text more (text_has_none bytes at n is)
    ∙ ap (λ l. l ∷ lines more) (sym (line_text bytes at n is))

-- the bytes are what was looked through, the next line and the rest
bytes_parts : (bytes : List ℕ) (at n : ℕ) → bytes ≡ take at bytes ++ (next_line bytes at n ++ drop (n + 1) (drop at bytes))
bytes_parts bytes at n =
    sym (take-append-drop at bytes) ∙ ap (λ l. take at bytes ++ l) (sym (take-append-drop (n + 1) (drop at bytes)))

-- how the length of the head part goes on behind what was looked through, with a next line
part_at_line : (bytes : List ℕ) (scan : Scan) (n : ℕ) → HoldsScan bytes scan → IsNextLf bytes scan.at n → (more : List ℕ)
    → part_length false (lines (take scan.at bytes ++ (next_line bytes scan.at n ++ more)))
    ≡ option_map (λ k. scan.at + k) (part_length scan.begun (next_line bytes scan.at n ∷ lines more))
part_at_line bytes scan n holds is more =
    holds.goes_on (next_line bytes scan.at n ++ more)
    ∙ ap (λ l. option_map (λ k. scan.at + k) (part_length scan.begun l)) (lines_next bytes more scan.at n is)

length-next_line : (bytes : List ℕ) (at n : ℕ) → IsNextLf bytes at n → length (next_line bytes at n) ≡ n + 1
length-next_line bytes at n is = let inside = is.inside in omega (arith, length-take (n + 1) (drop at bytes), inside)

-- what the test of a line says
ends_by : (begun : Bool) (line : List ℕ) → begun_behind begun line ≡ None → (begun && is_empty_line line) ≡ true
ends_by begun line e = from_test (begun && is_empty_line line) e
  where
    from_test : (t : Bool) → cond t None (Some (begun || not (is_empty_line line))) ≡ None → t ≡ true
    from_test true f = refl
    from_test false f = absurd (none-some _ (sym f))

on_by : (begun : Bool) (line : List ℕ) (later : Bool) → begun_behind begun line ≡ Some later
    → ((begun && is_empty_line line) ≡ false) × ((begun || not (is_empty_line line)) ≡ later)
on_by begun line later e = from_test (begun && is_empty_line line) e
  where
    from_test : (t : Bool) → cond t None (Some (begun || not (is_empty_line line))) ≡ Some later → (t ≡ false) × ((begun || not (is_empty_line line)) ≡ later)
    from_test true f = absurd (none-some _ f)
    from_test false f = (refl, same_Some _ _ f)

-- the next LF, by the search for it
pub next_lf : (bytes : List ℕ) (at n : ℕ) → at ≤ length bytes
    → IsFirstByte (is_byte 10) (take (length bytes - at) (drop at bytes)) (Some n) → IsNextLf bytes at n
next_lf bytes at n inside found =
    let here = subst (λ hay. IsFirstByte (is_byte 10) hay (Some n)) (take_rest bytes at) found in
    record {
      inside = here.0.high;
      lf = eqb-true (get_or (drop at bytes) n 0) 10 here.1;
      before = λ k below e. here.0.before k (omega arith) below (eq-eqb (get_or (drop at bytes) k 0) 10 e);
    }

pub no_next_lf : (bytes : List ℕ) (at : ℕ) → at ≤ length bytes
    → IsFirstByte (is_byte 10) (take (length bytes - at) (drop at bytes)) None → HasNoLf (drop at bytes)
no_next_lf bytes at inside none k below e =
    let here = subst (λ hay. IsFirstByte (is_byte 10) hay None) (take_rest bytes at) none in
    here k (omega arith) below (eq-eqb (get_or (drop at bytes) k 0) 10 e)

-- the head part ends with the next line
pub scan_ends : (bytes : List ℕ) (scan : Scan) (n : ℕ) → HoldsScan bytes scan → IsNextLf bytes scan.at n
    → begun_behind scan.begun (next_line bytes scan.at n) ≡ None → part_length false (lines bytes) ≡ Some (scan.at + n + 1)
scan_ends bytes scan n holds is none =
    let ends = ends_by scan.begun (next_line bytes scan.at n) none in
    ap (λ l. part_length false (lines l)) (bytes_parts bytes scan.at n)
    ∙ part_at_line bytes scan n holds is (drop (n + 1) (drop scan.at bytes))
    ∙ ap (option_map (λ k. scan.at + k)) (part_ends scan.begun (next_line bytes scan.at n) (lines (drop (n + 1) (drop scan.at bytes))) ends)
    ∙ ap Some (omega (arith, length-next_line bytes scan.at n is))

-- the search goes on behind the next line
pub scan_on : (bytes : List ℕ) (scan : Scan) (n : ℕ) → HoldsScan bytes scan → IsNextLf bytes scan.at n
    → (begun : Bool) → begun_behind scan.begun (next_line bytes scan.at n) ≡ Some begun
    → HoldsScan bytes (record { at = scan.at + n + 1; begun = begun })
scan_on bytes scan n holds is begun some =
    let on = on_by scan.begun (next_line bytes scan.at n) begun some in
    let line = next_line bytes scan.at n in
    let inside = holds.inside in
    let below = is.inside in
    let long = length-next_line bytes scan.at n is in
    let at_end : scan.at + n + 1 ≡ scan.at + (n + 1) = omega arith in
    let front : take (scan.at + n + 1) bytes ≡ take scan.at bytes ++ line = ap (λ k. take k bytes) at_end ∙ take-add scan.at (n + 1) bytes in
    record {
      inside = omega (arith, length-drop scan.at bytes);
      goes_on = λ more.
          ap (λ l. part_length false (lines (l ++ more))) front
          ∙ ap (λ l. part_length false (lines l)) (append_assoc (take scan.at bytes) line more)
          ∙ part_at_line bytes scan n holds is more
          ∙ ap (option_map (λ k. scan.at + k)) (part_goes_on scan.begun line (lines more) on.0)
          ∙ option_map_twice scan.at (length line) (part_length (scan.begun || not (is_empty_line line)) (lines more))
          ∙ ap (λ m. option_map (λ k. m + k) (part_length (scan.begun || not (is_empty_line line)) (lines more))) (omega arith)
          ∙ ap (λ t. option_map (λ k. scan.at + n + 1 + k) (part_length t (lines more))) on.1;
    }

-- no line is left
pub scan_fails : (bytes : List ℕ) (scan : Scan) → HoldsScan bytes scan → HasNoLf (drop scan.at bytes) → part_length false (lines bytes) ≡ None
scan_fails bytes scan holds none =
    ap (λ l. part_length false (lines l)) (sym (take-append-drop scan.at bytes))
    ∙ holds.goes_on (drop scan.at bytes)
    ∙ ap (λ l. option_map (λ k. scan.at + k) (part_length scan.begun l)) (lines_none (drop scan.at bytes) none)

-- before the first line nothing is known
pub scan_start : (bytes : List ℕ) → HoldsScan bytes (record { at = 0; begun = false })
scan_start bytes = record { inside = omega arith; goes_on = λ more. from_none (part_length false (lines more)) }
  where
    from_none : (o : Option ℕ) → o ≡ option_map (λ k. 0 + k) o
    from_none None = refl
    from_none (Some k) = ap Some (omega arith)

-- what was looked through stays so with more bytes
pub scan_grows : (bytes more : List ℕ) (scan : Scan) → HoldsScan (take longest_head bytes) scan → HoldsScan (take longest_head (bytes ++ more)) scan
scan_grows bytes more scan holds =
    let inside = holds.inside in
    let short : scan.at ≤ longest_head = omega (arith, length-take longest_head bytes) in
    let within : scan.at ≤ length bytes = omega (arith, length-take longest_head bytes) in
    let old = take-take scan.at longest_head bytes short in
    let new = take-take scan.at longest_head (bytes ++ more) short in
    let same : take scan.at (take longest_head (bytes ++ more)) ≡ take scan.at (take longest_head bytes) = new ∙ take-append-le scan.at bytes more within ∙ sym old in
    record {
      inside = omega (arith, length-take longest_head (bytes ++ more), length-append bytes more);
      goes_on = λ rest. ap (λ l. part_length false (lines (l ++ rest))) same ∙ holds.goes_on rest;
    }

-- how many bytes the lines have
abbrev pub total : List (List ℕ) → ℕ
total [] = 0
total (line ∷ more) = length line + total more

total-begin_with : (b : ℕ) (ls : List (List ℕ)) → total (begin_with b ls) ≤ total ls + 1
total-begin_with b [] = omega arith
total-begin_with b (line ∷ more) = omega arith

total-lines : (bytes : List ℕ) → total (lines bytes) ≤ length bytes
total-lines [] = omega arith
total-lines (b ∷ bytes) = by_test (eqb b 10) (total-lines bytes)
  where
    by_test : (t : Bool) → total (lines bytes) ≤ length bytes → total (cond t ((b ∷ []) ∷ lines bytes) (begin_with b (lines bytes))) ≤ length (b ∷ bytes)
    by_test true h = omega arith
    by_test false h = omega (arith, total-begin_with b (lines bytes))

part_within_lines : (begun : Bool) (ls : List (List ℕ)) (n : ℕ) → part_length begun ls ≡ Some n → n ≤ total ls
part_within_lines begun [] n e = absurd (none-some n e)
part_within_lines begun (line ∷ more) n e =
    by_test (begun && is_empty_line line) (part_length (begun || not (is_empty_line line)) more) (part_within_lines (begun || not (is_empty_line line)) more) e
  where
    by_test : (t : Bool) (o : Option ℕ) → ((k : ℕ) → o ≡ Some k → k ≤ total more)
        → cond t (Some (length line)) (option_map (λ k. length line + k) o) ≡ Some n → n ≤ length line + total more
    by_test true o h f = let is = same_Some (length line) n f in omega arith
    by_test false None h f = absurd (none-some n f)
    by_test false (Some k) h f = let is = same_Some (length line + k) n f in let below = h k refl in omega arith

-- a head part lies within the bytes
pub part_within : (bytes : List ℕ) (n : ℕ) → part_length false (lines bytes) ≡ Some n → n ≤ length bytes
part_within bytes n e = let a = part_within_lines false (lines bytes) n e in let b = total-lines bytes in omega arith

-- the lines of a front of the bytes come first
lines_front : (bytes more : List ℕ) → (rest : List (List ℕ)) × (lines (bytes ++ more) ≡ lines bytes ++ rest)
lines_front [] more = (lines more, refl)
lines_front (b ∷ bytes) more = by_test (eqb b 10) (lines bytes) (lines_front bytes more)
  where
    by_test : (t : Bool) (ls : List (List ℕ)) → ((rest : List (List ℕ)) × (lines (bytes ++ more) ≡ ls ++ rest))
        → (rest : List (List ℕ)) × (cond t ((b ∷ []) ∷ lines (bytes ++ more)) (begin_with b (lines (bytes ++ more))) ≡ cond t ((b ∷ []) ∷ ls) (begin_with b ls) ++ rest)
    by_test true ls h = (h.0, ap (λ l. (b ∷ []) ∷ l) h.1)
    by_test false [] h = (begin_with b h.0, ap (begin_with b) h.1)
    by_test false (line ∷ others) h = (h.0, ap (begin_with b) h.1)

part_of_front : (begun : Bool) (ls rest : List (List ℕ)) (n : ℕ) → part_length begun ls ≡ Some n → part_length begun (ls ++ rest) ≡ Some n
part_of_front begun [] rest n e = absurd (none-some n e)
part_of_front begun (line ∷ more) rest n e =
    by_test (begun && is_empty_line line) (part_length (begun || not (is_empty_line line)) more) (part_of_front (begun || not (is_empty_line line)) more rest) e
  where
    by_test : (t : Bool) (o : Option ℕ) → ((k : ℕ) → o ≡ Some k → part_length (begun || not (is_empty_line line)) (more ++ rest) ≡ Some k)
        → cond t (Some (length line)) (option_map (λ k. length line + k) o) ≡ Some n
        → cond t (Some (length line)) (option_map (λ k. length line + k) (part_length (begun || not (is_empty_line line)) (more ++ rest))) ≡ Some n
    by_test true o h f = f
    by_test false None h f = absurd (none-some n f)
    by_test false (Some k) h f = ap (option_map (λ j. length line + j)) (h k refl) ∙ f

take_front : (n : ℕ) (xs ys : List ℕ) → (rest : List ℕ) × (take n (xs ++ ys) ≡ take n xs ++ rest)
take_front zero [] ys = ([], refl)
take_front zero (x ∷ xs) ys = ([], refl)
take_front (suc n) [] ys = (take (suc n) ys, refl)
take_front (suc n) (x ∷ xs) ys = let h = take_front n xs ys in (h.0, ap (λ l. x ∷ l) h.1)

-- a head part stays the same with more bytes
pub head_part_grows : (bytes more : List ℕ) (n : ℕ) → head_part bytes ≡ Some n → head_part (bytes ++ more) ≡ Some n
head_part_grows bytes more n e =
    let front = take_front longest_head bytes more in
    let all = lines_front (take longest_head bytes) front.0 in
    ap (λ l. part_length false (lines l)) front.1 ∙ ap (part_length false) all.1 ∙ part_of_front false (lines (take longest_head bytes)) all.0 n e

pub head_part_within : (bytes : List ℕ) (n : ℕ) → head_part bytes ≡ Some n → n ≤ length (take longest_head bytes)
head_part_within bytes n e = part_within (take longest_head bytes) n e

-- a front of so many bytes, or of all
pub take_min : (n : ℕ) (xs : List ℕ) → take (min (length xs) n) xs ≡ take n xs
take_min n xs = elim (cases_lt (length xs) n) [
  | inl short ↦ ap (λ k. take k xs) (omega arith) ∙ take_all (length xs) xs (omega arith) ∙ sym (take_all n xs (omega arith))
  | inr long ↦ ap (λ k. take k xs) (omega arith)
]
