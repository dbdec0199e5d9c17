-- How bytes are cut into lines.
use Rattle.std.proofs.Common.{◌≡◌, ◌≢◌, refl, sym, ap, subst, ◌∙◌, ℕ, zero, suc, ◌+◌, ◌<◌, ◌≤◌, ◌==◌, ◌-◌, min, Bool, true, false, cond, arith, List, [], ◌∷◌, ◌++◌, length, take, drop, append_assoc, append-nil, length-append}
use Rattle.std.proofs.Common.{Option, Some, None, get_or, nat_lt, not, take-add, true≢false}
use Rattle.std.specs.List.{position, prefix_len}
use Rattle.std.proofs.lemmas.Bool.{eqb-false, eqb-true, ne_eqb, ltb-false}
use Rattle.std.proofs.lemmas.List.Quantifiers.{position-Some}
use Rattle.std.proofs.lemmas.List.Sums.{prefix_len_passes}
use Rattle.std.proofs.lemmas.List.{take-append-drop, take-append-le, take_all, take_more, length-take, length-take-le, length-drop, drop-drop}
use Rattle.run_theorem.specs.Split.{split, onto, IsOpen, whole_lines, all_lines}
use Rattle.run_lines.specs.Passing.{Passing, IsLine, longest_piece, IsNear}

-- ---- lines of longer bytes

-- a byte before bytes that others stand behind
split_step : (b : ℕ) (ls : List (List ℕ)) (r ys : List ℕ) → (c : Bool) → (b == 10) ≡ c
    → cond c ([] ∷ (ls ++ (split (r ++ ys)).0), (split (r ++ ys)).1) (onto b (ls ++ (split (r ++ ys)).0) (split (r ++ ys)).1)
    ≡ ((cond c ([] ∷ ls, r) (onto b ls r)).0 ++ (split ((cond c ([] ∷ ls, r) (onto b ls r)).1 ++ ys)).0, (split ((cond c ([] ∷ ls, r) (onto b ls r)).1 ++ ys)).1)
unfolding split
split_step b ls r ys true e = refl
split_step b [] r ys false e = rw e
split_step b (l ∷ ls) r ys false e = refl

-- bytes behind others
pub split-append : (xs ys : List ℕ) → split (xs ++ ys) ≡ ((split xs).0 ++ (split ((split xs).1 ++ ys)).0, (split ((split xs).1 ++ ys)).1)
unfolding split
split-append [] ys = refl
split-append (b ∷ xs) ys = rw (split-append xs ys) (split_step b (split xs).0 (split xs).1 ys (b == 10) refl)

-- a byte before what is open
open_before_at : (b : ℕ) (ls : List (List ℕ)) (r : List ℕ) (c : Bool) → (b == 10) ≡ c → IsOpen r → IsOpen (cond c ([] ∷ ls, r) (onto b ls r)).1
open_before_at b ls r true e h = h
open_before_at b [] r false e h = (eqb-false b 10 e, h)
open_before_at b (l ∷ ls) r false e h = h

-- what stands after the last end has none
pub IsOpen-split : (xs : List ℕ) → IsOpen (split xs).1
unfolding split
IsOpen-split [] = tt
IsOpen-split (b ∷ xs) = open_before_at b (split xs).0 (split xs).1 (b == 10) refl (IsOpen-split xs)

-- what has no end is all rest
pub split-open : (xs : List ℕ) → IsOpen xs → split xs ≡ ([], xs)
unfolding split
split-open [] h = refl
split-open (b ∷ xs) h = rw (split-open xs h.1, ne_eqb b 10 h.0)

-- an end makes it a line
split-end : (xs : List ℕ) → IsOpen xs → split (xs ++ 10 ∷ []) ≡ (xs ∷ [], [])
unfolding split
split-end [] h = refl
split-end (b ∷ xs) h = rw (split-end xs h.1, ne_eqb b 10 h.0)

-- an end behind any bytes
pub split-newline : (xs : List ℕ) → split (xs ++ 10 ∷ []) ≡ ((split xs).0 ++ (split xs).1 ∷ [], [])
split-newline xs = rw (split-append xs (10 ∷ []), split-end (split xs).1 (IsOpen-split xs))

-- ---- bytes without an end

-- what has no line in it is open, by its first byte
open_from_none : (b : ℕ) (xs : List ℕ) (ls : List (List ℕ)) (r : List ℕ) (c : Bool) → (b == 10) ≡ c
    → ((ls ≡ []) → IsOpen xs) → (cond c ([] ∷ ls, r) (onto b ls r)).0 ≡ [] → IsOpen (b ∷ xs)
open_from_none b xs ls r true e rest none = absurd (let no : ([] ∷ ls) ≡ [] = none in cc)
open_from_none b xs [] r false e rest none = (eqb-false b 10 e, rest refl)
open_from_none b xs (l ∷ ls) r false e rest none = absurd (let no : ((b ∷ l) ∷ ls) ≡ [] = none in cc)

-- what has no line in it is open
pub IsOpen-none : (xs : List ℕ) → (split xs).0 ≡ [] → IsOpen xs
unfolding split
IsOpen-none [] none = tt
IsOpen-none (b ∷ xs) none = open_from_none b xs (split xs).0 (split xs).1 (b == 10) refl (IsOpen-none xs) none

-- open bytes behind open bytes
pub IsOpen-append : (xs ys : List ℕ) → IsOpen xs → IsOpen ys → IsOpen (xs ++ ys)
IsOpen-append [] ys h k = k
IsOpen-append (x ∷ xs) ys h k = (h.0, IsOpen-append xs ys h.1 k)

-- ---- the first line

-- the element behind others
get_or-append_at : (xs : List ℕ) (y : ℕ) (ys : List ℕ) → get_or (xs ++ y ∷ ys) (length xs) 0 ≡ y
get_or-append_at [] y ys = refl
get_or-append_at (x ∷ xs) y ys = get_or-append_at xs y ys

-- a line's end stands inside of the bytes
pub line_inside : (n : ℕ) (bytes : List ℕ) → IsLine n bytes → n < length bytes
line_inside n bytes l =
    let whole : length bytes ≡ length (take n bytes) + length (10 ∷ drop (n + 1) bytes) =
    ap length l.whole ∙ length-append (take n bytes) (10 ∷ drop (n + 1) bytes) in
    let back : length (drop (n + 1) bytes) ≡ length bytes - (n + 1) = length-drop (n + 1) bytes in
    let front : length (take n bytes) ≡ min n (length bytes) = length-take n bytes in
    omega arith

-- the byte behind a line is an end
pub line_end : (n : ℕ) (bytes : List ℕ) → IsLine n bytes → get_or bytes n 0 ≡ 10
line_end n bytes l =
    let lt = line_inside n bytes l in
    let long : length (take n bytes) ≡ n = length-take-le n bytes (omega arith) in
    ap (λ b. get_or b n 0) l.whole ∙ ap (λ k. get_or (take n bytes ++ 10 ∷ drop (n + 1) bytes) k 0) (sym long)
    ∙ get_or-append_at (take n bytes) 10 (drop (n + 1) bytes)

-- a line behind bytes without an end
pub IsLine-behind : (seen more : ℕ) (bytes : List ℕ) → seen ≤ length bytes → IsOpen (take seen bytes) → IsLine more (drop seen bytes)
    → IsLine (seen + more) bytes
IsLine-behind seen more bytes within front l = record {
  inside = subst IsOpen (sym (take-add seen more bytes)) (IsOpen-append (take seen bytes) (take more (drop seen bytes)) front l.inside);
  whole =
      sym (take-append-drop seen bytes) ∙ ap (λ t. take seen bytes ++ t) l.whole
      ∙ sym (append_assoc (take seen bytes) (take more (drop seen bytes)) (10 ∷ drop (more + 1) (drop seen bytes)))
      ∙ ap (λ t. t ++ 10 ∷ drop (more + 1) (drop seen bytes)) (sym (take-add seen more bytes))
      ∙ ap (λ t. take (seen + more) bytes ++ 10 ∷ t) (drop-drop (more + 1) seen bytes ∙ ap (λ k. drop k bytes) (let same : seen + (more + 1) ≡ seen + more + 1 = omega arith in same));
}

-- ---- lines that are passed

module _ (passed line : List ℕ) (ended : (split passed).1 ≡ []) (inside : IsOpen line) where
  -- bytes without an end behind lines that have theirs
  split-behind : split (passed ++ line) ≡ ((split passed).0, line)
  split-behind =
      split-append passed line
      ∙ ap (λ r. ((split passed).0 ++ (split (r ++ line)).0, (split (r ++ line)).1)) ended
      ∙ ap (λ p. ((split passed).0 ++ p.0, p.1)) (split-open line inside)
      ∙ ap (λ ls. (ls, line)) (append-nil (split passed).0)

  -- with its end it is one line more
  pub lines-passed : whole_lines (passed ++ line ++ 10 ∷ []) ≡ whole_lines passed ++ line ∷ []
  lines-passed = ap (λ p. p.0) (split-newline (passed ++ line)) ∙ ap (λ p. p.0 ++ p.1 ∷ []) split-behind

  -- without it it is the last one
  pub lines-last : all_lines (passed ++ line) ≡ whole_lines passed ++ line ∷ []
  lines-last = ap (λ p. p.0 ++ p.1 ∷ []) split-behind

  -- or none
  pub lines-cut : whole_lines (passed ++ line) ≡ whole_lines passed
  lines-cut = ap (λ p. p.0) split-behind

-- an end ends a line
pub split-ended : (xs : List ℕ) → (split (xs ++ 10 ∷ [])).1 ≡ []
split-ended xs = ap (λ p. p.1) (split-newline xs)

-- ---- where a line ends first

-- bytes of which none is an end
open_below : (zs : List ℕ) (n : ℕ) → n ≤ length zs → ((k : ℕ) → k < n → (get_or zs k 0 == 10) ≡ false) → IsOpen (take n zs)
open_below zs zero le h = tt
open_below [] (suc n) le h = tt
open_below (z ∷ zs) (suc n) le h = (eqb-false z 10 (h 0 (omega arith)), open_below zs n (omega arith) (λ k lt. h (suc k) (omega arith)))

-- the first line by its end
pub line_ended : (zs : List ℕ) (n : ℕ) → position (λ b. b == 10) zs ≡ Some n → IsLine n zs
line_ended zs n is =
    let at = position-Some (λ b. b == 10) zs n 0 is in
    record {
      inside = open_below zs n (omega (arith, at.0)) at.2;
      whole =
          sym (take-append-drop (n + 1) zs) ∙ ap (λ t. t ++ drop (n + 1) zs) (take_more zs n 0 at.0)
          ∙ append_assoc (take n zs) (get_or zs n 0 ∷ []) (drop (n + 1) zs)
          ∙ ap (λ b. take n zs ++ b ∷ drop (n + 1) zs) (eqb-true (get_or zs n 0) 10 at.1);
    }

-- a test that does not pass
not_passed : (b : Bool) → not b ≡ true → b ≡ false
not_passed true h = absurd (true≢false (sym h))
not_passed false h = refl

-- a place that is none
no_place : (m n : ℕ) (b : Bool) → nat_lt m n ≡ b → cond b (Some m) None ≡ None → n ≤ m
no_place m n true test is = absurd (let no : Some m ≡ None = is in cc)
no_place m n false test is = ltb-false m n test

-- no line ends
pub none_ended : (zs : List ℕ) → position (λ b. b == 10) zs ≡ None → IsOpen zs
none_ended zs is =
    let all : length zs ≤ prefix_len (λ b. not (b == 10)) zs = no_place (prefix_len (λ b. not (b == 10)) zs) (length zs) (nat_lt (prefix_len (λ b. not (b == 10)) zs) (length zs)) refl is in
    subst IsOpen (take_all (length zs) zs (omega arith))
    (open_below zs (length zs) (omega arith) (λ k lt. not_passed (get_or zs k 0 == 10) (prefix_len_passes (λ b. not (b == 10)) zs k 0 (omega arith))))

-- ---- how far lines were seen

module _ (bytes : List ℕ) (passed seen : ℕ) (within : passed + seen ≤ length bytes) (unended : (split (take seen (drop passed bytes))).0 ≡ []) where
  -- as much as was seen is there
  seen_within : seen ≤ length (drop passed bytes)
  seen_within = let long : length (drop passed bytes) ≡ length bytes - passed = length-drop passed bytes in omega arith

  -- and has no end
  seen_open : IsOpen (take seen (drop passed bytes))
  seen_open = IsOpen-none (take seen (drop passed bytes)) unended

  -- an end that is found
  pub found_line : (more : ℕ) → position (λ b. b == 10) (drop (passed + seen) bytes) ≡ Some more → IsLine (seen + more) (drop passed bytes)
  found_line more is =
      IsLine-behind seen more (drop passed bytes) seen_within seen_open
      (line_ended (drop seen (drop passed bytes)) more (ap (position (λ b. b == 10)) (drop-drop seen passed bytes) ∙ is))

  -- none that is found
  pub found_none : position (λ b. b == 10) (drop (passed + seen) bytes) ≡ None → IsOpen (drop passed bytes)
  found_none is =
      subst IsOpen (take-append-drop seen (drop passed bytes))
      (IsOpen-append (take seen (drop passed bytes)) (drop seen (drop passed bytes)) seen_open
      (none_ended (drop seen (drop passed bytes)) (ap (position (λ b. b == 10)) (drop-drop seen passed bytes) ∙ is)))

-- a front of a line is open
pub line_unended : (n : ℕ) (bytes : List ℕ) → IsLine n bytes → (split (take n bytes)).0 ≡ []
line_unended n bytes l = ap (λ p. p.0) (split-open (take n bytes) l.inside)

-- open bytes have no line
pub open_unended : (bytes : List ℕ) → IsOpen bytes → (split bytes).0 ≡ []
open_unended bytes h = ap (λ p. p.0) (split-open bytes h)

-- ---- a line is passed

module _ (bytes : List ℕ) (passed n : ℕ) (l : IsLine n (drop passed bytes)) where
  -- a byte behind so many is counted last
  counted_last : passed + n + 1 ≡ passed + (n + 1)
  counted_last = omega arith

  -- the bytes that were passed with it
  pub passed-line : take (passed + n + 1) bytes ≡ take passed bytes ++ take n (drop passed bytes) ++ 10 ∷ []
  passed-line =
      let lt = line_inside n (drop passed bytes) l in
      ap (λ k. take k bytes) counted_last ∙ take-add passed (n + 1) bytes
      ∙ ap (λ t. take passed bytes ++ t) (take_more (drop passed bytes) n 0 lt ∙ ap (λ b. take n (drop passed bytes) ++ b ∷ []) (line_end n (drop passed bytes) l))
      ∙ sym (append_assoc (take passed bytes) (take n (drop passed bytes)) (10 ∷ []))

  -- what is left behind it
  pub left-line : drop (passed + n + 1) bytes ≡ drop (n + 1) (drop passed bytes)
  left-line = ap (λ k. drop k bytes) counted_last ∙ sym (drop-drop (n + 1) passed bytes)

  -- where they end a line ends
  pub ended-line : (split (take (passed + n + 1) bytes)).1 ≡ []
  ended-line = ap (λ t. (split t).1) passed-line ∙ split-ended (take passed bytes ++ take n (drop passed bytes))

  -- they are there
  pub line_within : passed + n + 1 ≤ length bytes
  line_within =
      let lt : n < length (drop passed bytes) = line_inside n (drop passed bytes) l in
      let long : length (drop passed bytes) ≡ length bytes - passed = length-drop passed bytes in
      omega arith

-- ---- how much is read behind the lines that were passed

-- a front of what is open is open
IsOpen-take : (n : ℕ) (xs : List ℕ) → IsOpen xs → IsOpen (take n xs)
IsOpen-take zero xs h = tt
IsOpen-take (suc n) [] h = tt
IsOpen-take (suc n) (x ∷ xs) h = (h.0, IsOpen-take n xs h.1)

-- a piece behind what is open
pub near_more : (before now : Passing) (bytes : List ℕ) → IsOpen before.rest → now.rest ≡ before.rest ++ bytes
    → length now.rest ≤ length before.rest + longest_piece → IsNear now
near_more before now bytes open_yet grown short =
    let same : length now.rest ≡ length (before.rest ++ bytes) = ap length grown in
    let within : length (before.rest ++ bytes) - longest_piece ≤ length before.rest = omega arith in
    subst (λ r. IsOpen (take (length r - longest_piece) r)) (sym grown)
    (subst IsOpen (sym (take-append-le (length (before.rest ++ bytes) - longest_piece) before.rest bytes within))
    (IsOpen-take (length (before.rest ++ bytes) - longest_piece) before.rest open_yet))

-- where nothing ends in a front, an end stands behind it
end_behind : (n k : ℕ) (xs : List ℕ) → get_or xs n 0 ≡ 10 → n < length xs → IsOpen (take k xs) → k ≤ n
end_behind n zero xs at lt open_yet = omega arith
end_behind n (suc k) [] at lt open_yet = omega (arith, lt)
end_behind zero (suc k) (x ∷ xs) at lt open_yet = absurd (open_yet.0 at)
end_behind (suc n) (suc k) (x ∷ xs) at lt open_yet =
    let rest : k ≤ n = end_behind n k xs at (omega (arith, lt)) open_yet.1 in
    omega (arith, rest)

-- a line is passed
pub near_passed : (before now : Passing) (n : ℕ) → IsLine n before.rest → now.rest ≡ drop (n + 1) before.rest → IsNear before → IsNear now
near_passed before now n l left near =
    let inside : n < length before.rest = line_inside n before.rest l in
    let behind : length before.rest - longest_piece ≤ n = end_behind n (length before.rest - longest_piece) before.rest (line_end n before.rest l) inside near in
    let long : length (drop (n + 1) before.rest) ≡ length before.rest - (n + 1) = length-drop (n + 1) before.rest in
    let none : 0 ≡ length (drop (n + 1) before.rest) - longest_piece = omega arith in
    subst (λ r. IsOpen (take (length r - longest_piece) r)) (sym left) (subst (λ k. IsOpen (take k (drop (n + 1) before.rest))) none tt)

-- what stands behind the same bytes is the same
pub same_behind : (xs ys zs : List ℕ) → xs ++ ys ≡ xs ++ zs → ys ≡ zs
same_behind [] ys zs e = e
same_behind (x ∷ xs) ys zs e = same_behind xs ys zs (let rest : xs ++ ys ≡ xs ++ zs = cc in rest)
