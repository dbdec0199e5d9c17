-- How the lines of a load are cut.
use Rattle.std.proofs.Common.{◌≡◌, ◌≢◌, ◌∙◌, refl, sym, ap, ap₂, ℕ, zero, suc, ◌+◌, ◌^◌, ◌<◌, ◌≤◌, ◌==◌, ◌%◌, ◌&&◌, Bool, true, false, not, true≢false, arith, List, [], ◌∷◌, ◌++◌, length, append_assoc, append-nil, length-append, codes}
use Rattle.std.specs.List.{filter, list_all}
use Rattle.std.proofs.lemmas.List.Elements.{filter-append}
use Rattle.std.specs.Fmt.{decimal}
use Rattle.std.proofs.lemmas.Bool.{eqb-false}
use Rattle.std.proofs.lemmas.Fmt.{decimal_by_steps}
use Rattle.std.proofs.lemmas.List.{flat_map_more}
use Rattle.run_theorem.specs.Split.{split, IsOpen, all_lines, is_blank, sent_lines}
use Rattle.run_lines.proofs.Splitting.{IsOpen-append, split-append, split-newline, split-open}
use Rattle.load_maker.specs.Lines.{first_lines, line, lines, next, number, order, with_ends}

-- ---- a line has no end in it

-- bytes of which none is LF
abbrev has_none : List ℕ → Bool
has_none bytes = list_all (λ b. not (b == 10)) bytes

both_true : (a b : Bool) → (a && b) ≡ true → (a ≡ true) × (b ≡ true)
both_true true b e = (refl, e)
both_true false b e = absurd (true≢false (sym e))

is_no : (b : Bool) → not b ≡ true → b ≡ false
is_no true e = absurd (true≢false (sym e))
is_no false e = refl

is_open : (bytes : List ℕ) → has_none bytes ≡ true → IsOpen bytes
is_open [] h = tt
is_open (b ∷ bs) h =
    let both = both_true (not (b == 10)) (has_none bs) h in
    (eqb-false b 10 (is_no (b == 10) both.0), is_open bs both.1)

digit_is_open : (n : ℕ) → n < 10 → IsOpen ((48 + n) ∷ [])
digit_is_open n few = ((λ same. omega (arith, same)), tt)

digits_are_open : (n : ℕ) (ds : List ℕ) → 10 ≤ n → IsOpen ds → IsOpen (ds ++ ((48 + n % 10) ∷ []))
digits_are_open n ds many before = IsOpen-append ds ((48 + n % 10) ∷ []) before ((λ same. omega (arith, same)), tt)

decimal_is_open : (n : ℕ) → n < 2 ^ 64 → IsOpen (decimal n)
decimal_is_open n h = decimal_by_steps (λ n ds. IsOpen ds) digit_is_open digits_are_open n h

open_order : (i x : ℕ) → i < 2 ^ 64 → IsOpen (order i x)
open_order i x h =
    let id = decimal_is_open i h in
    let pieces = decimal_is_open (1 + x % 3) (omega arith) in
    let price = decimal_is_open (1 + x % 60) (omega arith) in
    let sku = codes ",\"sku\":\"x\"}}" in
    let at_price = decimal (1 + x % 60) ++ sku in
    let behind_pieces = codes ",\"price\":" ++ at_price in
    let at_pieces = decimal (1 + x % 3) ++ behind_pieces in
    let behind_id = codes "\",\"n\":" ++ at_pieces in
    let at_id = decimal i ++ behind_id in
    let method = codes ",\"jsonrpc\":\"2.0\",\"method\":\"order\",\"params\":{\"id\":\"" in
    IsOpen-append (codes "{\"id\":") (decimal i ++ (method ++ at_id)) (is_open (codes "{\"id\":") refl)
    (IsOpen-append (decimal i) (method ++ at_id) id
    (IsOpen-append method at_id (is_open method refl)
    (IsOpen-append (decimal i) behind_id id
    (IsOpen-append (codes "\",\"n\":") at_pieces (is_open (codes "\",\"n\":") refl)
    (IsOpen-append (decimal (1 + x % 3)) behind_pieces pieces
    (IsOpen-append (codes ",\"price\":") at_price (is_open (codes ",\"price\":") refl)
    (IsOpen-append (decimal (1 + x % 60)) sku price (is_open sku refl))))))))

-- ---- the lines of a load

-- one line more
pub one_more : (n i : ℕ) → with_ends (first_lines n (suc i)) ≡ with_ends (first_lines n i) ++ (line n i ++ 10 ∷ [])
unfolding first_lines
one_more n i = sym (flat_map_more (λ line. line ++ 10 ∷ []) [] (first_lines n i) (line n i))

-- before the first line
pub none_written : (n : ℕ) → [] ≡ with_ends (first_lines n 0)
unfolding first_lines
none_written n = refl

pub none_reached : (n : ℕ) → n ≡ number n 0
unfolding number
none_reached n = refl

-- the number of a line, by the one before
pub next_number : (n i x y : ℕ) → x ≡ number n i → y ≡ next x → y ≡ number n (suc i)
unfolding number
next_number n i x y is after = after ∙ ap next is

-- a line is written after those before it
pub line_written : (n i x : ℕ) (before line now : List ℕ) → before ≡ with_ends (first_lines n i) → x ≡ number n (suc i)
    → line ≡ order i x → now ≡ (before ++ line) ++ 10 ∷ [] → now ≡ with_ends (first_lines n (suc i))
line_written n i x before line now is reached written pushed =
    pushed ∙ append_assoc before line (10 ∷ [])
    ∙ ap₂ (λ bytes more. bytes ++ (more ++ 10 ∷ [])) is (written ∙ ap (order i) reached) ∙ sym (one_more n i)

split_by : (xs ys : List ℕ) (ls : List (List ℕ)) (l : List ℕ) → split xs ≡ (ls, []) → split ys ≡ (l ∷ [], [])
    → split (xs ++ ys) ≡ (ls ++ l ∷ [], [])
split_by xs ys ls l e f = split-append xs ys ∙ rw (e, f) refl

-- one line with its end
split_one : (line : List ℕ) → IsOpen line → split (line ++ 10 ∷ []) ≡ (line ∷ [], [])
split_one line h = split-newline line ∙ rw (split-open line h) refl

-- they are cut as they are, and nothing stands after the last
pub cut : (n i : ℕ) → i < 2 ^ 64 → split (with_ends (first_lines n i)) ≡ (first_lines n i, [])
unfolding first_lines split
cut n zero h = refl
cut n (suc i) h =
    ap split (one_more n i)
    ∙ split_by (with_ends (first_lines n i)) (line n i ++ 10 ∷ []) (first_lines n i) (line n i) (cut n i (omega (arith, h)))
    (split_one (line n i) (open_order i (number n (suc i)) (omega (arith, h))))

-- as many as were asked for
pub as_many : (n i : ℕ) → length (first_lines n i) ≡ i
unfolding first_lines
as_many n zero = refl
as_many n (suc i) = length-append (first_lines n i) (line n i ∷ []) ∙ rw (as_many n i) (omega arith)

-- what is kept of lines of which the last is not blank
filter_more : {A : Type 0} (keeps : A → Bool) (xs : List A) (x : A) → keeps x ≡ true → filter keeps xs ≡ xs
    → filter keeps (xs ++ x ∷ []) ≡ xs ++ x ∷ []
filter_more keeps xs x e f = filter-append keeps xs (x ∷ []) ∙ rw (f, e) refl

-- none of them is blank
pub all_sent : (n i : ℕ) → sent_lines (first_lines n i) ≡ first_lines n i
unfolding first_lines
all_sent n zero = refl
all_sent n (suc i) = filter_more (λ line. not (is_blank line)) (first_lines n i) (line n i) refl (all_sent n i)

-- the lines of a load are those that its bytes send
pub sent : (n : ℕ) → n < 2 ^ 64 → sent_lines (all_lines (with_ends (lines n))) ≡ lines n
sent n h =
    ap (λ (p : List (List ℕ) × List ℕ). sent_lines (p.0 ++ p.1 ∷ [])) (cut n n h)
    ∙ filter-append (λ line. not (is_blank line)) (lines n) ([] ∷ []) ∙ append-nil _ ∙ all_sent n n
