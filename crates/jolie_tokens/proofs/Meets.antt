-- What stands at the front of bytes is the piece or the refusal that the definitions have there, and no other.
use Rattle.std.proofs.Common.{◌≡◌, ℕ, suc, ◌+◌, ◌<◌, ◌≤◌, Bool, true, false, cond, not, ◌&&◌, ◌||◌, List, [], ◌∷◌, ◌++◌, length, take, drop, refl, sym, ap, subst, ◌∙◌, arith, append_assoc, Option, None, Some, Result, Ok, Err}
use Rattle.std.specs.Prelude.{◌==◌, nat_lt}
use Rattle.std.specs.List.{All, AllPass, prefix_len}
use Rattle.std.specs.Option.{MatchOption}
use Rattle.std.specs.Str.{IsUtf8}
use Rattle.std.proofs.lemmas.Bool.{eqb-true, ne_eqb}
use Rattle.std.proofs.lemmas.Bool.Decides.{nat_tests}
use Rattle.std.proofs.lemmas.List.{take-append-drop}
use Rattle.std.proofs.lemmas.List.Elements.{All-head}
use Rattle.std.proofs.Math.Seq.{take-append_seam, drop-append_seam}
use Rattle.jolie_tokens.specs.declared.lex_error.LexError.{LexError}
use Rattle.jolie_tokens.specs.declared.lex_error.LexError.TheVariants as error
use Rattle.jolie_tokens.specs.declared.sign.Sign.{Sign}
use Rattle.jolie_tokens.specs.declared.sign.Sign.TheVariants as sign
use Rattle.jolie_tokens.specs.Bytes.{quote, star, slash, letter_l, is_blank, is_letter, is_digit, is_word_byte, is_in_line, begins}
use Rattle.jolie_tokens.specs.Numbers.{largest_int, largest_long, AreDigits, value, begins_fraction, closes_long, is_bad_number}
use Rattle.jolie_tokens.specs.Signs.{sign_bytes, sign_at}
use Rattle.jolie_tokens.specs.Utf8.{StopsAt}
use Rattle.jolie_tokens.specs.Pieces as p
use Rattle.jolie_tokens.specs.Pieces.{Piece, Part, IsPart, IsKnown, inside, written, HasNoEnd, IsPiece, StandsBefore, begins_comment}
use Rattle.jolie_tokens.specs.Refusals.{BeginsNothing, ClosesNothing, IsFirstFault, IsBadString, IsBadLine, IsBadBlock, IsBadNumber, IsStuck, IsBadByte, of_nothing, of_string, of_line, of_block}
use Rattle.jolie_tokens.specs.Fronts.{begins_piece, front, number, number_of, line_comment, block_comment, block_comment_to, string, string_to, sign_or, after_slash, unless_stopped, utf8_stop, comment_end, string_end, bad_escape, least, parts}
use Rattle.jolie_tokens.specs.Fronts as f
use Rattle.jolie_tokens.proofs.Runs.{run_passes, run_stops, run_of}
use Rattle.jolie_tokens.proofs.Encoding.{stop_found, stop_none, stop_some}
use Rattle.jolie_tokens.proofs.Strings.{end_found, end_closes, end_none, end_closes_nothing, parts_inside, fault_found, fault_first, fault_none}
use Rattle.jolie_tokens.proofs.Comments.{comment_ended, comment_open, end_of_comment, open_comment}
use Rattle.jolie_tokens.proofs.SignTable.{sign_found, sign_none, sign_finds}

-- a valid piece stands at the front, before what it may stand before
pub record Fits (bs : List ℕ) (piece : Piece) : Type 0 where
  pub rest : List ℕ
  pub whole : bs ≡ written piece ++ rest
  pub valid : IsPiece piece
  pub before : StandsBefore piece rest

-- the piece stands there, or the bytes are refused so
abbrev pub Meets : List ℕ → ℕ → Result Piece LexError → Type 0
Meets bs at (Ok piece) = Fits bs piece
Meets bs at (Err e) = IsStuck bs at e

cut : (n : ℕ) (bs : List ℕ) → bs ≡ take n bs ++ drop n bs
cut n bs = sym (take-append-drop n bs)

-- words
letter_in_word : (b : ℕ) → is_letter b ≡ true → is_word_byte b ≡ true
letter_in_word b e = rw e refl

word_begins : (b : ℕ) (bs : List ℕ) → is_letter b ≡ true → begins is_letter (take (prefix_len is_word_byte (b ∷ bs)) (b ∷ bs)) ≡ true
word_begins b bs e = by (is_word_byte b) (letter_in_word b e)
  where
    by : (c : Bool) → c ≡ true → begins is_letter (take (cond c (1 + prefix_len is_word_byte bs) 0) (b ∷ bs)) ≡ true
    by true h = subst (λ n. begins is_letter (take n (b ∷ bs)) ≡ true) (let q : suc (prefix_len is_word_byte bs) ≡ 1 + prefix_len is_word_byte bs = omega arith in q) e
    by false h = absurd cc

word_meets : (b : ℕ) (bs : List ℕ) (at : ℕ) → is_letter b ≡ true → Meets (b ∷ bs) at (f.word (b ∷ bs))
word_meets b bs at e = record {
  rest = drop (prefix_len is_word_byte (b ∷ bs)) (b ∷ bs);
  whole = cut (prefix_len is_word_byte (b ∷ bs)) (b ∷ bs);
  valid = (word_begins b bs e, run_passes is_word_byte (b ∷ bs));
  before = run_stops is_word_byte (b ∷ bs);
}

-- numbers
number_at : (ds rest : List ℕ) (at : ℕ) → AllPass is_digit ds → begins is_digit rest ≡ false → number (ds ++ rest) at ≡ number_of ds rest at
unfolding number
number_at ds rest at each ends =
    let long : prefix_len is_digit (ds ++ rest) ≡ length ds = run_of is_digit ds rest each ends in
    ap (λ n. number_of (take n (ds ++ rest)) (drop n (ds ++ rest)) at) long
    ∙ ap (λ x. number_of x (drop (length ds) (ds ++ rest)) at) (take-append_seam ds rest)
    ∙ ap (λ x. number_of ds x at) (drop-append_seam ds rest)

digits_some : (b : ℕ) (bs : List ℕ) → is_digit b ≡ true → 0 < length (take (prefix_len is_digit (b ∷ bs)) (b ∷ bs))
digits_some b bs e = by (is_digit b) e
  where
    by : (c : Bool) → c ≡ true → 0 < length (take (cond c (1 + prefix_len is_digit bs) 0) (b ∷ bs))
    by true h = subst (λ n. 0 < length (take n (b ∷ bs))) (let q : suc (prefix_len is_digit bs) ≡ 1 + prefix_len is_digit bs = omega arith in q) (omega arith)
    by false h = absurd cc

-- an `L` that closes a long, and what follows it
record Closes (rest : List ℕ) : Type 0 where
  pub after : List ℕ
  pub whole : rest ≡ letter_l ∷ after
  pub ends : begins is_word_byte after ≡ false

and_both : (a b : Bool) → a && b ≡ true → (a ≡ true) × (b ≡ true)
and_both true b e = (refl, e)
and_both false b e = absurd cc

not_true : (a : Bool) → not a ≡ true → a ≡ false
not_true true e = absurd cc
not_true false e = refl

closes_is : (rest : List ℕ) → closes_long rest ≡ true → Closes rest
closes_is [] e = absurd cc
closes_is (b ∷ bs) e =
    let both = and_both (b == letter_l) (not (begins is_word_byte bs)) e in
    record { after = bs; whole = ap (λ x. x ∷ bs) (eqb-true b letter_l both.0); ends = not_true (begins is_word_byte bs) both.1 }

no_word : (rest : List ℕ) → begins is_letter rest ≡ false → begins is_digit rest ≡ false → begins is_word_byte rest ≡ false
no_word [] e d = refl
no_word (b ∷ bs) e d = rw (e, d) refl

or_none : (a b c : Bool) → a || b || c ≡ false → (a ≡ false) × (b ≡ false) × (c ≡ false)
or_none true b c e = absurd cc
or_none false true c e = absurd cc
or_none false false c e = (refl, refl, e)

not_over : (n v : ℕ) → nat_lt n v ≡ false → v ≤ n
not_over n v e = grind (arith, nat_tests)

not_over_by : (n v : ℕ) → v ≤ n → nat_lt n v ≡ false
not_over_by n v e = grind (arith, nat_tests)

number_of_meets : (ds rest : List ℕ) (at : ℕ) → AreDigits ds → begins is_digit rest ≡ false → Meets (ds ++ rest) at (number_of ds rest at)
number_of_meets ds rest at each ends = by (is_bad_number ds rest) refl (closes_long rest) refl
  where
    long_by : (k : Bool) → k ≡ true → cond k (nat_lt largest_long (value ds)) (begins is_letter rest || begins_fraction rest || nat_lt largest_int (value ds)) ≡ false → value ds ≤ largest_long
    long_by true e h = not_over largest_long (value ds) h
    long_by false e h = absurd cc

    int_by : (k : Bool) → k ≡ false → cond k (nat_lt largest_long (value ds)) (begins is_letter rest || begins_fraction rest || nat_lt largest_int (value ds)) ≡ false
        → (begins is_letter rest ≡ false) × (begins_fraction rest ≡ false) × (nat_lt largest_int (value ds) ≡ false)
    int_by true e h = absurd cc
    int_by false e h = or_none (begins is_letter rest) (begins_fraction rest) (nat_lt largest_int (value ds)) h

    by : (bad : Bool) → is_bad_number ds rest ≡ bad → (k : Bool) → closes_long rest ≡ k → Meets (ds ++ rest) at (cond bad (Err (error.BadNumber at)) (Ok (cond k (p.long ds) (p.int ds))))
    by true e k ek = (record { digits = ds; rest = rest; whole = refl; each = each; ends = ends; bad = e }, refl)
    by false e true ek =
        let closes = closes_is rest ek in
        record {
          rest = closes.after;
          whole = ap (λ x. ds ++ x) closes.whole ∙ sym (append_assoc ds (letter_l ∷ []) closes.after);
          valid = (each, long_by (closes_long rest) ek e);
          before = closes.ends;
        }
    by false e false ek =
        let good = int_by (closes_long rest) ek e in
        record {
          rest = rest;
          whole = refl;
          valid = (each, not_over largest_int (value ds) good.2);
          before = (no_word rest good.0 ends, good.1);
        }

number_meets : (b : ℕ) (bs : List ℕ) (at : ℕ) → is_digit b ≡ true → Meets (b ∷ bs) at (number (b ∷ bs) at)
unfolding number
number_meets b bs at e =
    let n = prefix_len is_digit (b ∷ bs) in
    subst (λ x. Meets x at (number_of (take n (b ∷ bs)) (drop n (b ∷ bs)) at)) (sym (cut n (b ∷ bs)))
    (number_of_meets (take n (b ∷ bs)) (drop n (b ∷ bs)) at (digits_some b bs e, run_passes is_digit (b ∷ bs)) (run_stops is_digit (b ∷ bs)))

letter_class : (b : ℕ) → is_letter b ≡ true → is_blank b ≡ false
letter_class b e = grind (arith, nat_tests)

digit_class : (b : ℕ) → is_digit b ≡ true → (is_blank b ≡ false) × (is_letter b ≡ false)
digit_class b e = (grind (arith, nat_tests), grind (arith, nat_tests))

front_number : (ds rest : List ℕ) (at : ℕ) → AreDigits ds → begins is_digit rest ≡ false → front (ds ++ rest) at ≡ number_of ds rest at
front_number [] rest at each ends = let never = each.0 in absurd (omega arith)
front_number (b ∷ ds) rest at each ends =
    let digit : is_digit b ≡ true = All-head (λ x. is_digit x ≡ true) b ds each.1 in
    let class = digit_class b digit in
    let blank = class.0 in
    let letter = class.1 in
    rw (blank, letter, digit) (number_at (b ∷ ds) rest at each.1 ends)

no_digit : (rest : List ℕ) → begins is_word_byte rest ≡ false → (begins is_digit rest ≡ false) × (begins is_letter rest ≡ false) × (closes_long rest ≡ false)
no_digit [] e = (refl, refl, refl)
no_digit (b ∷ bs) e = let both = or_both (is_letter b) (is_digit b) e in (both.1, both.0, no_long b bs both.0)
  where
    or_both : (a c : Bool) → a || c ≡ false → (a ≡ false) × (c ≡ false)
    or_both true c h = absurd cc
    or_both false c h = (refl, h)

    no_long : (b : ℕ) (bs : List ℕ) → is_letter b ≡ false → closes_long (b ∷ bs) ≡ false
    no_long b bs h = rw (let q : (b == letter_l) ≡ false = grind (arith, nat_tests) in q) refl

int_front : (ds rest : List ℕ) (at : ℕ) → IsPiece (p.int ds) → StandsBefore (p.int ds) rest → front (ds ++ rest) at ≡ Ok (p.int ds)
int_front ds rest at valid before =
    let follows = no_digit rest before.0 in
    let digit = follows.0 in
    let letter = follows.1 in
    let long = follows.2 in
    let fraction = before.1 in
    let small : nat_lt largest_int (value ds) ≡ false = not_over_by largest_int (value ds) valid.1 in
    front_number ds rest at valid.0 digit ∙ rw (long, letter, fraction, small) refl

long_front : (ds rest : List ℕ) (at : ℕ) → IsPiece (p.long ds) → StandsBefore (p.long ds) rest → front ((ds ++ letter_l ∷ []) ++ rest) at ≡ Ok (p.long ds)
long_front ds rest at valid before =
    let small : nat_lt largest_long (value ds) ≡ false = not_over_by largest_long (value ds) valid.1 in
    ap (λ x. front x at) (append_assoc ds (letter_l ∷ []) rest) ∙ front_number ds (letter_l ∷ rest) at valid.0 refl ∙ rw (before, small) refl

bad_number_front : (bs : List ℕ) (at : ℕ) → IsBadNumber bs → front bs at ≡ Err (error.BadNumber at)
bad_number_front bs at h = ap (λ x. front x at) h.whole ∙ front_number h.digits h.rest at h.each h.ends ∙ (let bad = h.bad in rw bad refl)

word_is : (bs rest : List ℕ) → AllPass is_word_byte bs → begins is_word_byte rest ≡ false → f.word (bs ++ rest) ≡ Ok (p.word bs)
word_is bs rest each ends =
    ap (λ n. Ok (p.word (take n (bs ++ rest)))) (run_of is_word_byte bs rest each ends) ∙ ap (λ x. Ok (p.word x)) (take-append_seam bs rest)

front_word : (b : ℕ) (bs : List ℕ) (at : ℕ) → is_letter b ≡ true → front (b ∷ bs) at ≡ f.word (b ∷ bs)
front_word b bs at letter = by (is_blank b) (letter_class b letter) (is_letter b) letter
  where
    by : (k : Bool) → k ≡ false → (l : Bool) → l ≡ true
        → cond k (Ok (p.blank b)) (cond l (f.word (b ∷ bs)) (cond (is_digit b) (number (b ∷ bs) at) (cond (b == quote) (string bs at) (cond (b == slash) (after_slash bs at) (f.sign (b ∷ bs) at))))) ≡ f.word (b ∷ bs)
    by true e l h = absurd cc
    by false e true h = refl
    by false e false h = absurd cc

word_front : (bs rest : List ℕ) (at : ℕ) → IsPiece (p.word bs) → StandsBefore (p.word bs) rest → front (bs ++ rest) at ≡ Ok (p.word bs)
word_front [] rest at valid before = let never = valid.0 in absurd cc
word_front (b ∷ bs) rest at valid before = front_word b (bs ++ rest) at valid.0 ∙ word_is (b ∷ bs) rest valid.1 before

-- comments
line_at : (line rest : List ℕ) (at : ℕ) → AllPass is_in_line line → begins is_in_line rest ≡ false → line_comment (line ++ rest) at ≡ unless_stopped (utf8_stop line) (p.line_comment line) (at + 2)
unfolding line_comment
line_at line rest at each ends =
    let long : prefix_len is_in_line (line ++ rest) ≡ length line = run_of is_in_line line rest each ends in
    ap (λ x. unless_stopped (utf8_stop x) (p.line_comment x) (at + 2)) (ap (λ n. take n (line ++ rest)) long ∙ take-append_seam line rest)

line_of_meets : (line rest : List ℕ) (at : ℕ) → AllPass is_in_line line → begins is_in_line rest ≡ false → Meets (slash ∷ slash ∷ (line ++ rest)) at (unless_stopped (utf8_stop line) (p.line_comment line) (at + 2))
line_of_meets line rest at each ends = by (utf8_stop line) (stop_found line)
  where
    by : (o : Option ℕ) → MatchOption o (IsUtf8 line) (StopsAt line) → Meets (slash ∷ slash ∷ (line ++ rest)) at (unless_stopped o (p.line_comment line) (at + 2))
    by None h = record { rest = rest; whole = refl; valid = (each, h); before = ends }
    by (Some k) h = of_line k (record { line = line; rest = rest; whole = refl; each = each; ends = ends; stops = h }) refl

line_meets : (bs : List ℕ) (at : ℕ) → Meets (slash ∷ slash ∷ bs) at (line_comment bs at)
unfolding line_comment
line_meets bs at =
    let n = prefix_len is_in_line bs in
    subst (λ x. Meets (slash ∷ slash ∷ x) at (unless_stopped (utf8_stop (take n bs)) (p.line_comment (take n bs)) (at + 2))) (sym (cut n bs))
    (line_of_meets (take n bs) (drop n bs) at (run_passes is_in_line bs) (run_stops is_in_line bs))

line_front : (line rest : List ℕ) (at : ℕ) → IsPiece (p.line_comment line) → StandsBefore (p.line_comment line) rest → front (slash ∷ slash ∷ (line ++ rest)) at ≡ Ok (p.line_comment line)
line_front line rest at valid before = line_at line rest at valid.0 before ∙ ap (λ o. unless_stopped o (p.line_comment line) (at + 2)) (stop_none line valid.1)

bad_line_front : (bs : List ℕ) (at k : ℕ) → IsBadLine bs k → front bs at ≡ Err (error.BadByte (at + 2 + k))
bad_line_front bs at k h =
    ap (λ x. front x at) h.whole ∙ line_at h.line h.rest at h.each h.ends ∙ ap (λ o. unless_stopped o (p.line_comment h.line) (at + 2)) (stop_some h.line k h.stops)

block_at : (block rest : List ℕ) (at : ℕ) → HasNoEnd block → block_comment (block ++ star ∷ slash ∷ rest) at ≡ unless_stopped (utf8_stop block) (p.block_comment block) (at + 2)
unfolding block_comment
block_at block rest at no_end =
    let whole = block ++ star ∷ slash ∷ rest in
    ap (λ o. block_comment_to o whole at) (end_of_comment block rest no_end)
    ∙ ap (λ x. unless_stopped (utf8_stop x) (p.block_comment x) (at + 2)) (take-append_seam block (star ∷ slash ∷ rest))

block_whole : (block rest : List ℕ) → slash ∷ star ∷ (block ++ star ∷ slash ∷ rest) ≡ written (p.block_comment block) ++ rest
block_whole block rest = ap (λ x. slash ∷ star ∷ x) (sym (append_assoc block (star ∷ slash ∷ []) rest))

block_of_meets : (block rest : List ℕ) (at : ℕ) → HasNoEnd block → Meets (slash ∷ star ∷ (block ++ star ∷ slash ∷ rest)) at (unless_stopped (utf8_stop block) (p.block_comment block) (at + 2))
block_of_meets block rest at no_end = by (utf8_stop block) (stop_found block)
  where
    by : (o : Option ℕ) → MatchOption o (IsUtf8 block) (StopsAt block) → Meets (slash ∷ star ∷ (block ++ star ∷ slash ∷ rest)) at (unless_stopped o (p.block_comment block) (at + 2))
    by None h = record { rest = rest; whole = block_whole block rest; valid = (no_end, h); before = tt }
    by (Some k) h = of_block k (record { block = block; rest = rest; whole = refl; no_end = no_end; stops = h }) refl

block_meets : (bs : List ℕ) (at : ℕ) → Meets (slash ∷ star ∷ bs) at (block_comment bs at)
unfolding block_comment
block_meets bs at = by (comment_end bs) refl
  where
    by : (o : Option ℕ) → comment_end bs ≡ o → Meets (slash ∷ star ∷ bs) at (block_comment_to o bs at)
    by None e = ((bs, refl, comment_open bs e), refl)
    by (Some n) e =
        let ended = comment_ended bs n e in
        subst (λ x. Meets (slash ∷ star ∷ x) at (unless_stopped (utf8_stop (take n bs)) (p.block_comment (take n bs)) (at + 2))) (sym ended.whole)
        (block_of_meets (take n bs) (drop (n + 2) bs) at ended.no_end)

block_front : (block rest : List ℕ) (at : ℕ) → IsPiece (p.block_comment block) → front (written (p.block_comment block) ++ rest) at ≡ Ok (p.block_comment block)
block_front block rest at valid =
    ap (λ x. front x at) (sym (block_whole block rest)) ∙ block_at block rest at valid.0 ∙ ap (λ o. unless_stopped o (p.block_comment block) (at + 2)) (stop_none block valid.1)

bad_block_front : (bs : List ℕ) (at k : ℕ) → IsBadBlock bs k → front bs at ≡ Err (error.BadByte (at + 2 + k))
bad_block_front bs at k h =
    ap (λ x. front x at) h.whole ∙ block_at h.block h.rest at h.no_end ∙ ap (λ o. unless_stopped o (p.block_comment h.block) (at + 2)) (stop_some h.block k h.stops)

open_comment_front : (after : List ℕ) (at : ℕ) → HasNoEnd after → front (slash ∷ star ∷ after) at ≡ Err (error.OpenComment at)
unfolding block_comment
open_comment_front after at h = ap (λ o. block_comment_to o after at) (open_comment after h)

-- strings
string_at : (ps : List Part) (rest : List ℕ) (at : ℕ) → All IsPart ps → string (inside ps ++ quote ∷ rest) at ≡ unless_stopped (least (bad_escape (inside ps)) (utf8_stop (inside ps))) (p.string ps) (at + 1)
unfolding string
string_at ps rest at each =
    ap (λ o. string_to o (inside ps ++ quote ∷ rest) at) (end_found ps rest each)
    ∙ ap (λ x. unless_stopped (least (bad_escape x) (utf8_stop x)) (p.string (parts x)) (at + 1)) (take-append_seam (inside ps) (quote ∷ rest))
    ∙ ap (λ x. unless_stopped (least (bad_escape (inside ps)) (utf8_stop (inside ps))) (p.string x) (at + 1)) (parts_inside ps each)

string_whole : (ps : List Part) (rest : List ℕ) → quote ∷ (inside ps ++ quote ∷ rest) ≡ written (p.string ps) ++ rest
string_whole ps rest = ap (λ x. quote ∷ x) (sym (append_assoc (inside ps) (quote ∷ []) rest))

string_of_meets : (ps : List Part) (rest : List ℕ) (at : ℕ) → All IsPart ps → Meets (quote ∷ (inside ps ++ quote ∷ rest)) at (unless_stopped (least (bad_escape (inside ps)) (utf8_stop (inside ps))) (p.string ps) (at + 1))
string_of_meets ps rest at each = by (least (bad_escape (inside ps)) (utf8_stop (inside ps))) (fault_found ps each)
  where
    by : (o : Option ℕ) → MatchOption o (All IsKnown ps × IsUtf8 (inside ps)) (IsFirstFault ps) → Meets (quote ∷ (inside ps ++ quote ∷ rest)) at (unless_stopped o (p.string ps) (at + 1))
    by None h = record { rest = rest; whole = string_whole ps rest; valid = (each, h.0, h.1); before = tt }
    by (Some k) h = of_string k (record { parts = ps; rest = rest; whole = refl; each = each; first = h }) refl

string_meets : (bs : List ℕ) (at : ℕ) → Meets (quote ∷ bs) at (string bs at)
unfolding string
string_meets bs at = by (string_end bs) refl
  where
    by : (o : Option ℕ) → string_end bs ≡ o → Meets (quote ∷ bs) at (string_to o bs at)
    by None e = ((bs, refl, end_none bs e), refl)
    by (Some n) e =
        let closed = end_closes bs n e in
        let ps = parts (take n bs) in
        let whole : inside ps ++ quote ∷ drop (suc n) bs ≡ bs = ap (λ x. x ++ quote ∷ drop (suc n) bs) closed.bytes ∙ sym closed.next in
        let meets = string_of_meets ps (drop (suc n) bs) at closed.each in
        let there = subst (λ x. Meets (quote ∷ x) at (unless_stopped (least (bad_escape (inside ps)) (utf8_stop (inside ps))) (p.string ps) (at + 1))) whole meets in
        subst (λ x. Meets (quote ∷ bs) at (unless_stopped (least (bad_escape x) (utf8_stop x)) (p.string ps) (at + 1))) closed.bytes there

string_front : (ps : List Part) (rest : List ℕ) (at : ℕ) → IsPiece (p.string ps) → front (written (p.string ps) ++ rest) at ≡ Ok (p.string ps)
string_front ps rest at valid =
    ap (λ x. front x at) (sym (string_whole ps rest)) ∙ string_at ps rest at valid.0 ∙ ap (λ o. unless_stopped o (p.string ps) (at + 1)) (fault_none ps valid.0 valid.1 valid.2)

bad_string_front : (bs : List ℕ) (at k : ℕ) → IsBadString bs k → front bs at ≡ Err (error.BadByte (at + 1 + k))
bad_string_front bs at k h =
    ap (λ x. front x at) h.whole ∙ string_at h.parts h.rest at h.each ∙ ap (λ o. unless_stopped o (p.string h.parts) (at + 1)) (fault_first h.parts k h.each h.first)

open_string_front : (after : List ℕ) (at : ℕ) → ClosesNothing after → front (quote ∷ after) at ≡ Err (error.OpenString at)
unfolding string
open_string_front after at h = ap (λ o. string_to o after at) (end_closes_nothing after h)

-- signs
sign_meets : (b : ℕ) (bs : List ℕ) (at : ℕ) → begins_piece b ≡ false → begins_comment (b ∷ bs) ≡ false → Meets (b ∷ bs) at (sign_or (sign_at (b ∷ bs)) at)
sign_meets b bs at nothing no_comment = by (sign_at (b ∷ bs)) refl
  where
    by : (o : Option Sign) → sign_at (b ∷ bs) ≡ o → Meets (b ∷ bs) at (sign_or o at)
    by None e = of_nothing (record { some = omega arith; no_piece = nothing; no_sign = sign_none (b ∷ bs) e }) refl
    by (Some s) e =
        let found = sign_found (b ∷ bs) s e in
        record { rest = drop (length (sign_bytes s)) (b ∷ bs); whole = found.0; valid = tt; before = (found.1, ap begins_comment (sym found.0) ∙ no_comment) }

slash_sign : (rest : List ℕ) (at : ℕ) → begins_comment (slash ∷ rest) ≡ false → after_slash rest at ≡ f.sign (slash ∷ rest) at
slash_sign [] at e = refl
slash_sign (b ∷ rest) at e = by (b == slash) refl (b == star) refl
  where
    by : (k : Bool) → (b == slash) ≡ k → (l : Bool) → (b == star) ≡ l → cond k (line_comment rest at) (cond l (block_comment rest at) (f.sign (slash ∷ b ∷ rest) at)) ≡ f.sign (slash ∷ b ∷ rest) at
    by true ek l el = let never : begins_comment (slash ∷ b ∷ rest) ≡ true = rw ek refl in absurd cc
    by false ek true el = let never : begins_comment (slash ∷ b ∷ rest) ≡ true = rw (ek, el) refl in absurd cc
    by false ek false el = refl

front_sign : (s : Sign) (rest : List ℕ) (at : ℕ) → begins_comment (sign_bytes s ++ rest) ≡ false → front (sign_bytes s ++ rest) at ≡ f.sign (sign_bytes s ++ rest) at
front_sign sign.Arrow rest at e = refl
front_sign sign.Equal rest at e = refl
front_sign sign.NotEqual rest at e = refl
front_sign sign.AtMost rest at e = refl
front_sign sign.AtLeast rest at e = refl
front_sign sign.DeepAssign rest at e = refl
front_sign sign.Increment rest at e = refl
front_sign sign.Decrement rest at e = refl
front_sign sign.And rest at e = refl
front_sign sign.Or rest at e = refl
front_sign sign.OpenBrace rest at e = refl
front_sign sign.CloseBrace rest at e = refl
front_sign sign.OpenParen rest at e = refl
front_sign sign.CloseParen rest at e = refl
front_sign sign.OpenBracket rest at e = refl
front_sign sign.CloseBracket rest at e = refl
front_sign sign.Comma rest at e = refl
front_sign sign.Semicolon rest at e = refl
front_sign sign.Colon rest at e = refl
front_sign sign.Dot rest at e = refl
front_sign sign.Bar rest at e = refl
front_sign sign.Assign rest at e = refl
front_sign sign.Less rest at e = refl
front_sign sign.Greater rest at e = refl
front_sign sign.Plus rest at e = refl
front_sign sign.Minus rest at e = refl
front_sign sign.Star rest at e = refl
front_sign sign.Slash rest at e = slash_sign rest at e
front_sign sign.Percent rest at e = refl
front_sign sign.Not rest at e = refl
front_sign sign.Hash rest at e = refl
front_sign sign.At rest at e = refl
front_sign sign.Question rest at e = refl

sign_front : (s : Sign) (rest : List ℕ) (at : ℕ) → StandsBefore (p.sign s) rest → front (sign_bytes s ++ rest) at ≡ Ok (p.sign s)
sign_front s rest at before = front_sign s rest at before.1 ∙ ap (λ o. sign_or o at) (sign_finds s rest before.0)

or_four : (a b c d : Bool) → a || b || c || d ≡ false → (a ≡ false) × (b ≡ false) × (c ≡ false) × (d ≡ false)
or_four true b c d e = absurd cc
or_four false true c d e = absurd cc
or_four false false true d e = absurd cc
or_four false false false d e = (refl, refl, refl, e)

nothing_front : (bs : List ℕ) (at : ℕ) → BeginsNothing bs → front bs at ≡ Err (error.BadByte at)
nothing_front [] at h = let never = h.some in absurd (omega arith)
nothing_front (b ∷ bs) at h =
    let four = or_four (is_blank b) (is_letter b) (is_digit b) (b == quote) h.no_piece in
    let blank = four.0 in
    let letter = four.1 in
    let digit = four.2 in
    let quoted = four.3 in
    let slashed : (b == slash) ≡ false = ne_eqb b slash (λ e. h.no_sign sign.Slash bs (ap (λ x. x ∷ bs) e)) in
    rw (blank, letter, digit, quoted, slashed) (ap (λ o. sign_or o at) (by (sign_at (b ∷ bs)) refl))
  where
    by : (o : Option Sign) → sign_at (b ∷ bs) ≡ o → o ≡ None
    by None e = refl
    by (Some s) e = let found = sign_found (b ∷ bs) s e in absurd (h.no_sign s (drop (length (sign_bytes s)) (b ∷ bs)) found.0)

blank_front : (b : ℕ) (rest : List ℕ) (at : ℕ) → is_blank b ≡ true → front (b ∷ rest) at ≡ Ok (p.blank b)
blank_front b rest at e = rw e refl

-- a piece that stands at the front is found
pub front_fits : (bs : List ℕ) (at : ℕ) (piece : Piece) → Fits bs piece → front bs at ≡ Ok piece
front_fits bs at piece h = ap (λ x. front x at) h.whole ∙ by piece h.valid h.before
  where
    by : (q : Piece) → IsPiece q → StandsBefore q h.rest → front (written q ++ h.rest) at ≡ Ok q
    by (p.blank b) v w = blank_front b h.rest at v
    by (p.line_comment line) v w = line_front line h.rest at v w
    by (p.block_comment block) v w = block_front block h.rest at v
    by (p.word bytes) v w = word_front bytes h.rest at v w
    by (p.int ds) v w = int_front ds h.rest at v w
    by (p.long ds) v w = long_front ds h.rest at v w
    by (p.string ps) v w = string_front ps h.rest at v
    by (p.sign s) v w = sign_front s h.rest at w

bad_byte_front : (bs : List ℕ) (at place : ℕ) → IsBadByte bs at place → front bs at ≡ Err (error.BadByte place)
bad_byte_front bs at place (of_nothing h e) = nothing_front bs at h ∙ ap (λ n. Err (error.BadByte n)) (sym e)
bad_byte_front bs at place (of_string k h e) = bad_string_front bs at k h ∙ ap (λ n. Err (error.BadByte n)) (sym e)
bad_byte_front bs at place (of_line k h e) = bad_line_front bs at k h ∙ ap (λ n. Err (error.BadByte n)) (sym e)
bad_byte_front bs at place (of_block k h e) = bad_block_front bs at k h ∙ ap (λ n. Err (error.BadByte n)) (sym e)

-- a refusal that the bytes have is found
pub front_stuck : (bs : List ℕ) (at : ℕ) (e : LexError) → IsStuck bs at e → front bs at ≡ Err e
front_stuck bs at error.TooLong h = absurd h
front_stuck bs at (error.BadByte place) h = bad_byte_front bs at place h
front_stuck bs at (error.OpenString place) h = ap (λ x. front x at) h.0.1 ∙ open_string_front h.0.0 at h.0.2 ∙ ap (λ n. Err (error.OpenString n)) (sym h.1)
front_stuck bs at (error.OpenComment place) h = ap (λ x. front x at) h.0.1 ∙ open_comment_front h.0.0 at h.0.2 ∙ ap (λ n. Err (error.OpenComment n)) (sym h.1)
front_stuck bs at (error.BadNumber place) h = bad_number_front bs at h.0 ∙ ap (λ n. Err (error.BadNumber n)) (sym h.1)
front_stuck bs at (error.Memory cause) h = absurd h

slash_meets : (bs : List ℕ) (at : ℕ) → Meets (slash ∷ bs) at (after_slash bs at)
slash_meets [] at = sign_meets slash [] at refl refl
slash_meets (c ∷ bs) at = by (c == slash) refl (c == star) refl
  where
    by : (k : Bool) → (c == slash) ≡ k → (l : Bool) → (c == star) ≡ l → Meets (slash ∷ c ∷ bs) at (cond k (line_comment bs at) (cond l (block_comment bs at) (f.sign (slash ∷ c ∷ bs) at)))
    by true ek l el = subst (λ x. Meets (slash ∷ x ∷ bs) at (line_comment bs at)) (sym (eqb-true c slash ek)) (line_meets bs at)
    by false ek true el = subst (λ x. Meets (slash ∷ x ∷ bs) at (block_comment bs at)) (sym (eqb-true c star el)) (block_meets bs at)
    by false ek false el = sign_meets slash (c ∷ bs) at refl (rw (ek, el) refl)

no_comment : (b : ℕ) (bs : List ℕ) → (b == slash) ≡ false → begins_comment (b ∷ bs) ≡ false
no_comment b bs e = rw e refl

-- what is found at the front stands there
pub front_meets : (b : ℕ) (bs : List ℕ) (at : ℕ) → Meets (b ∷ bs) at (front (b ∷ bs) at)
front_meets b bs at = by (is_blank b) refl (is_letter b) refl (is_digit b) refl (b == quote) refl (b == slash) refl
  where
    by : (k : Bool) → is_blank b ≡ k → (l : Bool) → is_letter b ≡ l → (d : Bool) → is_digit b ≡ d → (q : Bool) → (b == quote) ≡ q → (s : Bool) → (b == slash) ≡ s
        → Meets (b ∷ bs) at (cond k (Ok (p.blank b)) (cond l (f.word (b ∷ bs)) (cond d (number (b ∷ bs) at) (cond q (string bs at) (cond s (after_slash bs at) (f.sign (b ∷ bs) at))))))
    by true ek l el d ed q eq s es = record { rest = bs; whole = refl; valid = ek; before = tt }
    by false ek true el d ed q eq s es = word_meets b bs at el
    by false ek false el true ed q eq s es = number_meets b bs at ed
    by false ek false el false ed true eq s es = subst (λ x. Meets (x ∷ bs) at (string bs at)) (sym (eqb-true b quote eq)) (string_meets bs at)
    by false ek false el false ed false eq true es = subst (λ x. Meets (x ∷ bs) at (after_slash bs at)) (sym (eqb-true b slash es)) (slash_meets bs at)
    by false ek false el false ed false eq false es = sign_meets b bs at (rw (ek, el, ed, eq) refl) (no_comment b bs es)
