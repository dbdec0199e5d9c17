-- The tokens of two texts with a line feed between them: those of the first, then those of the second.
use Rattle.std.proofs.Common.{◌≡◌, ℕ, ◌+◌, Bool, true, false, ◌&&◌, List, [], ◌∷◌, ◌++◌, length, map, refl, sym, ap, subst, ◌∙◌, arith, append_assoc, append-nil, length-append, Option, None, Some}
use Rattle.std.proofs.lemmas.List.{map-append}
use Rattle.std.proofs.lemmas.Grind.{flat_map-append}
use Rattle.jolie_tokens.specs.declared.sign.Sign.{Sign}
use Rattle.jolie_tokens.specs.declared.sign.Sign.TheVariants as sign
use Rattle.jolie_tokens.specs.declared.token.Token.{Token}
use Rattle.jolie_tokens.specs.declared.token.TokenKind.{TokenKind}
use Rattle.jolie_tokens.specs.Bytes.{is_in_line, is_word_byte, begins}
use Rattle.jolie_tokens.specs.Numbers.{begins_fraction}
use Rattle.jolie_tokens.specs.Signs.{sign_bytes, IsLongest}
use Rattle.jolie_tokens.specs.Pieces as p
use Rattle.jolie_tokens.specs.Pieces.{Piece, written, StandsBefore, begins_comment, kind_of}
use Rattle.jolie_tokens.specs.Texts.{all_written, Stand, token_of, tokens_of, IsRead}
use Rattle.explain_hints.specs.Short.{moved}

-- ---- what may stand before bytes may stand before them with a line feed behind

in_line_longer : (w v : List ℕ) → begins is_in_line w ≡ false → begins is_in_line (w ++ 10 ∷ v) ≡ false
in_line_longer [] v h = refl
in_line_longer (b ∷ w) v h = h

word_longer : (w v : List ℕ) → begins is_word_byte w ≡ false → begins is_word_byte (w ++ 10 ∷ v) ≡ false
word_longer [] v h = refl
word_longer (b ∷ w) v h = h

fraction_longer : (w v : List ℕ) → begins_fraction w ≡ false → begins_fraction (w ++ 10 ∷ v) ≡ false
fraction_longer [] v h = refl
fraction_longer (b ∷ []) v h = h
fraction_longer (b ∷ c ∷ w) v h = h

comment_longer : (w v : List ℕ) → begins_comment w ≡ false → begins_comment (w ++ 10 ∷ v) ≡ false
comment_longer [] v h = refl
comment_longer (b ∷ []) v h = h
comment_longer (b ∷ c ∷ w) v h = h

-- no line feed is among the bytes
abbrev no_feed : List ℕ → Bool
no_feed [] = true
no_feed (b ∷ bs) = is_in_line b && no_feed bs

sign_no_feed : (s : Sign) → no_feed (sign_bytes s) ≡ true
sign_no_feed sign.Arrow = refl
sign_no_feed sign.Equal = refl
sign_no_feed sign.NotEqual = refl
sign_no_feed sign.AtMost = refl
sign_no_feed sign.AtLeast = refl
sign_no_feed sign.DeepAssign = refl
sign_no_feed sign.Increment = refl
sign_no_feed sign.Decrement = refl
sign_no_feed sign.And = refl
sign_no_feed sign.Or = refl
sign_no_feed sign.OpenBrace = refl
sign_no_feed sign.CloseBrace = refl
sign_no_feed sign.OpenParen = refl
sign_no_feed sign.CloseParen = refl
sign_no_feed sign.OpenBracket = refl
sign_no_feed sign.CloseBracket = refl
sign_no_feed sign.Comma = refl
sign_no_feed sign.Semicolon = refl
sign_no_feed sign.Colon = refl
sign_no_feed sign.Dot = refl
sign_no_feed sign.Bar = refl
sign_no_feed sign.Assign = refl
sign_no_feed sign.Less = refl
sign_no_feed sign.Greater = refl
sign_no_feed sign.Plus = refl
sign_no_feed sign.Minus = refl
sign_no_feed sign.Star = refl
sign_no_feed sign.Slash = refl
sign_no_feed sign.Percent = refl
sign_no_feed sign.Not = refl
sign_no_feed sign.Hash = refl
sign_no_feed sign.At = refl
sign_no_feed sign.Question = refl

both_true : (a b : Bool) → a && b ≡ true → (a ≡ true) × (b ≡ true)
both_true true b h = (refl, h)
both_true false b h = absurd cc

-- bytes without a line feed at the front stand before it
stands_before : (x l v o : List ℕ) → x ++ 10 ∷ v ≡ l ++ o → no_feed l ≡ true → (q : List ℕ) × (x ≡ l ++ q)
stands_before x [] v o e h = (x, refl)
stands_before [] (c ∷ l) v o e h =
    let feed : 10 ≡ c = cc in
    let never : is_in_line 10 ≡ true = subst (λ z. is_in_line z ≡ true) (sym feed) (both_true (is_in_line c) (no_feed l) h).0 in
    absurd cc
stands_before (b ∷ x) (c ∷ l) v o e h =
    let first : b ≡ c = cc in
    let rest : x ++ 10 ∷ v ≡ l ++ o = cc in
    let found = stands_before x l v o rest (both_true (is_in_line c) (no_feed l) h).1 in
    (found.0, ap (λ z. z ∷ x) first ∙ ap (λ z. c ∷ z) found.1)

longest_longer : (s : Sign) (w v : List ℕ) → IsLongest s w → IsLongest s (w ++ 10 ∷ v)
longest_longer s w v h longer others e =
    let found = stands_before (sign_bytes s ++ w) (sign_bytes longer) v others (append_assoc (sign_bytes s) w (10 ∷ v) ∙ e) (sign_no_feed longer) in
    h longer found.0 found.1

stands_longer : (piece : Piece) (w v : List ℕ) → StandsBefore piece w → StandsBefore piece (w ++ 10 ∷ v)
stands_longer (p.blank b) w v h = tt
stands_longer (p.line_comment bs) w v h = in_line_longer w v h
stands_longer (p.block_comment bs) w v h = tt
stands_longer (p.word bs) w v h = word_longer w v h
stands_longer (p.int ds) w v h = (word_longer w v h.0, fraction_longer w v h.1)
stands_longer (p.long ds) w v h = word_longer w v h
stands_longer (p.string parts) w v h = tt
stands_longer (p.sign s) w v h =
    (longest_longer s w v h.0, ap begins_comment (sym (append_assoc (sign_bytes s) w (10 ∷ v))) ∙ comment_longer (sign_bytes s ++ w) v h.1)

-- ---- pieces in a row

written_joined : (ps rs : List Piece) (v : List ℕ) → all_written rs ++ [] ≡ 10 ∷ v → all_written (ps ++ rs) ++ [] ≡ (all_written ps ++ []) ++ 10 ∷ v
written_joined ps rs v e =
    ap (λ z. z ++ []) (flat_map-append written ps rs) ∙ append_assoc (all_written ps) (all_written rs) []
    ∙ ap (λ z. all_written ps ++ z) e ∙ ap (λ z. z ++ 10 ∷ v) (sym (append-nil (all_written ps)))

stand_joined : (ps rs : List Piece) (v : List ℕ) → all_written rs ++ [] ≡ 10 ∷ v → Stand ps [] → Stand rs [] → Stand (ps ++ rs) []
stand_joined [] rs v e s t = t
stand_joined (q ∷ ps) rs v e s t =
    (s.0, subst (StandsBefore q) (sym (written_joined ps rs v e)) (stands_longer q (all_written ps ++ []) v s.1), stand_joined ps rs v e s.2 t)

tokens_joined : (ps rs : List Piece) (at : ℕ) → tokens_of (ps ++ rs) at ≡ tokens_of ps at ++ tokens_of rs (at + length (all_written ps))
tokens_joined [] rs at = let same : at ≡ at + 0 = omega arith in ap (tokens_of rs) same
tokens_joined (q ∷ ps) rs at =
    let far : at + length (written q) + length (all_written ps) ≡ at + length (written q ++ all_written ps) = omega (arith, length-append (written q) (all_written ps)) in
    let first = token_of (kind_of q) at (length (written q)) in
    let more = tokens_of ps (at + length (written q)) in
    ap (λ z. first ++ z) (tokens_joined ps rs (at + length (written q)) ∙ ap (λ n. more ++ tokens_of rs n) far)
    ∙ sym (append_assoc first more (tokens_of rs (at + length (written q ++ all_written ps))))

token_moved : (kind : Option TokenKind) (at len by : ℕ) → token_of kind (at + by) len ≡ map (moved by) (token_of kind at len)
token_moved None at len by = refl
token_moved (Some k) at len by = refl

tokens_moved : (ps : List Piece) (at by : ℕ) → tokens_of ps (at + by) ≡ map (moved by) (tokens_of ps at)
tokens_moved [] at by = refl
tokens_moved (q ∷ ps) at by =
    let far : at + by + length (written q) ≡ at + length (written q) + by = omega arith in
    let first = token_of (kind_of q) at (length (written q)) in
    ap (λ z. z ++ tokens_of ps (at + by + length (written q))) (token_moved (kind_of q) at (length (written q)) by)
    ∙ ap (λ z. map (moved by) first ++ z) (ap (tokens_of ps) far ∙ tokens_moved ps (at + length (written q)) by)
    ∙ sym (map-append (moved by) first (tokens_of ps (at + length (written q))))

-- ---- the reading of both

pub read_joined : (a b : List ℕ) (ts us : List Token) → IsRead a ts → IsRead b us → IsRead (a ++ 10 ∷ b) (ts ++ map (moved (length a + 1)) us)
read_joined a b ts us r s =
    let rest = all_written s.pieces ++ [] in
    let both = written_joined r.pieces (p.blank 10 ∷ s.pieces) rest refl in
    let far : 0 + length (all_written r.pieces) + 1 ≡ 0 + (length a + 1) = omega (arith, ap length r.reads.whole, length-append (all_written r.pieces) []) in
    record {
      pieces = r.pieces ++ p.blank 10 ∷ s.pieces;
      reads = record {
        whole = ap (λ z. z ++ 10 ∷ b) r.reads.whole ∙ ap (λ z. (all_written r.pieces ++ []) ++ 10 ∷ z) s.reads.whole ∙ sym both;
        each = stand_joined r.pieces (p.blank 10 ∷ s.pieces) rest refl r.reads.each (refl, tt, s.reads.each);
      };
      meant =
          tokens_joined r.pieces (p.blank 10 ∷ s.pieces) 0 ∙ ap (λ z. z ++ tokens_of s.pieces (0 + length (all_written r.pieces) + 1)) r.meant
          ∙ ap (λ z. ts ++ z) (ap (tokens_of s.pieces) far ∙ tokens_moved s.pieces 0 (length a + 1) ∙ ap (map (moved (length a + 1))) s.meant);
    }
