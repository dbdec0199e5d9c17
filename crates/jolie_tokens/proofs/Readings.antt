-- Whole texts: each is read or refused, in one way, and never both.
use Rattle.std.proofs.Common.{◌≡◌, ℕ, zero, suc, ◌+◌, ◌<◌, ◌≤◌, ◌⊎◌, inl, inr, true, List, [], ◌∷◌, ◌++◌, length, drop, refl, sym, ap, subst, ◌∙◌, arith, append_assoc, append-nil, length-append, Result, Ok, Err}
use Rattle.std.proofs.lemmas.List.{append_cancel_left}
use Rattle.std.proofs.Math.Seq.{drop-append_seam}
use Rattle.jolie_tokens.specs.declared.lex_error.LexError.{LexError}
use Rattle.jolie_tokens.specs.declared.lex_error.LexError.TheVariants as error
use Rattle.jolie_tokens.specs.declared.token.Token.{Token}
use Rattle.jolie_tokens.specs.Bytes.{begins, is_letter}
use Rattle.jolie_tokens.specs.Pieces as p
use Rattle.jolie_tokens.specs.Pieces.{Piece, written, IsPiece, StandsBefore, kind_of}
use Rattle.jolie_tokens.specs.Refusals.{IsStuck, IsBadByte, of_nothing, of_string, of_line, of_block}
use Rattle.jolie_tokens.specs.Texts.{all_written, Stand, Reads, token_of, tokens_of, IsRead, IsRefused}
use Rattle.jolie_tokens.specs.Laws.{HaveOneReading}
use Rattle.jolie_tokens.specs.Fronts.{front}
use Rattle.jolie_tokens.proofs.SignTable.{sign_some}
use Rattle.jolie_tokens.proofs.Meets.{Fits, Meets, front_fits, front_stuck, front_meets}

word_some : (bs : List ℕ) → begins is_letter bs ≡ true → 0 < length bs
word_some [] e = absurd cc
word_some (b ∷ bs) e = omega arith

-- a valid piece has a byte
pub piece_some : (q : Piece) → IsPiece q → 0 < length (written q)
piece_some (p.blank b) h = omega arith
piece_some (p.line_comment bs) h = omega arith
piece_some (p.block_comment bs) h = omega arith
piece_some (p.word bs) h = word_some bs h.0
piece_some (p.int ds) h = h.0.0
piece_some (p.long ds) h = let some = h.0.0 in omega (arith, length-append ds (76 ∷ []))
piece_some (p.string ps) h = omega arith
piece_some (p.sign s) h = sign_some s

bad_byte_some : (bs : List ℕ) (at place : ℕ) → IsBadByte bs at place → 0 < length bs
bad_byte_some bs at place (of_nothing h e) = h.some
bad_byte_some bs at place (of_string k h e) = omega (arith, ap length h.whole)
bad_byte_some bs at place (of_line k h e) = omega (arith, ap length h.whole)
bad_byte_some bs at place (of_block k h e) = omega (arith, ap length h.whole)

-- bytes that are refused are some
stuck_some : (bs : List ℕ) (at : ℕ) (e : LexError) → IsStuck bs at e → 0 < length bs
stuck_some bs at error.TooLong h = absurd h
stuck_some bs at (error.BadByte place) h = bad_byte_some bs at place h
stuck_some bs at (error.OpenString place) h = omega (arith, ap length h.0.1)
stuck_some bs at (error.OpenComment place) h = omega (arith, ap length h.0.1)
stuck_some bs at (error.BadNumber place) h = let some = h.0.each.0 in omega (arith, ap length h.0.whole, length-append h.0.digits h.0.rest)
stuck_some bs at (error.Memory cause) h = absurd h

-- no piece stands at the end, or where bytes are refused
abbrev IsFinal : List ℕ → Type 0
IsFinal bs = (bs ≡ []) ⊎ ((at : ℕ) × (e : LexError) × (front bs at ≡ Err e))

final_has_none : (bs : List ℕ) (q : Piece) → IsFinal bs → Fits bs q → ⊥
final_has_none bs q (inl e) h = let some = piece_some q h.valid in omega (arith, ap length e, ap length h.whole, length-append (written q) h.rest)
final_has_none bs q (inr w) h = let found : front bs w.0 ≡ Ok q = front_fits bs w.0 q h in let bad : front bs w.0 ≡ Err w.1 = w.2 in cc

stuck_final : (bs : List ℕ) (at : ℕ) (e : LexError) → IsStuck bs at e → IsFinal bs
stuck_final bs at e h = inr (at, e, front_stuck bs at e h)

first_fits : (q : Piece) (pieces : List Piece) (rest text : List ℕ) → text ≡ all_written (q ∷ pieces) ++ rest → Stand (q ∷ pieces) rest → Fits text q
first_fits q pieces rest text whole stand =
    record { rest = all_written pieces ++ rest; whole = whole ∙ append_assoc (written q) (all_written pieces) rest; valid = stand.0; before = stand.1 }

same_reading : (a b : List Piece) (r s : List ℕ) → IsFinal r → IsFinal s → Stand a r → Stand b s → all_written a ++ r ≡ all_written b ++ s → (a ≡ b) × (r ≡ s)
same_reading [] [] r s fr fs sa sb e = (refl, e)
same_reading [] (q ∷ b) r s fr fs sa sb e = absurd (final_has_none r q fr (first_fits q b s r e sb))
same_reading (o ∷ a) [] r s fr fs sa sb e = absurd (final_has_none s o fs (first_fits o a r s (sym e) sa))
same_reading (o ∷ a) (q ∷ b) r s fr fs sa sb e =
    let text = all_written (q ∷ b) ++ s in
    let left : front text 0 ≡ Ok o = front_fits text 0 o (first_fits o a r text (sym e) sa) in
    let right : front text 0 ≡ Ok q = front_fits text 0 q (first_fits q b s text refl sb) in
    let same : o ≡ q = cc in
    let tails : written q ++ (all_written a ++ r) ≡ written q ++ (all_written b ++ s) =
    ap (λ x. written x ++ (all_written a ++ r)) (sym same) ∙ sym (append_assoc (written o) (all_written a) r) ∙ e ∙ append_assoc (written q) (all_written b) s in
    let rest = same_reading a b r s fr fs sa.2 sb.2 (append_cancel_left (written q) (all_written a ++ r) (all_written b ++ s) tails) in
    (ap (λ x. x ∷ a) same ∙ ap (λ x. q ∷ x) rest.0, rest.1)

pub one_reading : (text : List ℕ) (a b : List Piece) → Reads text a [] → Reads text b [] → a ≡ b
one_reading text a b h k = (same_reading a b [] [] (inl refl) (inl refl) h.each k.each (sym h.whole ∙ k.whole)).0

pub one_refusal : (text : List ℕ) (d e : LexError) → IsRefused text d → IsRefused text e → d ≡ e
one_refusal text d e h k =
    let at = length (all_written h.pieces) in
    let same = same_reading h.pieces k.pieces h.rest k.rest (stuck_final h.rest at d h.stuck) (stuck_final k.rest (length (all_written k.pieces)) e k.stuck) h.reads.each k.reads.each (sym h.reads.whole ∙ k.reads.whole) in
    let left : front h.rest at ≡ Err d = front_stuck h.rest at d h.stuck in
    let right : front k.rest (length (all_written k.pieces)) ≡ Err e = front_stuck k.rest (length (all_written k.pieces)) e k.stuck in
    let moved : front h.rest at ≡ front k.rest (length (all_written k.pieces)) = ap (λ x. front x at) same.1 ∙ ap (λ x. front k.rest (length (all_written x))) same.0 in
    cc

pub never_both : (text : List ℕ) (tokens : List Token) (e : LexError) → IsRead text tokens → IsRefused text e → ⊥
never_both text tokens e h k =
    let same = same_reading h.pieces k.pieces [] k.rest (inl refl) (stuck_final k.rest (length (all_written k.pieces)) e k.stuck) h.reads.each k.reads.each (sym h.reads.whole ∙ k.reads.whole) in
    let some = stuck_some k.rest (length (all_written k.pieces)) e k.stuck in
    omega (arith, ap length same.1)

-- the tokens of a text are the same in each reading
pub one_list : (text : List ℕ) (s t : List Token) → IsRead text s → IsRead text t → s ≡ t
one_list text s t h k = sym h.meant ∙ ap (λ x. tokens_of x 0) (one_reading text h.pieces k.pieces h.reads k.reads) ∙ k.meant

-- a text from a place on is read, or refused after some pieces
abbrev IsEither : List ℕ → ℕ → Type 0
IsEither text at =
    ((pieces : List Piece) × Reads text pieces [])
    ⊎ ((pieces : List Piece) × (rest : List ℕ) × (e : LexError) × Reads text pieces rest × IsStuck rest (at + length (all_written pieces)) e)

reads_first : (q : Piece) (pieces : List Piece) (text rest : List ℕ) (h : Fits text q) → Reads h.rest pieces rest → Reads text (q ∷ pieces) rest
reads_first q pieces text rest h k = record {
  whole = h.whole ∙ ap (λ x. written q ++ x) k.whole ∙ sym (append_assoc (written q) (all_written pieces) rest);
  each = (h.valid, subst (StandsBefore q) k.whole h.before, k.each);
}

either_first : (q : Piece) (text : List ℕ) (at : ℕ) (h : Fits text q) → IsEither h.rest (at + length (written q)) → IsEither text at
either_first q text at h (inl w) = inl (q ∷ w.0, reads_first q w.0 text [] h w.1)
either_first q text at h (inr w) =
    inr (
      q ∷ w.0,
      w.1,
      w.2,
      reads_first q w.0 text w.1 h w.3,
      subst (λ n. IsStuck w.1 n w.2) (let e : at + length (written q) + length (all_written w.0) ≡ at + length (all_written (q ∷ w.0)) = omega (arith, length-append (written q) (all_written w.0)) in e) w.4,
    )

either : (n : ℕ) (text : List ℕ) (at : ℕ) → length text ≤ n → IsEither text at
either n [] at le = inl ([], record { whole = refl; each = tt })
either zero (b ∷ bs) at le = absurd (omega arith)
either (suc n) (b ∷ bs) at le = by (front (b ∷ bs) at) (front_meets b bs at) (λ rest at' le'. either n rest at' le')
  where
    by : (r : Result Piece LexError) → Meets (b ∷ bs) at r → ((rest : List ℕ) (at' : ℕ) → length rest ≤ n → IsEither rest at') → IsEither (b ∷ bs) at
    by (Ok q) h on =
        let some = piece_some q h.valid in
        either_first q (b ∷ bs) at h (on h.rest (at + length (written q)) (omega (arith, ap length h.whole, length-append (written q) h.rest)))
    by (Err e) h on = inr ([], b ∷ bs, e, record { whole = refl; each = tt }, subst (λ m. IsStuck (b ∷ bs) m e) (let q : at ≡ at + 0 = omega arith in q) h)

pub some_reading : (text : List ℕ) → ((tokens : List Token) × IsRead text tokens) ⊎ ((e : LexError) × IsRefused text e)
some_reading text = by (either (length text) text 0 (omega arith))
  where
    by : IsEither text 0 → ((tokens : List Token) × IsRead text tokens) ⊎ ((e : LexError) × IsRefused text e)
    by (inl w) = inl (tokens_of w.0 0, record { pieces = w.0; reads = w.1; meant = refl })
    by (inr w) = inr (w.2, record { pieces = w.0; rest = w.1; reads = w.3; stuck = subst (λ n. IsStuck w.1 n w.2) (let e : 0 + length (all_written w.0) ≡ length (all_written w.0) = omega arith in e) w.4 })

pub have_one_reading : HaveOneReading
have_one_reading = record { some = some_reading; one_reading = one_reading; one_refusal = one_refusal; never_both = never_both }

-- one more piece behind those that are read
all_push : (pieces : List Piece) (q : Piece) (rest : List ℕ) → all_written (pieces ++ q ∷ []) ++ rest ≡ all_written pieces ++ (written q ++ rest)
all_push [] q rest = ap (λ x. x ++ rest) (append-nil (written q))
all_push (o ∷ pieces) q rest =
    append_assoc (written o) (all_written (pieces ++ q ∷ [])) rest ∙ ap (λ x. written o ++ x) (all_push pieces q rest) ∙ sym (append_assoc (written o) (all_written pieces) (written q ++ rest))

stand_push : (pieces : List Piece) (q : Piece) (rest : List ℕ) → Stand pieces (written q ++ rest) → IsPiece q → StandsBefore q rest → Stand (pieces ++ q ∷ []) rest
stand_push [] q rest h valid before = (valid, before, tt)
stand_push (o ∷ pieces) q rest h valid before = (h.0, subst (StandsBefore o) (sym (all_push pieces q rest)) h.1, stand_push pieces q rest h.2 valid before)

pub reads_push : (text : List ℕ) (pieces : List Piece) (q : Piece) (now : List ℕ) (h : Fits now q) → Reads text pieces now → Reads text (pieces ++ q ∷ []) h.rest
reads_push text pieces q now h k = record {
  whole = k.whole ∙ ap (λ x. all_written pieces ++ x) h.whole ∙ sym (all_push pieces q h.rest);
  each = stand_push pieces q h.rest (subst (Stand pieces) h.whole k.each) h.valid h.before;
}

pub written_push : (pieces : List Piece) (q : Piece) → length (all_written (pieces ++ q ∷ [])) ≡ length (all_written pieces) + length (written q)
written_push pieces q = ap length (sym (append-nil (all_written (pieces ++ q ∷ []))) ∙ all_push pieces q [] ∙ ap (λ x. all_written pieces ++ x) (append-nil (written q))) ∙ length-append (all_written pieces) (written q)

pub tokens_push : (pieces : List Piece) (q : Piece) (at : ℕ) → tokens_of (pieces ++ q ∷ []) at ≡ tokens_of pieces at ++ token_of (kind_of q) (at + length (all_written pieces)) (length (written q))
tokens_push [] q at = append-nil (token_of (kind_of q) at (length (written q))) ∙ ap (λ n. token_of (kind_of q) n (length (written q))) (let e : at ≡ at + 0 = omega arith in e)
tokens_push (o ∷ pieces) q at =
    ap (λ x. token_of (kind_of o) at (length (written o)) ++ x)
    (tokens_push pieces q (at + length (written o))
    ∙ ap (λ n. tokens_of pieces (at + length (written o)) ++ token_of (kind_of q) n (length (written q))) (let e : at + length (written o) + length (all_written pieces) ≡ at + length (all_written (o ∷ pieces)) = omega (arith, length-append (written o) (all_written pieces)) in e))
    ∙ sym (append_assoc (token_of (kind_of o) at (length (written o))) (tokens_of pieces (at + length (written o))) (token_of (kind_of q) (at + length (all_written (o ∷ pieces))) (length (written q))))

-- the rest behind a piece at the front
pub rest_is : (now : List ℕ) (q : Piece) (h : Fits now q) → drop (length (written q)) now ≡ h.rest
rest_is now q h = ap (drop (length (written q))) h.whole ∙ drop-append_seam (written q) h.rest
