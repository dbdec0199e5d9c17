-- Each token of a text that is read has a valid printed form.
use Rattle.std.proofs.Common.{◌≡◌, ℕ, ◌<◌, ◌≤◌, ◌^◌, true, List, [], ◌∷◌, ◌++◌, length, refl, sym, ap, subst, ◌∙◌, arith, append-nil, Some, pos}
use Rattle.std.specs.Fmt.{decimal}
use Rattle.std.specs.Char.{digit_value}
use Rattle.std.specs.List.{AllPass}
use Rattle.std.specs.Str.Parse.{AllDigits}
use Rattle.std.proofs.lemmas.Fmt.{decimal_is_IsNumeral}
use Rattle.std.proofs.lemmas.Bool.Decides.{nat_tests}
use Rattle.std.proofs.lemmas.List.Elements.{All-nil, All-cons}
use Rattle.jolie_tokens.specs.declared.token.Token.{Token}
use Rattle.jolie_tokens.specs.declared.token.TokenKind.TheVariants as kind
use Rattle.jolie_tokens.specs.Bytes.{is_digit}
use Rattle.jolie_tokens.specs.Numbers.{AreDigits, value, largest_int, largest_long}
use Rattle.jolie_tokens.specs.Pieces as pieces
use Rattle.jolie_tokens.specs.Pieces.{Piece, written, kind_of, IsPiece}
use Rattle.jolie_tokens.specs.Texts.{all_written, Stand, tokens_of, IsRead}
use Rattle.jolie_parse.specs.Classes.{spelled}
use Rattle.jolie_round_trip.proofs.Lexemes.{IsPrinted, Every, IsValid, Every-append}
use Rattle.jolie_round_trip.proofs.PrintedStrings.{prints_string}
use Rattle.jolie_round_trip.proofs.Lexed.{spelled_behind, spelled_token, spelled_first}

-- ---- numbers

digit_byte : (b : ℕ) → digit_value b < 10 → is_digit b ≡ true
digit_byte b h = grind (arith, nat_tests)

digit_bytes : (ds : List ℕ) → AllDigits 10 ds → AllPass is_digit ds
digit_bytes [] h = All-nil (λ b. is_digit b ≡ true)
digit_bytes (d ∷ ds) h = All-cons (λ b. is_digit b ≡ true) d ds (digit_byte d h.0) (digit_bytes ds h.1)

-- the decimal digits of a number write it
record Writes (n : ℕ) : Type 0 where
  digits : AreDigits (decimal n)
  same : value (decimal n) ≡ n

decimal_writes : (n : ℕ) → n < 2 ^ 64 → Writes n
decimal_writes n h = let d = decimal_is_IsNumeral n h in record { digits = (d.0.0, digit_bytes (decimal n) d.0.1); same = d.1 }

int_printed : (n : ℕ) → n ≤ largest_int → IsPrinted (record { kind = kind.Int (pos n); spelling = decimal n })
int_printed n h =
    let w = decimal_writes n (omega arith) in
    record { piece = pieces.int (decimal n); valid = (w.digits, rw w.same h); meant = ap (λ v. Some (kind.Int (pos v))) w.same; so_written = refl }

long_printed : (n : ℕ) → n ≤ largest_long → IsPrinted (record { kind = kind.Long (pos n); spelling = decimal n ++ 76 ∷ [] })
long_printed n h =
    let w = decimal_writes n (omega arith) in
    record { piece = pieces.long (decimal n); valid = (w.digits, rw w.same h); meant = ap (λ v. Some (kind.Long (pos v))) w.same; so_written = refl }

-- ---- pieces

-- the printed form of each token of a piece is valid
valid_token : (q : Piece) (at : ℕ) → IsPiece q → Every IsValid (spelled_token (kind_of q) at (written q))
valid_token (pieces.blank b) at h = tt
valid_token (pieces.line_comment bs) at h = tt
valid_token (pieces.block_comment bs) at h = tt
valid_token (pieces.word bs) at h = (record { piece = pieces.word bs; valid = h; meant = refl; so_written = refl }, tt)
valid_token (pieces.int ds) at h = (int_printed (value ds) h.1, tt)
valid_token (pieces.long ds) at h = (long_printed (value ds) h.1, tt)
valid_token (pieces.string parts) at h = let s = prints_string parts h in (record { piece = pieces.string s.parts; valid = s.valid; meant = s.same; so_written = s.bytes }, tt)
valid_token (pieces.sign s) at h = (record { piece = pieces.sign s; valid = tt; meant = refl; so_written = refl }, tt)

valid_behind : (front : List ℕ) (ps : List Piece) → Stand ps [] → Every IsValid (spelled_behind front ps)
valid_behind front [] h = tt
valid_behind front (q ∷ ps) h =
    subst (Every IsValid) (sym (spelled_first front q ps))
    (Every-append IsValid (spelled_token (kind_of q) (length front) (written q)) (spelled_behind (front ++ written q) ps) (valid_token q (length front) h.0) (valid_behind (front ++ written q) ps h.2))

pub valid_tokens : (text : List ℕ) (tokens : List Token) → IsRead text tokens → Every IsValid (spelled text tokens)
valid_tokens text tokens h =
    let whole : all_written h.pieces ≡ text = sym (append-nil (all_written h.pieces)) ∙ sym h.reads.whole in
    subst (Every IsValid) (ap (λ x. spelled x (tokens_of h.pieces 0)) whole ∙ ap (spelled text) h.meant) (valid_behind [] h.pieces h.reads.each)
