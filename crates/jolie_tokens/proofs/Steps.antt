-- One step of the reading of a text: the next piece, or the refusal.
use Rattle.std.proofs.Common.{◌≡◌, ℕ, ◌+◌, ◌<◌, ◌≤◌, false, List, [], ◌∷◌, ◌++◌, length, sym, ap, subst, ◌∙◌, arith, length-append, Option, None, Some, Result, Ok, Err}
use Rattle.std.specs.Prelude.{◌==◌}
use Rattle.std.specs.Result.{MatchResult}
use Rattle.jolie_tokens.specs.declared.lex_error.LexError.{LexError}
use Rattle.jolie_tokens.specs.declared.lex_error.LexError.TheVariants as error
use Rattle.jolie_tokens.specs.declared.lexeme.Lexeme.{Lexeme}
use Rattle.jolie_tokens.specs.declared.token.Token.{Token}
use Rattle.jolie_tokens.specs.declared.token.TokenKind.{TokenKind}
use Rattle.jolie_tokens.specs.Pieces.{Piece, written, kind_of}
use Rattle.jolie_tokens.specs.Refusals.{IsStuck}
use Rattle.jolie_tokens.specs.Texts.{all_written, Reads, token_of, tokens_of, IsRead, IsRefused}
use Rattle.jolie_tokens.specs.Outcomes.{IsRefusedOrMemory, UnlessMemory}
use Rattle.jolie_tokens.specs.Fronts.{front, Gives, FailsAs, IsMemory, lexeme_of}
use Rattle.jolie_tokens.proofs.Meets.{Fits, Meets, front_meets}
use Rattle.jolie_tokens.proofs.Readings.{one_list, one_refusal, never_both, tokens_push}

pub nonempty : (bs : List ℕ) → false ≡ (length bs == 0) → 0 < length bs
nonempty [] h = absurd cc
nonempty (b ∷ bs) h = omega arith

-- the piece of a lexeme
pub record Found (now : List ℕ) (lexeme : Lexeme) : Type 0 where
  pub piece : Piece
  pub fits : Fits now piece
  pub same : lexeme ≡ lexeme_of piece

pub found : (now : List ℕ) (at : ℕ) (lexeme : Lexeme) → 0 < length now → Gives (front now at) (Ok lexeme) → Found now lexeme
found [] at lexeme some g = absurd (omega arith)
found (b ∷ bs) at lexeme some g = by (front (b ∷ bs) at) (front_meets b bs at) g
  where
    by : (r : Result Piece LexError) → Meets (b ∷ bs) at r → Gives r (Ok lexeme) → Found (b ∷ bs) lexeme
    by (Ok q) h k = record { piece = q; fits = h; same = k }
    by (Err e) h k = absurd k

pub found_len : (now : List ℕ) (lexeme : Lexeme) (h : Found now lexeme) → lexeme.len ≡ length (written h.piece)
found_len now lexeme h = ap (λ x. x.len) h.same

pub found_within : (now : List ℕ) (lexeme : Lexeme) → Found now lexeme → lexeme.len ≤ length now
found_within now lexeme h = let fits = h.fits in omega (arith, found_len now lexeme h, ap length fits.whole, length-append (written h.piece) fits.rest)

fails_as : (text : List ℕ) (d e : LexError) → FailsAs d e → IsRefused text d → IsRefusedOrMemory text e
fails_as text d error.TooLong h r = subst (IsRefused text) h r
fails_as text d (error.BadByte at) h r = subst (IsRefused text) h r
fails_as text d (error.OpenString at) h r = subst (IsRefused text) h r
fails_as text d (error.OpenComment at) h r = subst (IsRefused text) h r
fails_as text d (error.BadNumber at) h r = subst (IsRefused text) h r
fails_as text d (error.Memory cause) h r = tt

only_memory : (text : List ℕ) (e : LexError) → IsMemory e → IsRefusedOrMemory text e
only_memory text error.TooLong h = absurd h
only_memory text (error.BadByte at) h = absurd h
only_memory text (error.OpenString at) h = absurd h
only_memory text (error.OpenComment at) h = absurd h
only_memory text (error.BadNumber at) h = absurd h
only_memory text (error.Memory cause) h = tt

-- the refusal at the front is that of the text
pub refused : (text now : List ℕ) (pieces : List Piece) (at : ℕ) (e : LexError) → Reads text pieces now → at ≡ length (all_written pieces) → 0 < length now → Gives (front now at) (Err e) → IsRefusedOrMemory text e
refused text [] pieces at e reads place some g = absurd (omega arith)
refused text (b ∷ bs) pieces at e reads place some g = by (front (b ∷ bs) at) (front_meets b bs at) g
  where
    by : (r : Result Piece LexError) → Meets (b ∷ bs) at r → Gives r (Err e) → IsRefusedOrMemory text e
    by (Ok q) h k = only_memory text e k
    by (Err d) h k = fails_as text d e k (record { pieces = pieces; rest = b ∷ bs; reads = reads; stuck = subst (λ n. IsStuck (b ∷ bs) n d) place h })

pub token_some : (kind : Option TokenKind) (k : TokenKind) (at m n : ℕ) → kind ≡ Some k → m ≡ n → token_of kind at m ≡ record { kind = k; at = at; len = n } ∷ []
token_some kind k at m n e f = ap (λ x. token_of x at m) e ∙ ap (token_of (Some k) at) f

pub token_none : (kind : Option TokenKind) (at n : ℕ) → kind ≡ None → token_of kind at n ≡ []
token_none kind at n e = ap (λ x. token_of x at n) e

-- the tokens with that of one more piece
pub pushed : (pieces : List Piece) (q : Piece) (kind : Option TokenKind) (len at : ℕ) (tokens more : List Token) → kind ≡ kind_of q → len ≡ length (written q) → at ≡ length (all_written pieces) → tokens ≡ tokens_of pieces 0
    → more ≡ tokens ++ token_of kind at len → more ≡ tokens_of (pieces ++ q ∷ []) 0
pushed pieces q kind len at tokens more ek el ea et em =
    em ∙ ap (λ x. x ++ token_of kind at len) et
    ∙ ap (λ x. tokens_of pieces 0 ++ x) (ap (λ k. token_of k at len) ek ∙ ap (λ n. token_of (kind_of q) n len) (let e : at ≡ 0 + length (all_written pieces) = omega arith in e) ∙ ap (token_of (kind_of q) (0 + length (all_written pieces))) el)
    ∙ sym (tokens_push pieces q 0)

-- what the tokens or the refusal of a text determine
pub read_exactly : (text : List ℕ) (r : Result (List Token) LexError) (tokens : List Token) → MatchResult r (IsRead text) (λ e. IsRefusedOrMemory text e) → IsRead text tokens → UnlessMemory r (Ok tokens)
read_exactly text (Ok others) tokens h k = ap Ok (one_list text others tokens h k)
read_exactly text (Err error.TooLong) tokens h k = absurd (never_both text tokens error.TooLong k h)
read_exactly text (Err (error.BadByte at)) tokens h k = absurd (never_both text tokens (error.BadByte at) k h)
read_exactly text (Err (error.OpenString at)) tokens h k = absurd (never_both text tokens (error.OpenString at) k h)
read_exactly text (Err (error.OpenComment at)) tokens h k = absurd (never_both text tokens (error.OpenComment at) k h)
read_exactly text (Err (error.BadNumber at)) tokens h k = absurd (never_both text tokens (error.BadNumber at) k h)
read_exactly text (Err (error.Memory cause)) tokens h k = tt

pub refused_exactly : (text : List ℕ) (r : Result (List Token) LexError) (e : LexError) → MatchResult r (IsRead text) (λ d. IsRefusedOrMemory text d) → IsRefused text e → UnlessMemory r (Err e)
refused_exactly text (Ok tokens) e h k = absurd (never_both text tokens e h k)
refused_exactly text (Err error.TooLong) e h k = ap Err (one_refusal text error.TooLong e h k)
refused_exactly text (Err (error.BadByte at)) e h k = ap Err (one_refusal text (error.BadByte at) e h k)
refused_exactly text (Err (error.OpenString at)) e h k = ap Err (one_refusal text (error.OpenString at) e h k)
refused_exactly text (Err (error.OpenComment at)) e h k = ap Err (one_refusal text (error.OpenComment at) e h k)
refused_exactly text (Err (error.BadNumber at)) e h k = ap Err (one_refusal text (error.BadNumber at) e h k)
refused_exactly text (Err (error.Memory cause)) e h k = tt
