-- A text has at least as many bytes as tokens, and so no more members of parallels than it may have bytes.
use Rattle.std.proofs.Common.{ℕ, ◌+◌, ◌≤◌, List, [], ◌∷◌, length, ap, arith, length-append, Option, Some, None}
use Rattle.std.proofs.lemmas.List.{length-map}
use Rattle.jolie_tokens.specs.declared.token.Token.{Token}
use Rattle.jolie_tokens.specs.declared.token.TokenKind.{TokenKind}
use Rattle.jolie_tokens.specs.Pieces.{Piece, written, kind_of}
use Rattle.jolie_tokens.specs.Texts.{all_written, Stand, token_of, tokens_of, IsRead, longest}
use Rattle.jolie_tokens.proofs.Readings.{piece_some}
use Rattle.jolie_ast.specs.declared.tree.Definition.{Definition}
use Rattle.jolie_ast.specs.Members.{parallel_members, most_members}
use Rattle.jolie_parse.specs.Classes.{spelled, spelled_one}
use Rattle.jolie_parse.specs.Grammar.{IsFile}
use Rattle.jolie_parse.proofs.Members.{members_few}

one_token : (k : Option TokenKind) (at len : ℕ) → length (token_of k at len) ≤ 1
one_token None at len = omega arith
one_token (Some k) at len = omega arith

-- each token is a piece, which is written in a byte or more
pieces_few : (pieces : List Piece) (rest : List ℕ) (at : ℕ) → Stand pieces rest → length (tokens_of pieces at) ≤ length (all_written pieces)
pieces_few [] rest at s = omega arith
pieces_few (p ∷ pieces) rest at s =
    let len : ℕ = length (written p) in
    omega (
      arith,
      one_token (kind_of p) at len,
      piece_some p s.0,
      pieces_few pieces rest (at + len) s.2,
      length-append (token_of (kind_of p) at len) (tokens_of pieces (at + len)),
      length-append (written p) (all_written pieces),
    )

-- a text has at least as many bytes as tokens
pub tokens_few : (text : List ℕ) (tokens : List Token) → IsRead text tokens → length tokens ≤ length text
tokens_few text tokens r =
    omega (arith, pieces_few r.pieces [] 0 r.reads.each, ap length r.meant, ap length r.reads.whole, length-append (all_written r.pieces) [])

-- the tokens with their bytes are as many
pub spelled_few : (text : List ℕ) (tokens : List Token) → IsRead text tokens → length text ≤ longest → length (spelled text tokens) ≤ most_members
spelled_few text tokens r short = omega (arith, tokens_few text tokens r, length-map tokens (spelled_one text))

-- a file of a text has few enough members of parallels for a tree
pub file_fits : (n : ℕ) (text : List ℕ) (tokens : List Token) (f : List Definition) → IsRead text tokens → length text ≤ longest → IsFile n (spelled text tokens) f → parallel_members f ≤ most_members
file_fits n text tokens f r short d = omega (arith, members_few n (spelled text tokens) f d, spelled_few text tokens r short)
