-- The classes of tokens: one for each sign and each word that counts, one for all other words, and one each for ints,
-- longs and strings.
use Rattle.std.specs.Prelude.{ℕ, ◌+◌, ◌≤◌, Bool, true, false, ◌||◌, List, [], ◌∷◌, length, map, take, drop, IsUtf8}
use denote.Enum.Bare.{sameb}
use Rattle.jolie_tokens.specs.declared.token.Token.{Token}
use Rattle.jolie_tokens.specs.declared.token.TokenKind.{TokenKind}
use Rattle.jolie_tokens.specs.declared.token.TokenKind.TheVariants as kind
use Rattle.jolie_tokens.specs.contracts.sign.Sign as sign_row
use Rattle.jolie_tokens.specs.declared.sign.Sign.TheVariants as sign
use Rattle.jolie_parse.specs.contracts.word.Word as word_row
use Rattle.jolie_parse.specs.declared.word.Word.TheVariants as word
use Rattle.jolie_parse.specs.declared.class.Class.{Class}
use Rattle.jolie_parse.specs.declared.class.Class.TheVariants as classed
use Rattle.jolie_parse.specs.Words.{counted_words, word_of}

-- a token with the bytes that it is written in
pub record Spelled : Type 0 where
  pub token : Token
  pub spelling : List ℕ

-- a token of a text with its bytes
abbrev pub spelled_one : List ℕ → Token → Spelled
spelled_one text t = record { token = t; spelling = take t.len (drop t.at text) }

-- the tokens of a text with their bytes
abbrev pub spelled : List ℕ → List Token → List Spelled
spelled text tokens = map (spelled_one text) tokens

-- the token stands in the text, in UTF-8
pub record StandsIn (text : List ℕ) (t : Token) : Type 0 where
  pub within : t.at + t.len ≤ length text
  pub utf8 : IsUtf8 (take t.len (drop t.at text))

-- where a token begins
abbrev pub place : Spelled → ℕ
place t = t.token.at

-- the class of a token of that kind, written so
abbrev pub class_of : TokenKind → List ℕ → Class
class_of kind.Word spelling = classed.Word (word_of spelling)
class_of (kind.Int n) spelling = classed.Int
class_of (kind.Long n) spelling = classed.Long
class_of (kind.Str text) spelling = classed.Str
class_of (kind.Sign s) spelling = classed.Sign s

-- the class of a token
abbrev pub class : Spelled → Class
class t = class_of t.token.kind t.spelling

-- they are the same class: of words or signs that are one, as `==` says, or both of ints, of longs or of strings
abbrev pub same : Class → Class → Bool
same (classed.Word v) (classed.Word w) = sameb word_row.the_type v w
same (classed.Sign r) (classed.Sign s) = sameb sign_row.the_type r s
same classed.Int classed.Int = true
same classed.Long classed.Long = true
same classed.Str classed.Str = true
same _ _ = false

-- the classes of `id`: the words that are not reserved
abbrev pub ids : List Class
ids =
    map classed.Word
    (word.Plain ∷ word.Location ∷ word.Protocol ∷ word.Interfaces ∷ word.Concurrent ∷ word.Single ∷ [])

-- the classes of `word`: all words
abbrev pub words : List Class
words = map classed.Word (word.Plain ∷ counted_words)

-- the brackets that open
abbrev pub open_brackets : List Class
open_brackets = map classed.Sign (sign.OpenBrace ∷ sign.OpenParen ∷ sign.OpenBracket ∷ [])

-- it is among them
abbrev pub has : List Class → Class → Bool
has [] k = false
has (j ∷ js) k = same j k || has js k

-- the next token is there and of one of these classes
abbrev pub begins : List Class → List Spelled → Bool
begins ks [] = false
begins ks (t ∷ ts) = has ks (class t)
