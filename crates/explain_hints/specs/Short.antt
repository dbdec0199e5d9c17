-- These definitions serve the proofs alone: no promise speaks of them.
-- A short list of tokens that stands for those of bytes, where it is asked whether these are a file or begin one.
use Rattle.std.specs.Prelude.{◌≡◌, ◌⊎◌, ◌↔◌, ℕ, ◌+◌, ◌-◌, ◌<◌, ◌≤◌, true, List, [], ◌∷◌, ◌++◌, length, take, drop}
use Rattle.std.specs.List.{All}
use Rattle.jolie_tokens.specs.declared.sign.Sign.TheVariants.{Semicolon}
use Rattle.jolie_tokens.specs.declared.token.Token.{Token}
use Rattle.jolie_tokens.specs.Texts.{longest, IsRead}
use Rattle.jolie_ast.specs.declared.tree.Definition.{Definition}
use Rattle.jolie_parse.specs.declared.class.Class.{Class}
use Rattle.jolie_parse.specs.declared.class.Class.TheVariants as class
use Rattle.jolie_parse.specs.declared.word.Word.TheVariants as the
use Rattle.jolie_parse.specs.Classes.{Spelled, spelled, begins, has, StandsIn}
use Rattle.jolie_parse.specs.Grammar.{IsFile}
use Rattle.jolie_parse.specs.LeftOut.{IsFileOrBegun, AreNext}

-- a text, and a place of it
pub record Placed : Type 0 where
  pub text : List ℕ
  pub at : ℕ

-- a token so many bytes on
abbrev pub moved : ℕ → Token → Token
moved by t = record { kind = t.kind; at = t.at + by; len = t.len }

-- whatever follows them, the first tokens are a file or begin one if and only if the second do
abbrev pub ComesTo : List Spelled → List Spelled → Type 0
ComesTo ts us = (more : List Spelled) → IsFileOrBegun 64 (ts ++ more) ↔ IsFileOrBegun 64 (us ++ more)

-- tokens that stand in the bytes, and come to the same as all tokens of these
pub record StandFor (bytes : List ℕ) (short : List Token) : Type 0 where
  pub fits : length bytes ≤ longest
  pub tokens : List Token
  pub read : IsRead bytes tokens
  pub within : All (StandsIn bytes) short
  pub same : ComesTo (spelled bytes tokens) (spelled bytes short)

-- statements of a text stand in its tokens from a place on, each after a semicolon, and a semicolon after the last
abbrev pub MayBeLeftOut : List ℕ → List Token → ℕ → ℕ → Type 0
MayBeLeftOut text tokens at next =
    AreNext 32 (spelled text (take (next - at) (drop at tokens)))
    × (begins (class.Sign Semicolon ∷ []) (spelled text (drop next tokens)) ≡ true)

-- the words with which a definition begins
abbrev pub definition_words : List Class
definition_words = class.Word the.Type ∷ class.Word the.Interface ∷ class.Word the.Service ∷ []

-- a token of this class begins a definition
pub record BeginsDefinition (k : Class) : Type 0 where
  pub among : has definition_words k ≡ true

-- so many tokens of a text are whole definitions, and another begins after them
abbrev pub AreDefinitions : List ℕ → List Token → ℕ → Type 0
AreDefinitions text tokens count =
    ((f : List Definition) × IsFile 64 (spelled text (take count tokens)) f)
    × (begins definition_words (spelled text (drop count tokens)) ≡ true)

-- from a place on the tokens of a text may go on at the next one: it is the same, or what is between may be left out,
-- be it statements or the definitions before the last one
pub record MayGoOnAt (text : List ℕ) (tokens : List Token) (at next : ℕ) : Type 0 where
  pub ordered : at ≤ next
  pub within : next < length tokens
  pub between : (next ≡ at) ⊎ (MayBeLeftOut text tokens at next ⊎ ((at ≡ 0) × AreDefinitions text tokens next))

-- the bytes are definitions of so many tokens
pub record AreWhole (bytes : List ℕ) (count : ℕ) : Type 0 where
  pub tokens : List Token
  pub read : IsRead bytes tokens
  pub counted : count ≡ length tokens
  pub definitions : List Definition
  pub derived : IsFile 64 (spelled bytes tokens) definitions

-- the bytes have tokens
pub record HaveTokens (bytes : List ℕ) : Type 0 where
  pub tokens : List Token
  pub read : IsRead bytes tokens

-- the bytes are two parts with a line feed between: definitions of so many tokens, and what has tokens
pub record IsParted (bytes : List ℕ) (count : ℕ) : Type 0 where
  pub front : List ℕ
  pub rest : List ℕ
  pub parts : bytes ≡ front ++ 10 ∷ rest
  pub whole : AreWhole front count
  pub more : HaveTokens rest
