-- What may stand at a place of a text, and what is told of it.
use Rattle.std.specs.Prelude.{ℕ, ◌≤◌, ◌⊎◌, List, [], ◌∷◌, ◌++◌, length, take}
use Rattle.jolie_tokens.specs.declared.token.Token.{Token}
use Rattle.jolie_tokens.specs.declared.lex_error.LexError.{LexError}
use Rattle.jolie_tokens.specs.declared.lex_error.LexError.TheVariants as lex
use Rattle.jolie_tokens.specs.Texts.{longest, IsRead}
use Rattle.jolie_ast.specs.declared.tree.Definition.{Definition}
use Rattle.jolie_parse.specs.Classes.{Spelled, spelled}
use Rattle.jolie_parse.specs.Grammar.{IsFile}
use Rattle.jolie_parse.specs.Answers.{IsRefusedAt}
use Rattle.explain_hints.specs.declared.hint.Hint.{Hint}
use Rattle.explain_hints.specs.declared.hint.Hint.TheVariants as hint
use Rattle.explain_hints.specs.declared.hint.SaidBy.{SaidBy}
use Rattle.explain_hints.specs.declared.hint.SaidBy.TheVariants as said
use Rattle.explain_hints.specs.Hints.{all_hints, sample_of, said_by}

-- ---- bytes that are a file or begin one

-- the tokens of bytes that end there are a file, or refused at the end alone: no token is wrong, and some may follow
abbrev pub IsFileOrBegun : ℕ → List Spelled → Type 0
IsFileOrBegun end tokens = ((f : List Definition) × IsFile 64 tokens f) ⊎ IsRefusedAt 64 end tokens end

-- the bytes have tokens that are a file or begin one
pub record MayGoOn (bytes : List ℕ) : Type 0 where
  pub fits : length bytes ≤ longest
  pub tokens : List Token
  pub read : IsRead bytes tokens
  pub begun : IsFileOrBegun (length bytes) (spelled bytes tokens)

-- ---- what may stand at a place

-- the bytes before a place, and on a line of its own a sample: no word, number, sign or comment before it goes on in it
abbrev pub tried : List ℕ → ℕ → List ℕ → List ℕ
tried text at sample = take at text ++ 10 ∷ sample

-- the hint may stand at the place: with its sample there, what comes of it is a file or begins one
abbrev pub MayStand : List ℕ → ℕ → Hint → Type 0
MayStand text at h = MayGoOn (tried text at (sample_of h))

-- ---- what is told

-- what says a hint too may stand at the place
abbrev pub IsSaidBy : List ℕ → ℕ → SaidBy → Type 0
IsSaidBy text at said.Nothing = ⊥
IsSaidBy text at said.Value = MayStand text at hint.Value
IsSaidBy text at said.Statement = MayStand text at hint.Statement
IsSaidBy text at said.ValueOrStatement = MayStand text at hint.Value ⊎ MayStand text at hint.Statement
IsSaidBy text at said.Operator = MayStand text at hint.Operator

-- the hint is told: it may stand, and no other that may stand says it too
abbrev pub IsTold : List ℕ → ℕ → Hint → Type 0
IsTold text at h = MayStand text at h × (IsSaidBy text at (said_by h) → ⊥)

-- the second hints are those of the first of which this holds, in their order
pub data AreKept (Holds : Hint → Type 0) : List Hint → List Hint → Type 0 where
  none : AreKept Holds [] []
  kept : {h : Hint} {hints told : List Hint} → Holds h → AreKept Holds hints told → AreKept Holds (h ∷ hints) (h ∷ told)
  left : {h : Hint} {hints told : List Hint} → (Holds h → ⊥) → AreKept Holds hints told → AreKept Holds (h ∷ hints) told

-- these are the hints that are told of the place
abbrev pub AreToldAt : List ℕ → ℕ → List Hint → Type 0
AreToldAt text at told = AreKept (IsTold text at) all_hints told

-- ---- errors

-- the error says something of the bytes
abbrev pub IsNoMemory : LexError → Type 0
IsNoMemory (lex.Memory cause) = ⊥
IsNoMemory e = Unit {0}
