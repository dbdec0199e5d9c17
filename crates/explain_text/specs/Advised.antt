-- What is advised where the place alone does not help.
use Rattle.std.specs.Prelude.{◌≡◌, ℕ, ◌-◌, ◌≤◌, Bool, true, false, not, ◌&&◌, ◌||◌, ◌==◌, nat_eq, List, codes, length}
use Rattle.std.specs.Prelude.{take, drop, ◌∷◌, [], slice_get, slice_index, Option, None, Some, option_map}
use Rattle.std.specs.Prelude.{if◌then◌else◌}
use Rattle.std.specs.List.{starts_with, list_any}
use Rattle.jolie_tokens.specs.Bytes.{begins, is_letter}
use Rattle.jolie_tokens.specs.declared.sign.Sign.TheVariants as sign
use Rattle.jolie_tokens.specs.declared.token.Token.{Token}
use Rattle.jolie_tokens.specs.declared.token.TokenKind.TheVariants as kind
use Rattle.jolie_tokens.specs.Texts.{longest, IsRead}
use Rattle.explain_hints.specs.declared.hint.Hint.{Hint}
use Rattle.explain_hints.specs.declared.hint.Hint.TheVariants as hint
use Rattle.check_verdicts.specs.declared.refusal.Cause.{Cause}
use Rattle.check_verdicts.specs.declared.refusal.Cause.TheVariants as cause
use Rattle.explain_text.specs.Words.{begins_with}
use Rattle.explain_text.specs.declared.advice.Advice.{Advice}
use Rattle.explain_text.specs.declared.advice.Advice.TheVariants as advice

-- the last of tokens is `;`
abbrev pub LastIsSemicolon : List Token → Type 0
LastIsSemicolon tokens =
    option_map (λ (t : Token). t.kind) (slice_get tokens (length tokens - 1)) ≡ Some (kind.Sign sign.Semicolon)

-- the bytes have tokens, of which the last is `;`
pub record EndsInSemicolon (bytes : List ℕ) : Type 0 where
  pub fits : length bytes ≤ longest
  pub tokens : List Token
  pub read : IsRead bytes tokens
  pub last : LastIsSemicolon tokens

-- the hint is `;`
abbrev pub is_semicolon : Hint → Bool
is_semicolon hint.Semicolon = true
is_semicolon _ = false

-- a word stands there that may begin a statement
abbrev pub begins_statement : List ℕ → Bool
begins_statement rest = begins is_letter rest && not (begins_with (codes "instanceof") rest)

-- a word stands there with which a clause of a service begins, or a part of a port of another Jolie
abbrev pub names_clause : List ℕ → Bool
names_clause rest =
    begins_with (codes "main") rest || begins_with (codes "execution") rest || begins_with (codes "inputPort") rest
    || begins_with (codes "outputPort") rest || begins_with (codes "init") rest || begins_with (codes "Location") rest
    || begins_with (codes "Protocol") rest || begins_with (codes "Interfaces") rest

-- a word or sign stands there with which a file from elsewhere goes on
abbrev pub is_elsewhere : List ℕ → Bool
is_elsewhere rest =
    begins_with (codes "include") rest || begins_with (codes "from") rest || begins_with (codes "embed") rest
    || begins_with (codes "define") rest || begins_with (codes "constants") rest || begins_with (codes "in") rest
    || begins_with (codes "csets") rest || begins_with (codes "over") rest || starts_with nat_eq rest (codes "->")
    || starts_with nat_eq rest (codes "#!") || names_clause rest

-- the hint is `)`
abbrev pub closes : Hint → Bool
closes hint.CloseParen = true
closes _ = false

-- `:` stands there where `)` may: what goes over the names of a tree, as `foreach (k : t)`
abbrev pub goes_over_names : List Hint → List ℕ → Bool
goes_over_names hints rest = starts_with nat_eq rest (codes ":") && list_any closes hints

-- what stands there is of a file from elsewhere, where these may stand
abbrev pub comes_from_elsewhere : List Hint → List ℕ → Bool
comes_from_elsewhere hints rest = is_elsewhere rest || goes_over_names hints rest

-- ---- a token that may not stand there

-- the bytes end in a dot; no bytes have the end 0 here
abbrev pub ends_in_dot : List ℕ → Bool
ends_in_dot bytes = slice_index bytes (length bytes - 1) == 46

-- the hint is `(`
abbrev pub opens : Hint → Bool
opens hint.OpenParen = true
opens _ = false

-- the hint is a clause of a service, or a part of a port after its location
abbrev pub is_clause : Hint → Bool
is_clause hint.Clause = true
is_clause hint.Protocol = true
is_clause hint.Interfaces = true
is_clause _ = false

-- the hint is `interfaces`
abbrev pub is_interfaces : Hint → Bool
is_interfaces hint.Interfaces = true
is_interfaces _ = false

-- the hint is a type after a colon
abbrev pub is_type : Hint → Bool
is_type hint.Type = true
is_type _ = false

-- the hint is a value
abbrev pub is_value : Hint → Bool
is_value hint.Value = true
is_value _ = false

-- the hint is `:`
abbrev pub is_colon : Hint → Bool
is_colon hint.Colon = true
is_colon _ = false

-- the hint is an operator
abbrev pub is_operator : Hint → Bool
is_operator hint.Operator = true
is_operator _ = false

-- the hint is `{`
abbrev pub is_brace : Hint → Bool
is_brace hint.OpenBrace = true
is_brace _ = false

-- `{` may stand, and nothing else
abbrev pub is_brace_alone : List Hint → Bool
is_brace_alone hints = length hints == 1 && list_any is_brace hints

-- `(` may stand, and nothing else
abbrev pub is_parenthesis_alone : List Hint → Bool
is_parenthesis_alone hints = length hints == 1 && list_any opens hints

-- `{` stands there: where a statement may end and `(` go on, after a protocol, where a type stands, or for a `:`
abbrev pub advised_of_brace : List Hint → Option Advice
advised_of_brace hints =
    if list_any is_semicolon hints && list_any opens hints then Some advice.Braces
    else if list_any is_interfaces hints then Some advice.Settings
    else if list_any is_type hints then Some advice.Root
    else if list_any is_colon hints then Some advice.Colon
    else None

-- `,` or `;` stands there
abbrev pub parts : List ℕ → Bool
parts rest = starts_with nat_eq rest (codes ",") || starts_with nat_eq rest (codes ";")

-- a word stands there before which `;` may stand
abbrev pub advised_of_statement : List ℕ → Option Advice
advised_of_statement rest = if begins_statement rest then Some advice.Separator else None

-- `(` or `@` stands there
abbrev pub calls : List ℕ → Bool
calls rest = starts_with nat_eq rest (codes "(") || starts_with nat_eq rest (codes "@")

-- another token stands there, where no statement ends: what is from elsewhere, or one in the place of a `{` or `(`
abbrev pub advised_of_rest : List ℕ → List Hint → Option Advice
advised_of_rest rest hints =
    if comes_from_elsewhere hints rest then Some advice.Elsewhere
    else if is_brace_alone hints then Some advice.Block
    else if is_parenthesis_alone hints then Some advice.Parens
    else None

-- a token stands there that is no sign between clauses and no `void`: after a value a call or `?`, or a statement
abbrev pub advised_of_token : List ℕ → List Hint → Option Advice
advised_of_token rest hints =
    if calls rest && list_any is_operator hints then Some advice.Call
    else if starts_with nat_eq rest (codes "?") && list_any is_operator hints then Some advice.Choice
    else if list_any is_semicolon hints then advised_of_statement rest
    else advised_of_rest rest hints

-- another token stands there: a sign between clauses, `void` for a value, or a further one
abbrev pub advised_of_other : List ℕ → List Hint → Option Advice
advised_of_other rest hints =
    if parts rest && list_any is_clause hints then Some advice.Clauses
    else if begins_with (codes "void") rest && list_any is_value hints then Some advice.Void
    else advised_of_token rest hints

-- what is advised by the bytes from a place on and what may stand there, and by whether a dot stands before them
abbrev pub advised_there : Bool → List ℕ → List Hint → Option Advice
advised_there behind_dot rest hints =
    if starts_with nat_eq rest (codes "=>") then Some advice.Handlers
    else if starts_with nat_eq rest (codes "+=") || starts_with nat_eq rest (codes "-=") then Some advice.Compound
    else if behind_dot && starts_with nat_eq rest (codes "(") then Some advice.Computed
    else if starts_with nat_eq rest (codes "{") then advised_of_brace hints
    else advised_of_other rest hints

-- what is advised by what stands at a place and what may
abbrev pub advised_at : List ℕ → ℕ → List Hint → Option Advice
advised_at text at hints = advised_there (ends_in_dot (take at text)) (drop at text) hints

-- `}` stands there, and `;` is the last token before it
abbrev pub IsBehindSemicolon : List ℕ → ℕ → Type 0
IsBehindSemicolon text at = (starts_with nat_eq (drop at text) (codes "}") ≡ true) × EndsInSemicolon (take at text)

-- what is advised where this is by what stands there: that, and where it is nothing, that no `;` stands before a `}`
abbrev pub IsAdvisedBy : Option Advice → List ℕ → ℕ → Option Advice → Type 0
IsAdvisedBy (Some a) text at advised = advised ≡ Some a
IsAdvisedBy None text at None = IsBehindSemicolon text at → ⊥
IsAdvisedBy None text at (Some a) = (a ≡ advice.Separator) × IsBehindSemicolon text at

-- what is advised of a token that may not stand at a place
abbrev pub IsAdvisedAt : List ℕ → ℕ → List Hint → Option Advice → Type 0
IsAdvisedAt text at hints advised = IsAdvisedBy (advised_at text at hints) text at advised

-- ---- other refusals

-- a byte order mark stands there, with which some editors begin a file
abbrev pub begins_with_mark : List ℕ → Bool
begins_with_mark rest = starts_with nat_eq rest (239 ∷ 187 ∷ 191 ∷ [])

-- what is advised of a byte with which no token begins
abbrev pub advised_of_byte : List ℕ → Option Advice
advised_of_byte rest = if begins_with_mark rest then Some advice.ByteOrderMark else None

-- what is advised of a refusal at a place, where these may stand
abbrev pub IsAdvised : List ℕ → Cause → ℕ → List Hint → Option Advice → Type 0
IsAdvised text cause.Syntax at hints advised = IsAdvisedAt text at hints advised
IsAdvised text cause.BadByte at hints advised = advised ≡ advised_of_byte (drop at text)
IsAdvised text _ at hints advised = advised ≡ None
