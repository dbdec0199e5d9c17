-- The tokens of an expression.
use Rattle.std.specs.Prelude.{ℕ, ℤ, Bool, true, false, List, [], ◌∷◌, ◌++◌, flat_map, codes, ◌==◌, if◌then◌else◌}
use Rattle.std.specs.Fmt.{signed_decimal}
use Rattle.std.specs.Option.{option_map_or}
use Rattle.jolie_ast.specs.declared.name.Name.{Name}
use Rattle.jolie_ast.specs.declared.expression.Additive.{Additive}
use Rattle.jolie_ast.specs.declared.expression.Additive.TheVariants as additive
use Rattle.jolie_ast.specs.declared.expression.Multiplicative.{Multiplicative}
use Rattle.jolie_ast.specs.declared.expression.Multiplicative.TheVariants as multiplicative
use Rattle.jolie_ast.specs.declared.expression.Comparison.{Comparison}
use Rattle.jolie_ast.specs.declared.expression.Comparison.TheVariants as comparison
use Rattle.jolie_ast.specs.declared.expression.CastTarget.{CastTarget}
use Rattle.jolie_ast.specs.declared.expression.CastTarget.TheVariants as target
use Rattle.jolie_ast.specs.declared.expression.ExprForm.TheOpen.{ExprForm-F}
use Rattle.jolie_ast.specs.declared.expression.Expr.{Expr}
use Rattle.jolie_ast.specs.declared.expression.ExprForm.{ExprForm}
use Rattle.jolie_ast.specs.declared.expression.Factor.{Factor}
use Rattle.jolie_ast.specs.declared.expression.Term.{Term}
use Rattle.jolie_ast.specs.declared.expression.Member.{Member}
use Rattle.jolie_ast.specs.declared.expression.Path.{Path}
use Rattle.jolie_ast.specs.declared.expression.Step.{Step}
use Rattle.jolie_ast.specs.Folds.{ExprResults, ExprFold, exprs_are, fold_form, fold_expr, fold_factor, fold_term}
use Rattle.jolie_ast.specs.Folds.{fold_member, fold_path, fold_step}
use Rattle.jolie_ast.specs.Spacing.{Token, Tokens, separated}

-- ---- words, numbers and strings

-- a byte of a string: line feed, tab, carriage return, quotation mark and backslash are escaped
abbrev pub escaped_byte : ℕ → List ℕ
escaped_byte b =
    if b == 10 then codes "\\n"
    else if b == 9 then codes "\\t"
    else if b == 13 then codes "\\r"
    else if b == 34 then codes "\\\""
    else if b == 92 then codes "\\\\"
    else b ∷ []

-- a string in quotation marks
abbrev pub quoted_token : List ℕ → Token
quoted_token text = codes "\"" ++ flat_map escaped_byte text ++ codes "\""

-- a long in decimal, with its L
abbrev pub long_token : ℤ → Token
long_token n = signed_decimal n ++ codes "L"

-- `true` or `false`
abbrev pub truth_token : Bool → Token
truth_token true = codes "true"
truth_token false = codes "false"

-- a word
abbrev pub name_tokens : Name → Tokens
name_tokens name = name.text ∷ []

-- ---- operators

-- the sign of an operator: `+` or `-`
abbrev pub additive_token : Additive → Token
additive_token additive.Plus = codes "+"
additive_token additive.Minus = codes "-"

-- the sign of an operator: `*`, `/` or `%`
abbrev pub multiplicative_token : Multiplicative → Token
multiplicative_token multiplicative.Times = codes "*"
multiplicative_token multiplicative.Divide = codes "/"
multiplicative_token multiplicative.Remainder = codes "%"

-- the sign that compares
abbrev pub comparison_token : Comparison → Token
comparison_token comparison.Equal = codes "=="
comparison_token comparison.NotEqual = codes "!="
comparison_token comparison.Less = codes "<"
comparison_token comparison.AtMost = codes "<="
comparison_token comparison.Greater = codes ">"
comparison_token comparison.AtLeast = codes ">="

-- the word of a cast
abbrev pub cast_token : CastTarget → Token
cast_token target.Int = codes "int"
cast_token target.Long = codes "long"
cast_token target.Str = codes "string"

-- ---- brackets

-- tokens in parentheses
abbrev pub in_parens : Tokens → Tokens
in_parens ts = codes "(" ∷ (ts ++ codes ")" ∷ [])

-- tokens in brackets
abbrev pub in_brackets : Tokens → Tokens
in_brackets ts = codes "[" ∷ (ts ++ codes "]" ∷ [])

-- tokens in braces
abbrev pub in_braces : Tokens → Tokens
in_braces ts = codes "{" ∷ (ts ++ codes "}" ∷ [])

-- ---- expressions

-- the tokens of an expression, and whether it is an operation with two or more operands
pub record Shown : Type 0 where
  pub several : Bool
  pub tokens : Tokens

-- tokens that are no operation with two or more operands
abbrev pub simple : Tokens → Shown
simple ts = record { several = false; tokens = ts }

-- tokens of an operation with two or more operands
abbrev pub operation : Tokens → Shown
operation ts = record { several = true; tokens = ts }

-- an operand: in parentheses where it is an operation with two or more operands
abbrev pub operand : Shown → Tokens
operand s = if s.several then in_parens s.tokens else s.tokens

-- one level of a form, with the tokens of its parts
abbrev pub form_level : ExprForm-F Shown Shown Tokens Tokens Tokens Tokens Tokens → Shown
form_level (ExprForm-F.Int n) = simple (signed_decimal n ∷ [])
form_level (ExprForm-F.Long n) = simple (long_token n ∷ [])
form_level (ExprForm-F.Str text) = simple (quoted_token text ∷ [])
form_level (ExprForm-F.Bool b) = simple (truth_token b ∷ [])
form_level (ExprForm-F.Path path) = simple path
form_level (ExprForm-F.Size path) = simple (codes "#" ∷ path)
form_level (ExprForm-F.IsDefined path) = simple (codes "is_defined" ∷ in_parens path)
form_level (ExprForm-F.Cast to value) = simple (cast_token to ∷ in_parens value.tokens)
form_level (ExprForm-F.Literal members) = simple (in_braces (separated (codes ",") (λ ts. ts) members))
form_level (ExprForm-F.Minus value) = simple (codes "-" ∷ operand value)
form_level (ExprForm-F.Not value) = simple (codes "!" ∷ operand value)
form_level (ExprForm-F.Product first rest) = operation (operand first ++ flat_map (λ ts. ts) rest)
form_level (ExprForm-F.Sum first rest) = operation (operand first ++ flat_map (λ ts. ts) rest)
form_level (ExprForm-F.Compare left compared right) =
    operation (operand left ++ comparison_token compared ∷ operand right)
form_level (ExprForm-F.And values) = operation (separated (codes "&&") operand values)
form_level (ExprForm-F.Or values) = operation (separated (codes "||") operand values)

-- what is shown of each part of an expression: tokens, of a form and of an expression also whether it is an operation
abbrev pub shown_parts : ExprResults
shown_parts = record (exprs_are Tokens) { expr = Shown; form = Shown }

-- what is shown of a part, from what is shown of the parts in it: further steps of a path stand behind dots, an index
-- in brackets
abbrev pub shown : ExprFold shown_parts
shown = record {
  expr = λ e. e.form;
  form = form_level;
  path = λ p. p.first ++ flat_map (λ ts. codes "." ∷ ts) p.rest;
  step = λ s. s.name.text ∷ option_map_or (λ (value : Shown). in_brackets value.tokens) s.index [];
  member = λ m. m.name.text ∷ (codes "=" ∷ m.value.tokens);
  factor = λ f. multiplicative_token f.operator ∷ operand f.operand;
  term = λ t. additive_token t.operator ∷ operand t.operand;
}

-- the tokens of a form, and whether it has several operands
unfoldable pub form_shown : ExprForm → Shown
form_shown = fold_form shown

-- the tokens of an expression, and whether it has several operands
unfoldable pub expr_shown : Expr → Shown
expr_shown = fold_expr shown

-- the tokens of a later operand of a product, with its operator
unfoldable pub factor_tokens : Factor → Tokens
factor_tokens = fold_factor shown

-- the tokens of a later operand of a sum, with its operator
unfoldable pub term_tokens : Term → Tokens
term_tokens = fold_term shown

-- the tokens of a member of a literal
unfoldable pub member_tokens : Member → Tokens
member_tokens = fold_member shown

-- the tokens of a path
unfoldable pub path_tokens : Path → Tokens
path_tokens = fold_path shown

-- the tokens of a step of a path
unfoldable pub step_tokens : Step → Tokens
step_tokens = fold_step shown

-- the tokens of an expression that is no operand
abbrev pub expr_tokens : Expr → Tokens
expr_tokens e = (expr_shown e).tokens

-- the tokens of an expression that is an operand
abbrev pub operand_tokens : Expr → Tokens
operand_tokens e = operand (expr_shown e)
