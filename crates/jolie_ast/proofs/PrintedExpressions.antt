-- What the tokens of an expression are at each form.
use Rattle.std.proofs.Common.{◌≡◌, ℕ, ℤ, Bool, true, false, if◌then◌else◌, List, [], ◌∷◌, ◌++◌, Option, Some, None, ap, sym, ◌∙◌, codes, flat_map}
use Rattle.std.specs.Prelude.{option_map}
use Rattle.jolie_ast.specs.declared.name.Name.{Name}
use Rattle.jolie_ast.specs.declared.expression.Comparison.{Comparison}
use Rattle.jolie_ast.specs.declared.expression.CastTarget.{CastTarget}
use Rattle.jolie_ast.specs.declared.expression.ExprForm.TheOpen.{ExprForm-F}
use Rattle.jolie_ast.specs.declared.expression.ExprForm.TheFolds.{map-ExprForm}
use Rattle.jolie_ast.specs.declared.expression.Expr.{Expr, out-Expr, roll-out-Expr}
use Rattle.jolie_ast.specs.declared.expression.ExprForm.{ExprForm, roll-ExprForm}
use Rattle.jolie_ast.specs.declared.expression.ExprForm.TheVariants as form
use Rattle.jolie_ast.specs.declared.expression.Factor.{Factor, out-Factor, roll-out-Factor}
use Rattle.jolie_ast.specs.declared.expression.Term.{Term, out-Term, roll-out-Term}
use Rattle.jolie_ast.specs.declared.expression.Member.{Member, out-Member, roll-out-Member}
use Rattle.jolie_ast.specs.declared.expression.Path.{Path, out-Path, roll-out-Path}
use Rattle.jolie_ast.specs.declared.expression.Step.{Step, out-Step, roll-Step, roll-out-Step}
use Rattle.jolie_ast.specs.Spacing.{Token, separated, with_token, after}
use Rattle.jolie_ast.proofs.Spacing.{after_append, mapped_tokens, mapped_separated}
use Rattle.jolie_ast.specs.PrintedExpressions.{Shown, simple, operation, operand, in_parens, in_braces, long_token, quoted_token, truth_token, cast_token, comparison_token, additive_token, multiplicative_token, form_level, form_shown, expr_shown, factor_tokens, term_tokens, member_tokens, path_tokens, step_tokens, expr_tokens, operand_tokens, shown}
use Rattle.jolie_ast.specs.PrintedParts.{index_tokens, int_token}
use Rattle.jolie_ast.proofs.Folds.{form_rolls, expr_rolls, factor_rolls, term_rolls, member_rolls, path_rolls, step_rolls}

-- what is shown of a form, by the form that it is made of
form_made : (x : ExprForm-F ExprForm Expr Factor Member Path Step Term) {f : ExprForm} → roll-ExprForm x ≡ f
    → form_shown f ≡ form_level (map-ExprForm ExprForm Expr Factor Member Path Step Term Shown Shown (List Token) (List Token) (List Token) (List Token) (List Token) form_shown expr_shown factor_tokens member_tokens path_tokens step_tokens term_tokens x)
unfolding form_shown expr_shown factor_tokens member_tokens path_tokens step_tokens term_tokens
form_made x made = ap form_shown (sym made) ∙ form_rolls shown x

pub int_shown : (n : ℤ) → form_shown (form.Int n) ≡ simple (int_token n ∷ [])
int_shown n = form_made (ExprForm-F.Int n) (form.rolls-Int n)

pub long_shown : (n : ℤ) → form_shown (form.Long n) ≡ simple (long_token n ∷ [])
long_shown n = form_made (ExprForm-F.Long n) (form.rolls-Long n)

pub text_shown : (t : List ℕ) → form_shown (form.Str t) ≡ simple (quoted_token t ∷ [])
text_shown t = form_made (ExprForm-F.Str t) (form.rolls-Str t)

pub truth_shown : (b : Bool) → form_shown (form.Bool b) ≡ simple (truth_token b ∷ [])
truth_shown b = form_made (ExprForm-F.Bool b) (form.rolls-Bool b)

pub path_form_shown : (path : Path) → form_shown (form.Path path) ≡ simple (path_tokens path)
path_form_shown path = form_made (ExprForm-F.Path path) (form.rolls-Path path)

pub size_shown : (path : Path) → form_shown (form.Size path) ≡ simple (codes "#" ∷ path_tokens path)
size_shown path = form_made (ExprForm-F.Size path) (form.rolls-Size path)

pub defined_shown : (path : Path) → form_shown (form.IsDefined path) ≡ simple (codes "is_defined" ∷ in_parens (path_tokens path))
defined_shown path = form_made (ExprForm-F.IsDefined path) (form.rolls-IsDefined path)

pub cast_shown : (to : CastTarget) (value : Expr) → form_shown (form.Cast to value) ≡ simple (cast_token to ∷ in_parens (expr_tokens value))
cast_shown to value = form_made (ExprForm-F.Cast to value) (form.rolls-Cast to value)

pub literal_shown : (members : List Member) → form_shown (form.Literal members) ≡ simple (in_braces (separated (codes ",") member_tokens members))
literal_shown members =
    form_made (ExprForm-F.Literal members) (form.rolls-Literal members)
    ∙ ap (λ ts. simple (in_braces ts)) (mapped_separated (codes ",") (λ ts. ts) member_tokens members)

pub minus_shown : (value : Expr) → form_shown (form.Minus value) ≡ simple (codes "-" ∷ operand_tokens value)
minus_shown value = form_made (ExprForm-F.Minus value) (form.rolls-Minus value)

pub not_shown : (value : Expr) → form_shown (form.Not value) ≡ simple (codes "!" ∷ operand_tokens value)
not_shown value = form_made (ExprForm-F.Not value) (form.rolls-Not value)

pub product_shown : (first : Expr) (rest : List Factor) → form_shown (form.Product first rest) ≡ operation (operand_tokens first ++ flat_map factor_tokens rest)
product_shown first rest =
    form_made (ExprForm-F.Product first rest) (form.rolls-Product first rest)
    ∙ ap (λ ts. operation (operand_tokens first ++ ts)) (mapped_tokens (λ ts. ts) factor_tokens rest)

pub sum_shown : (first : Expr) (rest : List Term) → form_shown (form.Sum first rest) ≡ operation (operand_tokens first ++ flat_map term_tokens rest)
sum_shown first rest =
    form_made (ExprForm-F.Sum first rest) (form.rolls-Sum first rest)
    ∙ ap (λ ts. operation (operand_tokens first ++ ts)) (mapped_tokens (λ ts. ts) term_tokens rest)

pub compare_shown : (left : Expr) (compared : Comparison) (right : Expr) → form_shown (form.Compare left compared right) ≡ operation (operand_tokens left ++ comparison_token compared ∷ operand_tokens right)
compare_shown left compared right = form_made (ExprForm-F.Compare left compared right) (form.rolls-Compare left compared right)

pub and_shown : (values : List Expr) → form_shown (form.And values) ≡ operation (separated (codes "&&") operand_tokens values)
and_shown values =
    form_made (ExprForm-F.And values) (form.rolls-And values)
    ∙ ap operation (mapped_separated (codes "&&") operand expr_shown values)

pub or_shown : (values : List Expr) → form_shown (form.Or values) ≡ operation (separated (codes "||") operand_tokens values)
or_shown values =
    form_made (ExprForm-F.Or values) (form.rolls-Or values)
    ∙ ap operation (mapped_separated (codes "||") operand expr_shown values)

pub expr_is : (e : Expr) → expr_shown e ≡ form_shown (out-Expr e).form
unfolding expr_shown factor_tokens form_shown member_tokens path_tokens step_tokens term_tokens
expr_is e =
    ap expr_shown (sym (roll-out-Expr e))
    ∙ expr_rolls shown (out-Expr e)

pub factor_is : (f : Factor) → factor_tokens f ≡ multiplicative_token (out-Factor f).operator ∷ operand_tokens (out-Factor f).operand
unfolding expr_shown factor_tokens form_shown member_tokens path_tokens step_tokens term_tokens
factor_is f =
    ap factor_tokens (sym (roll-out-Factor f))
    ∙ factor_rolls shown (out-Factor f)

pub term_is : (t : Term) → term_tokens t ≡ additive_token (out-Term t).operator ∷ operand_tokens (out-Term t).operand
unfolding expr_shown factor_tokens form_shown member_tokens path_tokens step_tokens term_tokens
term_is t =
    ap term_tokens (sym (roll-out-Term t))
    ∙ term_rolls shown (out-Term t)

pub member_is : (m : Member) → member_tokens m ≡ (out-Member m).name.text ∷ (codes "=" ∷ expr_tokens (out-Member m).value)
unfolding expr_shown factor_tokens form_shown member_tokens path_tokens step_tokens term_tokens
member_is m =
    ap member_tokens (sym (roll-out-Member m))
    ∙ member_rolls shown (out-Member m)

pub path_is : (p : Path) → path_tokens p ≡ step_tokens (out-Path p).first ++ flat_map (λ s. codes "." ∷ step_tokens s) (out-Path p).rest
unfolding expr_shown factor_tokens form_shown member_tokens path_tokens step_tokens term_tokens
path_is p =
    ap path_tokens (sym (roll-out-Path p))
    ∙ path_rolls shown (out-Path p)
    ∙ ap (λ ts. step_tokens (out-Path p).first ++ ts) (mapped_tokens (λ ts. codes "." ∷ ts) step_tokens (out-Path p).rest)

-- a step of its name and its index, if one is written
pub step_made : (name : Name) (index : Option Expr) → step_tokens (roll-Step (record { name = name; index = index })) ≡ name.text ∷ index_tokens (option_map expr_shown index)
unfolding expr_shown factor_tokens form_shown member_tokens path_tokens step_tokens term_tokens
step_made name None = step_rolls shown (record { name = name; index = None })
step_made name (Some e) = step_rolls shown (record { name = name; index = Some e })

pub step_is : (s : Step) → step_tokens s ≡ (out-Step s).name.text ∷ index_tokens (option_map expr_shown (out-Step s).index)
step_is s = ap step_tokens (sym (roll-out-Step s)) ∙ step_made (out-Step s).name (out-Step s).index

-- an operand that is an operation with two or more operands
pub operand_several : (e : Expr) → (form_shown (out-Expr e).form).several ≡ true → operand_tokens e ≡ in_parens (expr_tokens e)
operand_several e h = ap (λ b. if b then in_parens (expr_tokens e) else expr_tokens e) (ap (λ s. s.several) (expr_is e) ∙ h)

-- another operand
pub operand_alone : (e : Expr) → (form_shown (out-Expr e).form).several ≡ false → operand_tokens e ≡ expr_tokens e
operand_alone e h = ap (λ b. if b then in_parens (expr_tokens e) else expr_tokens e) (ap (λ s. s.several) (expr_is e) ∙ h)

-- a step with an index is written by its name, a bracket, the index and a bracket
pub indexed_step : (s : Step) (e d : Expr) (p0 p1 p2 p3 p4 : Option (List ℕ)) → (out-Step s).index ≡ Some e → d ≡ e → p1 ≡ with_token p0 (out-Step s).name.text
    → p2 ≡ with_token p1 (codes "[") → p3 ≡ after p2 (expr_tokens d) → p4 ≡ with_token p3 (codes "]") → p4 ≡ after p0 (step_tokens s)
indexed_step s e d p0 p1 p2 p3 p4 has same name opened inner closed =
    closed
    ∙ ap (λ p. with_token p (codes "]")) (inner ∙ ap (λ p. after p (expr_tokens d)) (opened ∙ ap (λ p. with_token p (codes "[")) name) ∙ ap (λ x. after (with_token (with_token p0 (out-Step s).name.text) (codes "[")) (expr_tokens x)) same)
    ∙ sym (after_append (with_token (with_token p0 (out-Step s).name.text) (codes "[")) (expr_tokens e) (codes "]" ∷ []))
    ∙ ap (after p0) (sym (step_is s ∙ ap (λ i. (out-Step s).name.text ∷ index_tokens (option_map expr_shown i)) has))
