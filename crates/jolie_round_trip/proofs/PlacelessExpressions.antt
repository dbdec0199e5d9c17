-- What is kept of each form of an expression, without its places.
use Rattle.std.proofs.Common.{◌≡◌, ℕ, ℤ, Bool, List, map, Option, Some, None, sym, ap, ◌∙◌}
use Rattle.std.specs.Prelude.{option_map}
use Rattle.jolie_ast.specs.declared.name.Name.{Name}
use Rattle.jolie_ast.specs.declared.expression.Comparison.{Comparison}
use Rattle.jolie_ast.specs.declared.expression.Multiplicative.{Multiplicative}
use Rattle.jolie_ast.specs.declared.expression.Additive.{Additive}
use Rattle.jolie_ast.specs.declared.expression.CastTarget.{CastTarget}
use Rattle.jolie_ast.specs.declared.expression.ExprForm.TheOpen.{ExprForm-F}
use Rattle.jolie_ast.specs.declared.expression.ExprForm.TheFolds.{map-ExprForm, fold-roll-Expr, fold-roll-ExprForm, fold-roll-Factor, fold-roll-Member, fold-roll-Path, fold-roll-Step, fold-roll-Term}
use Rattle.jolie_ast.specs.declared.expression.ExprForm.TheVariants as form
use Rattle.jolie_ast.specs.declared.expression.Expr.{Expr, roll-Expr}
use Rattle.jolie_ast.specs.declared.expression.ExprForm.{ExprForm, roll-ExprForm}
use Rattle.jolie_ast.specs.declared.expression.Factor.{Factor, roll-Factor}
use Rattle.jolie_ast.specs.declared.expression.Term.{Term, roll-Term}
use Rattle.jolie_ast.specs.declared.expression.Member.{Member, roll-Member}
use Rattle.jolie_ast.specs.declared.expression.Path.{Path, roll-Path}
use Rattle.jolie_ast.specs.declared.expression.Step.{Step, roll-Step}
use Rattle.jolie_round_trip.specs.Placeless.{name_placeless, form_placeless, expr_placeless, factor_placeless, term_placeless, member_placeless, path_placeless, step_placeless, form_level, expr_level, factor_level, member_level, path_level, step_level, term_level}

-- ---- the forms

-- a form without its places, by the form that it is made of
form_made : (x : ExprForm-F ExprForm Expr Factor Member Path Step Term) {f : ExprForm} → roll-ExprForm x ≡ f
    → form_placeless f ≡ form_level (map-ExprForm ExprForm Expr Factor Member Path Step Term ExprForm Expr Factor Member Path Step Term form_placeless expr_placeless factor_placeless member_placeless path_placeless step_placeless term_placeless x)
unfolding form_placeless expr_placeless factor_placeless member_placeless path_placeless step_placeless term_placeless
form_made x made = ap form_placeless (sym made) ∙ fold-roll-ExprForm ExprForm Expr Factor Member Path Step Term form_level expr_level factor_level member_level path_level step_level term_level x

pub int_placeless : (n : ℤ) → form_placeless (form.Int n) ≡ form.Int n
int_placeless n =
    form_made (ExprForm-F.Int n) (form.rolls-Int n)
    ∙ form.rolls-Int n

pub long_placeless : (n : ℤ) → form_placeless (form.Long n) ≡ form.Long n
long_placeless n =
    form_made (ExprForm-F.Long n) (form.rolls-Long n)
    ∙ form.rolls-Long n

pub string_placeless : (text : List ℕ) → form_placeless (form.Str text) ≡ form.Str text
string_placeless text =
    form_made (ExprForm-F.Str text) (form.rolls-Str text)
    ∙ form.rolls-Str text

pub truth_placeless : (b : Bool) → form_placeless (form.Bool b) ≡ form.Bool b
truth_placeless b =
    form_made (ExprForm-F.Bool b) (form.rolls-Bool b)
    ∙ form.rolls-Bool b

pub path_form_placeless : (path : Path) → form_placeless (form.Path path) ≡ form.Path (path_placeless path)
path_form_placeless path =
    form_made (ExprForm-F.Path path) (form.rolls-Path path)
    ∙ form.rolls-Path (path_placeless path)

pub size_placeless : (path : Path) → form_placeless (form.Size path) ≡ form.Size (path_placeless path)
size_placeless path =
    form_made (ExprForm-F.Size path) (form.rolls-Size path)
    ∙ form.rolls-Size (path_placeless path)

pub is_defined_placeless : (path : Path) → form_placeless (form.IsDefined path) ≡ form.IsDefined (path_placeless path)
is_defined_placeless path =
    form_made (ExprForm-F.IsDefined path) (form.rolls-IsDefined path)
    ∙ form.rolls-IsDefined (path_placeless path)

pub cast_placeless : (to : CastTarget) (e : Expr) → form_placeless (form.Cast to e) ≡ form.Cast to (expr_placeless e)
cast_placeless to e =
    form_made (ExprForm-F.Cast to e) (form.rolls-Cast to e)
    ∙ form.rolls-Cast to (expr_placeless e)

pub literal_placeless : (ms : List Member) → form_placeless (form.Literal ms) ≡ form.Literal (map member_placeless ms)
literal_placeless ms =
    form_made (ExprForm-F.Literal ms) (form.rolls-Literal ms)
    ∙ form.rolls-Literal (map member_placeless ms)

pub minus_placeless : (e : Expr) → form_placeless (form.Minus e) ≡ form.Minus (expr_placeless e)
minus_placeless e =
    form_made (ExprForm-F.Minus e) (form.rolls-Minus e)
    ∙ form.rolls-Minus (expr_placeless e)

pub not_placeless : (e : Expr) → form_placeless (form.Not e) ≡ form.Not (expr_placeless e)
not_placeless e =
    form_made (ExprForm-F.Not e) (form.rolls-Not e)
    ∙ form.rolls-Not (expr_placeless e)

pub product_placeless : (e : Expr) (qs : List Factor) → form_placeless (form.Product e qs) ≡ form.Product (expr_placeless e) (map factor_placeless qs)
product_placeless e qs =
    form_made (ExprForm-F.Product e qs) (form.rolls-Product e qs)
    ∙ form.rolls-Product (expr_placeless e) (map factor_placeless qs)

pub sum_placeless : (e : Expr) (qs : List Term) → form_placeless (form.Sum e qs) ≡ form.Sum (expr_placeless e) (map term_placeless qs)
sum_placeless e qs =
    form_made (ExprForm-F.Sum e qs) (form.rolls-Sum e qs)
    ∙ form.rolls-Sum (expr_placeless e) (map term_placeless qs)

pub compare_placeless : (e : Expr) (how : Comparison) (d : Expr) → form_placeless (form.Compare e how d) ≡ form.Compare (expr_placeless e) how (expr_placeless d)
compare_placeless e how d =
    form_made (ExprForm-F.Compare e how d) (form.rolls-Compare e how d)
    ∙ form.rolls-Compare (expr_placeless e) how (expr_placeless d)

pub and_placeless : (es : List Expr) → form_placeless (form.And es) ≡ form.And (map expr_placeless es)
and_placeless es =
    form_made (ExprForm-F.And es) (form.rolls-And es)
    ∙ form.rolls-And (map expr_placeless es)

pub or_placeless : (es : List Expr) → form_placeless (form.Or es) ≡ form.Or (map expr_placeless es)
or_placeless es =
    form_made (ExprForm-F.Or es) (form.rolls-Or es)
    ∙ form.rolls-Or (map expr_placeless es)

-- ---- expressions and their parts

pub expression_placeless : (at : ℕ) (f : ExprForm) → expr_placeless (roll-Expr (record { at = at; form = f })) ≡ roll-Expr (record { at = 0; form = form_placeless f })
unfolding form_placeless expr_placeless factor_placeless term_placeless member_placeless path_placeless step_placeless
expression_placeless at f = fold-roll-Expr ExprForm Expr Factor Member Path Step Term form_level expr_level factor_level member_level path_level step_level term_level (record { at = at; form = f })

pub factor_rolled : (operator : Multiplicative) (e : Expr) → factor_placeless (roll-Factor (record { operator = operator; operand = e })) ≡ roll-Factor (record { operator = operator; operand = expr_placeless e })
unfolding form_placeless expr_placeless factor_placeless term_placeless member_placeless path_placeless step_placeless
factor_rolled operator e = fold-roll-Factor ExprForm Expr Factor Member Path Step Term form_level expr_level factor_level member_level path_level step_level term_level (record { operator = operator; operand = e })

pub term_rolled : (operator : Additive) (e : Expr) → term_placeless (roll-Term (record { operator = operator; operand = e })) ≡ roll-Term (record { operator = operator; operand = expr_placeless e })
unfolding form_placeless expr_placeless factor_placeless term_placeless member_placeless path_placeless step_placeless
term_rolled operator e = fold-roll-Term ExprForm Expr Factor Member Path Step Term form_level expr_level factor_level member_level path_level step_level term_level (record { operator = operator; operand = e })

pub member_rolled : (name : Name) (e : Expr) → member_placeless (roll-Member (record { name = name; value = e })) ≡ roll-Member (record { name = name_placeless name; value = expr_placeless e })
unfolding form_placeless expr_placeless factor_placeless term_placeless member_placeless path_placeless step_placeless
member_rolled name e = fold-roll-Member ExprForm Expr Factor Member Path Step Term form_level expr_level factor_level member_level path_level step_level term_level (record { name = name; value = e })

pub path_rolled : (first : Step) (rest : List Step) → path_placeless (roll-Path (record { first = first; rest = rest })) ≡ roll-Path (record { first = step_placeless first; rest = map step_placeless rest })
unfolding form_placeless expr_placeless factor_placeless term_placeless member_placeless path_placeless step_placeless
path_rolled first rest = fold-roll-Path ExprForm Expr Factor Member Path Step Term form_level expr_level factor_level member_level path_level step_level term_level (record { first = first; rest = rest })

pub step_rolled : (name : Name) (index : Option Expr) → step_placeless (roll-Step (record { name = name; index = index })) ≡ roll-Step (record { name = name_placeless name; index = option_map expr_placeless index })
unfolding form_placeless expr_placeless factor_placeless term_placeless member_placeless path_placeless step_placeless
step_rolled name None = fold-roll-Step ExprForm Expr Factor Member Path Step Term form_level expr_level factor_level member_level path_level step_level term_level (record { name = name; index = None })
step_rolled name (Some it) = fold-roll-Step ExprForm Expr Factor Member Path Step Term form_level expr_level factor_level member_level path_level step_level term_level (record { name = name; index = Some it })
