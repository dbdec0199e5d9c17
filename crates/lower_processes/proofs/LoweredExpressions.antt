-- What the expressions of a text mean at each form.
use Rattle.std.proofs.Common.{◌≡◌, ◌≤◌, ℕ, ℤ, Bool, List, ◌∷◌, length, map, take, Option, None, Some, ap, sym, ◌∙◌}
use Rattle.std.proofs.lemmas.List.{take_all}
use Rattle.std.specs.Prelude.{option_map}
use Rattle.jolie_trees.specs.declared.root.Root.TheVariants as root
use Rattle.jolie_ast.specs.declared.name.Name.{Name}
use Rattle.jolie_ast.specs.declared.expression.Comparison.{Comparison}
use Rattle.jolie_ast.specs.declared.expression.CastTarget.{CastTarget}
use Rattle.jolie_ast.specs.declared.expression.ExprForm.TheOpen.{ExprForm-F}
use Rattle.jolie_ast.specs.declared.expression.ExprForm.TheFolds.{map-ExprForm}
use Rattle.jolie_ast.specs.declared.expression.Expr.{Expr, out-Expr, roll-out-Expr}
use Rattle.jolie_ast.specs.declared.expression.ExprForm.{ExprForm, roll-ExprForm}
use Rattle.jolie_ast.specs.declared.expression.ExprForm.TheVariants as form
use Rattle.jolie_ast.specs.declared.expression.Factor.{Factor, out-Factor, roll-out-Factor}
use Rattle.jolie_ast.specs.declared.expression.Term.{Term, out-Term, roll-out-Term}
use Rattle.jolie_ast.specs.declared.expression.Member.{Member, out-Member, roll-out-Member}
use Rattle.jolie_ast.specs.declared.expression.Path.{Path, out-Path, roll-out-Path}
use Rattle.jolie_ast.specs.declared.expression.Step.{Step, out-Step, roll-Step, roll-out-Step}
use Rattle.behaviour_tree.specs.Data as plain
use Rattle.behaviour_tree.specs.Data.{PathTree, Exp}
use Rattle.behaviour_tree.specs.View.{StepView, SumPartView, MulPartView, MemberView, path_of, exps_of, sum_parts_of, mul_parts_of, member_list_of}
use Rattle.lower_processes.specs.Expressions.{sum_op, mul_op, compare_op, cast_kind, form_level, lowered_expr, lowered_form, lowered_factor, lowered_member, lowered_path, lowered_place, lowered_term, expression_lowering}
use Rattle.jolie_ast.proofs.Folds.{form_rolls, expr_rolls, factor_rolls, term_rolls, member_rolls, path_rolls, step_rolls}

-- what an expression means, by the form that it is made of
form_made : (x : ExprForm-F ExprForm Expr Factor Member Path Step Term) {f : ExprForm} → roll-ExprForm x ≡ f
    → lowered_form f ≡ form_level (map-ExprForm ExprForm Expr Factor Member Path Step Term Exp Exp MulPartView MemberView PathTree StepView SumPartView lowered_form lowered_expr lowered_factor lowered_member lowered_path lowered_place lowered_term x)
unfolding lowered_expr lowered_form lowered_factor lowered_member lowered_path lowered_place lowered_term
form_made x made = ap lowered_form (sym made) ∙ form_rolls expression_lowering x

pub int_lowered : (n : ℤ) → lowered_form (form.Int n) ≡ plain.constant (root.Int n)
int_lowered n = form_made (ExprForm-F.Int n) (form.rolls-Int n)

pub long_lowered : (n : ℤ) → lowered_form (form.Long n) ≡ plain.constant (root.Long n)
long_lowered n = form_made (ExprForm-F.Long n) (form.rolls-Long n)

pub text_lowered : (t : List ℕ) → lowered_form (form.Str t) ≡ plain.constant (root.Text t)
text_lowered t = form_made (ExprForm-F.Str t) (form.rolls-Str t)

pub truth_lowered : (b : Bool) → lowered_form (form.Bool b) ≡ plain.constant (root.Bool b)
truth_lowered b = form_made (ExprForm-F.Bool b) (form.rolls-Bool b)

pub path_form_lowered : (path : Path) → lowered_form (form.Path path) ≡ plain.at_path (lowered_path path)
path_form_lowered path = form_made (ExprForm-F.Path path) (form.rolls-Path path)

pub size_lowered : (path : Path) → lowered_form (form.Size path) ≡ plain.count_at (lowered_path path)
size_lowered path = form_made (ExprForm-F.Size path) (form.rolls-Size path)

pub defined_lowered : (path : Path) → lowered_form (form.IsDefined path) ≡ plain.defined_at (lowered_path path)
defined_lowered path = form_made (ExprForm-F.IsDefined path) (form.rolls-IsDefined path)

pub cast_lowered : (to : CastTarget) (e : Expr) → lowered_form (form.Cast to e) ≡ plain.cast (cast_kind to) (lowered_expr e)
cast_lowered to e = form_made (ExprForm-F.Cast to e) (form.rolls-Cast to e)

pub literal_lowered : (ms : List Member) → lowered_form (form.Literal ms) ≡ plain.literal (member_list_of (map lowered_member ms))
literal_lowered ms = form_made (ExprForm-F.Literal ms) (form.rolls-Literal ms)

pub minus_lowered : (e : Expr) → lowered_form (form.Minus e) ≡ plain.minus (lowered_expr e)
minus_lowered e = form_made (ExprForm-F.Minus e) (form.rolls-Minus e)

pub not_lowered : (e : Expr) → lowered_form (form.Not e) ≡ plain.negation (lowered_expr e)
not_lowered e = form_made (ExprForm-F.Not e) (form.rolls-Not e)

pub product_lowered : (e : Expr) (fs : List Factor) → lowered_form (form.Product e fs) ≡ plain.product (lowered_expr e) (mul_parts_of (map lowered_factor fs))
product_lowered e fs = form_made (ExprForm-F.Product e fs) (form.rolls-Product e fs)

pub sum_lowered : (e : Expr) (ts : List Term) → lowered_form (form.Sum e ts) ≡ plain.sum (lowered_expr e) (sum_parts_of (map lowered_term ts))
sum_lowered e ts = form_made (ExprForm-F.Sum e ts) (form.rolls-Sum e ts)

pub compare_lowered : (l : Expr) (by : Comparison) (r : Expr) → lowered_form (form.Compare l by r) ≡ plain.compared (lowered_expr l) (compare_op by) (lowered_expr r)
compare_lowered l by r = form_made (ExprForm-F.Compare l by r) (form.rolls-Compare l by r)

pub and_lowered : (es : List Expr) → lowered_form (form.And es) ≡ plain.all_of (exps_of (map lowered_expr es))
and_lowered es = form_made (ExprForm-F.And es) (form.rolls-And es)

pub or_lowered : (es : List Expr) → lowered_form (form.Or es) ≡ plain.any_of (exps_of (map lowered_expr es))
or_lowered es = form_made (ExprForm-F.Or es) (form.rolls-Or es)

pub expr_is : (e : Expr) → lowered_expr e ≡ lowered_form (out-Expr e).form
unfolding lowered_expr lowered_form lowered_factor lowered_member lowered_path lowered_place lowered_term
expr_is e =
    ap lowered_expr (sym (roll-out-Expr e))
    ∙ expr_rolls expression_lowering (out-Expr e)

pub factor_is : (f : Factor) → lowered_factor f ≡ record { op = mul_op (out-Factor f).operator; value = lowered_expr (out-Factor f).operand }
unfolding lowered_expr lowered_form lowered_factor lowered_member lowered_path lowered_place lowered_term
factor_is f =
    ap lowered_factor (sym (roll-out-Factor f))
    ∙ factor_rolls expression_lowering (out-Factor f)

pub term_is : (t : Term) → lowered_term t ≡ record { op = sum_op (out-Term t).operator; value = lowered_expr (out-Term t).operand }
unfolding lowered_expr lowered_form lowered_factor lowered_member lowered_path lowered_place lowered_term
term_is t =
    ap lowered_term (sym (roll-out-Term t))
    ∙ term_rolls expression_lowering (out-Term t)

pub member_is : (m : Member) → lowered_member m ≡ record { name = (out-Member m).name.text; value = lowered_expr (out-Member m).value }
unfolding lowered_expr lowered_form lowered_factor lowered_member lowered_path lowered_place lowered_term
member_is m =
    ap lowered_member (sym (roll-out-Member m))
    ∙ member_rolls expression_lowering (out-Member m)

pub path_is : (p : Path) → lowered_path p ≡ path_of (lowered_place (out-Path p).first ∷ map lowered_place (out-Path p).rest)
unfolding lowered_expr lowered_form lowered_factor lowered_member lowered_path lowered_place lowered_term
path_is p =
    ap lowered_path (sym (roll-out-Path p))
    ∙ path_rolls expression_lowering (out-Path p)

-- a path whose steps were read one after the other
pub steps_read : (p : Path) (views : List StepView) (steps : List Step) (n : ℕ) → views ≡ lowered_place (out-Path p).first ∷ map lowered_place (take n steps) → length steps ≤ n → steps ≡ (out-Path p).rest → path_of views ≡ lowered_path p
steps_read p views steps n read all rest =
    ap path_of (read ∙ ap (λ ss. lowered_place (out-Path p).first ∷ map lowered_place ss) (take_all n steps all ∙ rest))
    ∙ sym (path_is p)

-- a step of its name and its index, if one is written
pub step_made : (name : Name) (index : Option Expr) → lowered_place (roll-Step (record { name = name; index = index })) ≡ record { name = name.text; index = option_map lowered_expr index }
unfolding lowered_expr lowered_form lowered_factor lowered_member lowered_path lowered_place lowered_term
step_made name None = step_rolls expression_lowering (record { name = name; index = None })
step_made name (Some e) = step_rolls expression_lowering (record { name = name; index = Some e })

pub step_is : (s : Step) → lowered_place s ≡ record { name = (out-Step s).name.text; index = option_map lowered_expr (out-Step s).index }
step_is s = ap lowered_place (sym (roll-out-Step s)) ∙ step_made (out-Step s).name (out-Step s).index

-- a step with no index
pub bare_step : (s : Step) → (out-Step s).index ≡ None → lowered_place s ≡ record { name = (out-Step s).name.text; index = None }
bare_step s none = step_is s ∙ ap (λ i. record { name = (out-Step s).name.text; index = option_map lowered_expr i }) none

-- a step with an index
pub indexed_step : (s : Step) (e : Expr) → (out-Step s).index ≡ Some e → lowered_place s ≡ record { name = (out-Step s).name.text; index = Some (lowered_expr e) }
indexed_step s e some = step_is s ∙ ap (λ i. record { name = (out-Step s).name.text; index = option_map lowered_expr i }) some
