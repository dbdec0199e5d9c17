-- What expressions of a program stand for, at each form.
use Rattle.std.proofs.Common.{◌≡◌, ℕ, List, map, None, Some, Vec, Box, Global, ap, sym, ◌∙◌}
use Rattle.jolie_trees.specs.declared.root.Root.{Root}
use Rattle.behaviour_tree.specs.declared.expr.SumOp.{SumOp}
use Rattle.behaviour_tree.specs.declared.expr.MulOp.{MulOp}
use Rattle.behaviour_tree.specs.declared.expr.CompareOp.{CompareOp}
use Rattle.behaviour_tree.specs.declared.expr.CastKind.{CastKind}
use Rattle.behaviour_tree.specs.declared.expr.Expr.{Expr, roll-Expr}
use Rattle.behaviour_tree.specs.declared.expr.Expr.TheVariants as form
use Rattle.behaviour_tree.specs.declared.expr.Expr.TheOpen.{Expr-F}
use Rattle.behaviour_tree.specs.declared.expr.Expr.TheFolds.{map-Expr, fold-roll-Expr, fold-roll-Member, fold-roll-MulPart, fold-roll-PathExpr, fold-roll-PathStep, fold-roll-SumPart}
use Rattle.behaviour_tree.specs.declared.expr.Member.{Member, roll-Member}
use Rattle.behaviour_tree.specs.declared.expr.MulPart.{MulPart, roll-MulPart}
use Rattle.behaviour_tree.specs.declared.expr.PathExpr.{PathExpr, roll-PathExpr}
use Rattle.behaviour_tree.specs.declared.expr.PathStep.{PathStep, roll-PathStep}
use Rattle.behaviour_tree.specs.declared.expr.SumPart.{SumPart, roll-SumPart}
use Rattle.behaviour_tree.specs.Data as plain
use Rattle.behaviour_tree.specs.Data.{PathTree, Exp}
use Rattle.behaviour_tree.specs.View.{StepView, SumPartView, MulPartView, MemberView, path_of, exps_of, sum_parts_of, mul_parts_of, member_list_of, expr_level, member_level, mul_part_level, path_level, step_level, sum_part_level, expr_view, member_view, mul_part_view, path_view, step_view, sum_part_view}

-- what an expression stands for, by the form that it is made of
expression_made : (x : Expr-F Expr Member MulPart PathExpr PathStep SumPart) {e : Expr} → roll-Expr x ≡ e
    → expr_view e ≡ expr_level (map-Expr Expr Member MulPart PathExpr PathStep SumPart Exp MemberView MulPartView PathTree StepView SumPartView expr_view member_view mul_part_view path_view step_view sum_part_view x)
expression_made x made = ap expr_view (sym made) ∙ fold-roll-Expr Exp MemberView MulPartView PathTree StepView SumPartView expr_level member_level mul_part_level path_level step_level sum_part_level x

pub value_seen : (r : Root) → expr_view (form.Value r) ≡ plain.constant r
value_seen r = expression_made (Expr-F.Value r) (form.rolls-Value r)

pub path_form_seen : (p : PathExpr) → expr_view (form.Path p) ≡ plain.at_path (path_view p)
path_form_seen p = expression_made (Expr-F.Path p) (form.rolls-Path p)

pub count_seen : (p : PathExpr) → expr_view (form.Count p) ≡ plain.count_at (path_view p)
count_seen p = expression_made (Expr-F.Count p) (form.rolls-Count p)

pub defined_seen : (p : PathExpr) → expr_view (form.IsDefined p) ≡ plain.defined_at (path_view p)
defined_seen p = expression_made (Expr-F.IsDefined p) (form.rolls-IsDefined p)

pub literal_seen : (ms : Vec Member Global) → expr_view (form.Literal ms) ≡ plain.literal (member_list_of (map member_view ms.items))
literal_seen ms = expression_made (Expr-F.Literal ms) (form.rolls-Literal ms)

pub or_seen : (es : Vec Expr Global) → expr_view (form.Or es) ≡ plain.any_of (exps_of (map expr_view es.items))
or_seen es = expression_made (Expr-F.Or es) (form.rolls-Or es)

pub and_seen : (es : Vec Expr Global) → expr_view (form.And es) ≡ plain.all_of (exps_of (map expr_view es.items))
and_seen es = expression_made (Expr-F.And es) (form.rolls-And es)

pub compare_seen : (l : Box Expr Global) (by : CompareOp) (r : Box Expr Global) → expr_view (form.Compare l by r) ≡ plain.compared (expr_view l.value) by (expr_view r.value)
compare_seen l by r = expression_made (Expr-F.Compare l by r) (form.rolls-Compare l by r)

pub sum_seen : (e : Box Expr Global) (ps : Vec SumPart Global) → expr_view (form.Sum e ps) ≡ plain.sum (expr_view e.value) (sum_parts_of (map sum_part_view ps.items))
sum_seen e ps = expression_made (Expr-F.Sum e ps) (form.rolls-Sum e ps)

pub product_seen : (e : Box Expr Global) (ps : Vec MulPart Global) → expr_view (form.Product e ps) ≡ plain.product (expr_view e.value) (mul_parts_of (map mul_part_view ps.items))
product_seen e ps = expression_made (Expr-F.Product e ps) (form.rolls-Product e ps)

pub minus_seen : (e : Box Expr Global) → expr_view (form.Minus e) ≡ plain.minus (expr_view e.value)
minus_seen e = expression_made (Expr-F.Minus e) (form.rolls-Minus e)

pub not_seen : (e : Box Expr Global) → expr_view (form.Not e) ≡ plain.negation (expr_view e.value)
not_seen e = expression_made (Expr-F.Not e) (form.rolls-Not e)

pub cast_seen : (to : CastKind) (e : Box Expr Global) → expr_view (form.Cast to e) ≡ plain.cast to (expr_view e.value)
cast_seen to e = expression_made (Expr-F.Cast to e) (form.rolls-Cast to e)

pub member_seen : (name : List ℕ) (value : Expr) → member_view (roll-Member (record { name = name; value = value })) ≡ record { name = name; value = expr_view value }
member_seen name value = fold-roll-Member Exp MemberView MulPartView PathTree StepView SumPartView expr_level member_level mul_part_level path_level step_level sum_part_level (record { name = name; value = value })

pub mul_part_seen : (op : MulOp) (value : Expr) → mul_part_view (roll-MulPart (record { op = op; value = value })) ≡ record { op = op; value = expr_view value }
mul_part_seen op value = fold-roll-MulPart Exp MemberView MulPartView PathTree StepView SumPartView expr_level member_level mul_part_level path_level step_level sum_part_level (record { op = op; value = value })

pub sum_part_seen : (op : SumOp) (value : Expr) → sum_part_view (roll-SumPart (record { op = op; value = value })) ≡ record { op = op; value = expr_view value }
sum_part_seen op value = fold-roll-SumPart Exp MemberView MulPartView PathTree StepView SumPartView expr_level member_level mul_part_level path_level step_level sum_part_level (record { op = op; value = value })

pub path_seen : (steps : Vec PathStep Global) → path_view (roll-PathExpr (record { steps = steps })) ≡ path_of (map step_view steps.items)
path_seen steps = fold-roll-PathExpr Exp MemberView MulPartView PathTree StepView SumPartView expr_level member_level mul_part_level path_level step_level sum_part_level (record { steps = steps })

pub bare_step_seen : (name : List ℕ) → step_view (roll-PathStep (record { name = name; index = None })) ≡ record { name = name; index = None }
bare_step_seen name = fold-roll-PathStep Exp MemberView MulPartView PathTree StepView SumPartView expr_level member_level mul_part_level path_level step_level sum_part_level (record { name = name; index = None })

pub indexed_step_seen : (name : List ℕ) (e : Expr) → step_view (roll-PathStep (record { name = name; index = Some e })) ≡ record { name = name; index = Some (expr_view e) }
indexed_step_seen name e = fold-roll-PathStep Exp MemberView MulPartView PathTree StepView SumPartView expr_level member_level mul_part_level path_level step_level sum_part_level (record { name = name; index = Some e })
