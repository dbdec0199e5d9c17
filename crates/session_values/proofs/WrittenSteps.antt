-- The steps of paths whose indices are written as numbers, one by one.
use Rattle.std.proofs.Common.{◌≡◌, ◌+◌, ◌<◌, ◌≤◌, ◌∷◌, ◌++◌, ℕ, [], List, map, drop, length, get_or, sym, refl, append_assoc}
use Rattle.std.proofs.lemmas.List.{append-nil, drop_all}
use Rattle.jolie_trees.specs.declared.path.Step.{Step}
use Rattle.behaviour_tree.specs.Data.{Exp, PathTree}
use Rattle.behaviour_tree.specs.View.{MemberView, MulPartView, StepView, SumPartView, expr_level, member_level, mul_part_level, path_level, step_level, sum_part_level, path_of, path_view, step_of, step_view}
use Rattle.behaviour_tree.specs.declared.expr.Expr.TheFolds.{fold_out-PathExpr}
use Rattle.behaviour_tree.specs.declared.expr.PathExpr.{PathExpr, out-PathExpr}
use Rattle.behaviour_tree.specs.declared.expr.PathStep.{PathStep}
use Rattle.session_calculus.specs.Effects.{written_steps}
use Rattle.jolie_expr.proofs.Lists.{taken_off}

-- a path is the path of its steps
pub path_of_steps : (p : PathExpr) → path_of (map step_view (out-PathExpr p).steps.items) ≡ path_view p
path_of_steps p = sym (fold_out-PathExpr Exp MemberView MulPartView PathTree StepView SumPartView expr_level member_level mul_part_level path_level step_level sum_part_level p)

-- the steps from a place on
abbrev pub steps_from : List PathStep → ℕ → List Step
steps_from xs i = written_steps (path_of (map step_view (drop i xs)))

-- a step is what the path at hand begins with
abbrev pub IsWritten : PathStep → Step → Type 0
IsWritten x s = (p : PathTree) → written_steps (step_of (step_view x).name (step_view x).index p) ≡ s ∷ written_steps p

pub goes_on : (xs : List PathStep) (i : ℕ) (x : PathStep) (done : List Step) (s : Step) → i < length xs → x ≡ get_or xs i x → IsWritten x s
    → (done ++ s ∷ []) ++ steps_from xs (i + 1) ≡ done ++ steps_from xs i
goes_on xs i x done s h is w =
    let e : steps_from xs i ≡ s ∷ steps_from xs (i + 1) = rw (taken_off xs i x h is) (w (path_of (map step_view (drop (i + 1) xs)))) in
    rw (e, append_assoc) refl

-- with no step left, what was written is the whole path
pub path_written : (xs : List PathStep) (i : ℕ) (done : List Step) → length xs ≤ i → done ++ steps_from xs i ≡ done
path_written xs i done h = rw (drop_all i xs h) (append-nil done)
