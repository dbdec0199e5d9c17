-- Operands in a row, one by one.
use Rattle.std.proofs.Common.{◌≡◌, ℕ, ◌+◌, ◌<◌, List, map, drop, length, get_or, Option, Some, None, Result, Err, sym, ap, ◌∙◌}
use Rattle.std.specs.Result.{IsErrAnd}
use Rattle.std.proofs.lemmas.Result.{err_from_is_err_and}
use Rattle.jolie_trees.specs.Data.{Tree}
use Rattle.jolie_trees.specs.declared.root.Root.{Root}
use Rattle.behaviour_tree.specs.Data.{Exp, PathTree}
use Rattle.behaviour_tree.specs.Operators.{both, sum_of_two, product_of_two}
use Rattle.behaviour_tree.specs.Values.{value, root_in, joined, literal_from, sum_from, product_from}
use Rattle.behaviour_tree.specs.View.{MemberView, MulPartView, StepView, SumPartView, expr_level, member_level, mul_part_level, path_level, step_level, sum_part_level, expr_view, member_view, mul_part_view, sum_part_view, member_list_of, mul_parts_of, sum_parts_of}
use Rattle.behaviour_tree.specs.declared.expr.Expr.TheFolds.{fold_out-Member, fold_out-MulPart, fold_out-SumPart}
use Rattle.behaviour_tree.specs.declared.expr.Member.{Member, out-Member}
use Rattle.behaviour_tree.specs.declared.expr.MulPart.{MulPart, out-MulPart}
use Rattle.behaviour_tree.specs.declared.expr.SumPart.{SumPart, out-SumPart}
use Rattle.jolie_expr.specs.declared.eval_error.EvalError.{EvalError}
use Rattle.jolie_expr.specs.Answers.{Answers}
use Rattle.jolie_expr.proofs.Faults.{passes_on, literal_from-none, sum_from-none, product_from-none}
use Rattle.jolie_expr.proofs.Lists.{taken_off}

-- ---- what an operator and the next operand make of the value so far, with what comes of the operands behind

-- an operand that has no value leaves the whole without one
pub operand_stops : {A B : Type 0} (rest : Option A → Option B) (f : A → A → Option A) (a : A) (v : Option A) (whole : Option B) (r : Result B EvalError) (e : EvalError)
    → rest (both f (Some a) v) ≡ whole → rest None ≡ None → IsErrAnd r (λ y. y ≡ e) → Answers v (Err e) → Answers whole r
operand_stops rest f a v whole r e is none h s =
    let p = err_from_is_err_and r h in
    rw (p.1, p.2) (passes_on v whole e (λ n. sym is ∙ ap (λ x. rest (both f (Some a) x)) n ∙ none) s)

-- so does an operator
pub operator_stops : {A B : Type 0} (rest : Option A → Option B) (f : A → A → Option A) (a b : A) (v : Option A) (whole : Option B) (r : Result B EvalError) (e : EvalError)
    → rest (both f (Some a) v) ≡ whole → rest None ≡ None → v ≡ Some b → IsErrAnd r (λ y. y ≡ e) → Answers (f a b) (Err e) → Answers whole r
operator_stops rest f a b v whole r e is none there h s =
    let p = err_from_is_err_and r h in
    rw (p.1, p.2) (passes_on (f a b) whole e (λ n. sym is ∙ ap (λ x. rest (both f (Some a) x)) there ∙ ap rest n ∙ none) s)

-- where both have a value, the operands behind go on with it
pub goes_on : {A B : Type 0} (rest : Option A → Option B) (f : A → A → Option A) (a b c : A) (v : Option A) (whole : Option B)
    → rest (both f (Some a) v) ≡ whole → v ≡ Some b → f a b ≡ Some c → rest (Some c) ≡ whole
goes_on rest f a b c v whole is there done = sym (ap rest done) ∙ sym (ap (λ x. rest (both f (Some a) x)) there) ∙ is

-- ---- the operands behind the one at i

abbrev pub members_behind : Tree → List Member → ℕ → Option Tree → Option Tree
members_behind store xs i t = literal_from store t (member_list_of (map member_view (drop (i + 1) xs)))

abbrev pub sum_behind : Tree → List SumPart → ℕ → Option Root → Option Root
sum_behind store xs i a = sum_from store a (sum_parts_of (map sum_part_view (drop (i + 1) xs)))

abbrev pub product_behind : Tree → List MulPart → ℕ → Option Root → Option Root
product_behind store xs i a = product_from store a (mul_parts_of (map mul_part_view (drop (i + 1) xs)))

-- where there is no value so far, none comes of them
pub members_behind-none : (store : Tree) (xs : List Member) (i : ℕ) → members_behind store xs i None ≡ None
members_behind-none store xs i = literal_from-none store (member_list_of (map member_view (drop (i + 1) xs)))

pub sum_behind-none : (store : Tree) (xs : List SumPart) (i : ℕ) → sum_behind store xs i None ≡ None
sum_behind-none store xs i = sum_from-none store (sum_parts_of (map sum_part_view (drop (i + 1) xs)))

pub product_behind-none : (store : Tree) (xs : List MulPart) (i : ℕ) → product_behind store xs i None ≡ None
product_behind-none store xs i = product_from-none store (mul_parts_of (map mul_part_view (drop (i + 1) xs)))

seen_member : (x : Member) → member_view x ≡ record { name = (out-Member x).name; value = expr_view (out-Member x).value }
seen_member x = fold_out-Member Exp MemberView MulPartView PathTree StepView SumPartView expr_level member_level mul_part_level path_level step_level sum_part_level x

seen_sum_part : (x : SumPart) → sum_part_view x ≡ record { op = (out-SumPart x).op; value = expr_view (out-SumPart x).value }
seen_sum_part x = fold_out-SumPart Exp MemberView MulPartView PathTree StepView SumPartView expr_level member_level mul_part_level path_level step_level sum_part_level x

seen_mul_part : (x : MulPart) → mul_part_view x ≡ record { op = (out-MulPart x).op; value = expr_view (out-MulPart x).value }
seen_mul_part x = fold_out-MulPart Exp MemberView MulPartView PathTree StepView SumPartView expr_level member_level mul_part_level path_level step_level sum_part_level x

pub literal_from-taken : (store : Tree) (xs : List Member) (i : ℕ) (x : Member) (t : Option Tree) → i < length xs → x ≡ get_or xs i x
    → literal_from store t (member_list_of (map member_view (drop i xs)))
    ≡ members_behind store xs i (joined (out-Member x).name t (value store (expr_view (out-Member x).value)))
literal_from-taken store xs i x t h is =
    ap (λ ys. literal_from store t (member_list_of (map member_view ys))) (taken_off xs i x h is)
    ∙ ap (λ (v : MemberView). members_behind store xs i (joined v.name t (value store v.value))) (seen_member x)

pub sum_from-taken : (store : Tree) (xs : List SumPart) (i : ℕ) (x : SumPart) (a : Option Root) → i < length xs → x ≡ get_or xs i x
    → sum_from store a (sum_parts_of (map sum_part_view (drop i xs)))
    ≡ sum_behind store xs i (both (sum_of_two (out-SumPart x).op) a (root_in (value store (expr_view (out-SumPart x).value))))
sum_from-taken store xs i x a h is =
    ap (λ ys. sum_from store a (sum_parts_of (map sum_part_view ys))) (taken_off xs i x h is)
    ∙ ap (λ (v : SumPartView). sum_behind store xs i (both (sum_of_two v.op) a (root_in (value store v.value)))) (seen_sum_part x)

pub product_from-taken : (store : Tree) (xs : List MulPart) (i : ℕ) (x : MulPart) (a : Option Root) → i < length xs → x ≡ get_or xs i x
    → product_from store a (mul_parts_of (map mul_part_view (drop i xs)))
    ≡ product_behind store xs i (both (product_of_two (out-MulPart x).op) a (root_in (value store (expr_view (out-MulPart x).value))))
product_from-taken store xs i x a h is =
    ap (λ ys. product_from store a (mul_parts_of (map mul_part_view ys))) (taken_off xs i x h is)
    ∙ ap (λ (v : MulPartView). product_behind store xs i (both (product_of_two v.op) a (root_in (value store v.value)))) (seen_mul_part x)
