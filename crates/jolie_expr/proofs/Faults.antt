-- Where an operand has no value, what needs it has none either.
use Rattle.std.proofs.Common.{◌≡◌, Option, None, Some, Err, refl, ap, ◌∙◌}
use Rattle.std.specs.Prelude.{option_map, option_and_then, ok_or}
use Rattle.jolie_trees.specs.Data.{Tree}
use Rattle.jolie_trees.specs.declared.root.Root.{Root}
use Rattle.behaviour_tree.specs.Data.{MemberList, no_member_list, member_of, SumParts, no_sum_parts, sum_part, MulParts, no_mul_parts, mul_part}
use Rattle.behaviour_tree.specs.Operators.{both}
use Rattle.behaviour_tree.specs.Values.{literal_from, sum_from, product_from}
use Rattle.jolie_expr.specs.declared.eval_error.EvalError.{EvalError}
use Rattle.jolie_expr.specs.declared.eval_error.EvalError.TheVariants.{ExprFault, Memory}
use Rattle.jolie_expr.specs.Answers.{Answers}

-- an error of an operand is one of what has no value without it
pub passes_on : {A B : Type 0} (v : Option A) (w : Option B) (e : EvalError) → (v ≡ None → w ≡ None) → Answers v (Err e) → Answers w (Err e)
passes_on v w ExprFault faults h = faults h
passes_on v w (Memory cause) faults h = tt

pub map_passes : {A B : Type 0} (f : A → B) (v : Option A) (e : EvalError) → Answers v (Err e) → Answers (option_map f v) (Err e)
map_passes f v e h = passes_on v (option_map f v) e (λ none. ap (option_map f) none) h

pub then_passes : {A B : Type 0} (f : A → Option B) (v : Option A) (e : EvalError) → Answers v (Err e) → Answers (option_and_then f v) (Err e)
then_passes f v e h = passes_on v (option_and_then f v) e (λ none. ap (option_and_then f) none) h

both_none : {A B : Type 0} (f : A → A → Option B) (a : Option A) → both f a None ≡ None
both_none f None = refl
both_none f (Some a) = refl

pub left_passes : {A B : Type 0} (f : A → A → Option B) (a b : Option A) (e : EvalError) → Answers a (Err e) → Answers (both f a b) (Err e)
left_passes f a b e h = passes_on a (both f a b) e (λ none. ap (λ x. both f x b) none) h

pub right_passes : {A B : Type 0} (f : A → A → Option B) (a b : Option A) (e : EvalError) → Answers b (Err e) → Answers (both f a b) (Err e)
right_passes f a b e h = passes_on b (both f a b) e (λ none. ap (both f a) none ∙ both_none f a) h

pub literal_from-none : (store : Tree) (ms : MemberList) → literal_from store None ms ≡ None
literal_from-none store no_member_list = refl
literal_from-none store (member_of name e ms) = literal_from-none store ms

pub sum_from-none : (store : Tree) (es : SumParts) → sum_from store None es ≡ None
sum_from-none store no_sum_parts = refl
sum_from-none store (sum_part op e es) = sum_from-none store es

pub product_from-none : (store : Tree) (es : MulParts) → product_from store None es ≡ None
product_from-none store no_mul_parts = refl
product_from-none store (mul_part op e es) = product_from-none store es

pub sum_passes : (store : Tree) (a : Option Root) (es : SumParts) (e : EvalError) → Answers a (Err e) → Answers (sum_from store a es) (Err e)
sum_passes store a es e h = passes_on a (sum_from store a es) e (λ none. ap (λ x. sum_from store x es) none ∙ sum_from-none store es) h

pub product_passes : (store : Tree) (a : Option Root) (es : MulParts) (e : EvalError) → Answers a (Err e) → Answers (product_from store a es) (Err e)
product_passes store a es e h = passes_on a (product_from store a es) e (λ none. ap (λ x. product_from store x es) none ∙ product_from-none store es) h

-- the fault that stands for a value that is missing
pub fault_of-none : {A : Type 0} (v : Option A) (e : EvalError) → ok_or v ExprFault ≡ Err e → Answers v (Err e)
fault_of-none None e h = let is : e ≡ ExprFault = cc in rw is refl
fault_of-none (Some a) e h = cc
