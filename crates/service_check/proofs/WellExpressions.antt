-- What the expressions and paths of a text mean is well formed where they are formed: each `||` and `&&` has two operands at least.
use Rattle.std.proofs.Common.{◌≡◌, ℕ, Bool, true, List, [], ◌∷◌, map, Option, None, Some, refl, ap, sym, subst, ◌∙◌}
use Rattle.std.specs.Prelude.{◌&&◌}
use Rattle.std.proofs.lemmas.Bool.{and_from, and_parts, false≢true}
use Rattle.jolie_ast.specs.declared.name.Name.{Name}
use Rattle.jolie_ast.specs.declared.expression.Additive.{Additive}
use Rattle.jolie_ast.specs.declared.expression.Multiplicative.{Multiplicative}
use Rattle.jolie_ast.specs.declared.expression.ExprForm.TheOpen.{ExprForm-F}
use Rattle.jolie_ast.specs.declared.expression.ExprForm.TheFolds.{map-ExprForm, map-Step, ind-Expr, ind-Path}
use Rattle.jolie_ast.specs.declared.expression.Expr.{Expr, roll-Expr}
use Rattle.jolie_ast.specs.declared.expression.ExprForm.{ExprForm, roll-ExprForm}
use Rattle.jolie_ast.specs.declared.expression.Factor.{Factor, roll-Factor}
use Rattle.jolie_ast.specs.declared.expression.Member.{Member, roll-Member}
use Rattle.jolie_ast.specs.declared.expression.Path.{Path, roll-Path}
use Rattle.jolie_ast.specs.declared.expression.Step.{Step, roll-Step}
use Rattle.jolie_ast.specs.declared.expression.Term.{Term, roll-Term}
use Rattle.jolie_ast.specs.Formed as tree
use Rattle.jolie_ast.specs.Formed.{has_one, has_two, each, option_all, form_formed, expr_formed, factor_formed, member_formed, path_formed, step_formed, term_formed}
use Rattle.jolie_ast.proofs.Formed.{factor_forms, member_forms, placed_forms, term_forms}
use Rattle.behaviour_tree.specs.Data.{Exp, PathTree}
use Rattle.behaviour_tree.specs.View.{StepView, SumPartView, MulPartView, MemberView, path_of, step_of, exps_of, sum_parts_of, mul_parts_of, member_list_of}
use Rattle.behaviour_tree.specs.FormedExpressions.{is_exp, is_path, are_exps, are_two_exps, are_sum_parts, are_mul_parts, are_members}
use Rattle.lower_processes.specs.Expressions as means
use Rattle.lower_processes.specs.Expressions.{lowered_expr, lowered_path, lowered_form, lowered_factor, lowered_member, lowered_place, lowered_term, lowered_if_written}
use Rattle.jolie_ast.proofs.Folds.{form_rolls, path_rolls, step_rolls, expr_rolls, factor_rolls, term_rolls, member_rolls}

-- ---- one level of each

-- what a form means
form_means : (x : ExprForm-F ExprForm Expr Factor Member Path Step Term) → lowered_form (roll-ExprForm x)
    ≡ means.form_level (map-ExprForm ExprForm Expr Factor Member Path Step Term Exp Exp MulPartView MemberView PathTree StepView SumPartView lowered_form lowered_expr lowered_factor lowered_member lowered_path lowered_place lowered_term x)
unfolding lowered_form lowered_expr lowered_factor lowered_member lowered_path lowered_place lowered_term
form_means x = form_rolls means.expression_lowering x

-- whether it is formed
form_is : (x : ExprForm-F ExprForm Expr Factor Member Path Step Term) → form_formed (roll-ExprForm x)
    ≡ tree.form_level (map-ExprForm ExprForm Expr Factor Member Path Step Term Bool Bool Bool Bool Bool Bool Bool form_formed expr_formed factor_formed member_formed path_formed step_formed term_formed x)
unfolding form_formed expr_formed factor_formed member_formed path_formed step_formed term_formed
form_is x = form_rolls tree.expressions_formed x

expr_means : (at : ℕ) (form : ExprForm) → lowered_expr (roll-Expr (record { at = at; form = form })) ≡ lowered_form form
unfolding lowered_form lowered_expr lowered_factor lowered_member lowered_path lowered_place lowered_term
expr_means at form = expr_rolls means.expression_lowering (record { at = at; form = form })

factor_means : (operator : Multiplicative) (operand : Expr) → (lowered_factor (roll-Factor (record { operator = operator; operand = operand }))).value ≡ lowered_expr operand
unfolding lowered_form lowered_expr lowered_factor lowered_member lowered_path lowered_place lowered_term
factor_means operator operand =
    ap (λ (v : MulPartView). v.value) (factor_rolls means.expression_lowering (record { operator = operator; operand = operand }))

term_means : (operator : Additive) (operand : Expr) → (lowered_term (roll-Term (record { operator = operator; operand = operand }))).value ≡ lowered_expr operand
unfolding lowered_form lowered_expr lowered_factor lowered_member lowered_path lowered_place lowered_term
term_means operator operand =
    ap (λ (v : SumPartView). v.value) (term_rolls means.expression_lowering (record { operator = operator; operand = operand }))

member_means : (name : Name) (value : Expr) → (lowered_member (roll-Member (record { name = name; value = value }))).value ≡ lowered_expr value
unfolding lowered_form lowered_expr lowered_factor lowered_member lowered_path lowered_place lowered_term
member_means name value =
    ap (λ (v : MemberView). v.value) (member_rolls means.expression_lowering (record { name = name; value = value }))

path_means : (first : Step) (rest : List Step) → lowered_path (roll-Path (record { first = first; rest = rest })) ≡ path_of (lowered_place first ∷ map lowered_place rest)
unfolding lowered_form lowered_expr lowered_factor lowered_member lowered_path lowered_place lowered_term
path_means first rest = path_rolls means.expression_lowering (record { first = first; rest = rest })

path_is : (first : Step) (rest : List Step) → path_formed (roll-Path (record { first = first; rest = rest })) ≡ (step_formed first && each (map step_formed rest))
unfolding form_formed expr_formed factor_formed member_formed path_formed step_formed term_formed
path_is first rest = path_rolls tree.expressions_formed (record { first = first; rest = rest })

-- an index that may be written
abbrev index_formed : Option Exp → Bool
index_formed o = option_all is_exp o

-- ---- what is known of each

abbrev FormWell : ExprForm → Type 0
FormWell x = form_formed x ≡ true → is_exp (lowered_form x) ≡ true

abbrev ExprWell : Expr → Type 0
ExprWell x = expr_formed x ≡ true → is_exp (lowered_expr x) ≡ true

abbrev FactorWell : Factor → Type 0
FactorWell x = factor_formed x ≡ true → is_exp (lowered_factor x).value ≡ true

abbrev MemberWell : Member → Type 0
MemberWell x = member_formed x ≡ true → is_exp (lowered_member x).value ≡ true

abbrev PathWell : Path → Type 0
PathWell x = path_formed x ≡ true → is_path (lowered_path x) ≡ true

abbrev StepWell : Step → Type 0
StepWell x = step_formed x ≡ true → index_formed (lowered_place x).index ≡ true

abbrev TermWell : Term → Type 0
TermWell x = term_formed x ≡ true → is_exp (lowered_term x).value ≡ true

abbrev KnownForm : Type 0
KnownForm = (x : ExprForm) × FormWell x

abbrev KnownExpr : Type 0
KnownExpr = (x : Expr) × ExprWell x

abbrev KnownFactor : Type 0
KnownFactor = (x : Factor) × FactorWell x

abbrev KnownMember : Type 0
KnownMember = (x : Member) × MemberWell x

abbrev KnownPath : Type 0
KnownPath = (x : Path) × PathWell x

abbrev KnownStep : Type 0
KnownStep = (x : Step) × StepWell x

abbrev KnownTerm : Type 0
KnownTerm = (x : Term) × TermWell x

-- ---- lists

exps_known : (es : List KnownExpr) → each (map expr_formed (map (λ e. e.0) es)) ≡ true → are_exps (exps_of (map lowered_expr (map (λ e. e.0) es))) ≡ true
exps_known [] h = refl
exps_known (e ∷ es) h =
    let parts : (expr_formed e.0 ≡ true) × (each (map expr_formed (map (λ e. e.0) es)) ≡ true) = and_parts (expr_formed e.0) (each (map expr_formed (map (λ e. e.0) es))) h in
    and_from (is_exp (lowered_expr e.0)) (are_exps (exps_of (map lowered_expr (map (λ e. e.0) es)))) (e.1 parts.0) (exps_known es parts.1)

two_known : (es : List KnownExpr) → (has_two (map expr_formed (map (λ e. e.0) es)) && each (map expr_formed (map (λ e. e.0) es))) ≡ true → are_two_exps (exps_of (map lowered_expr (map (λ e. e.0) es))) ≡ true
two_known [] h = absurd (false≢true h)
two_known (e ∷ []) h = absurd (false≢true h)
two_known (e ∷ (f ∷ es)) h = exps_known (e ∷ (f ∷ es)) h

factors_known : (fs : List KnownFactor) → each (map factor_formed (map (λ e. e.0) fs)) ≡ true → are_mul_parts (mul_parts_of (map lowered_factor (map (λ e. e.0) fs))) ≡ true
factors_known [] h = refl
factors_known (f ∷ fs) h =
    let parts : (factor_formed f.0 ≡ true) × (each (map factor_formed (map (λ e. e.0) fs)) ≡ true) = and_parts (factor_formed f.0) (each (map factor_formed (map (λ e. e.0) fs))) h in
    and_from (is_exp (lowered_factor f.0).value) (are_mul_parts (mul_parts_of (map lowered_factor (map (λ e. e.0) fs)))) (f.1 parts.0) (factors_known fs parts.1)

terms_known : (ts : List KnownTerm) → each (map term_formed (map (λ e. e.0) ts)) ≡ true → are_sum_parts (sum_parts_of (map lowered_term (map (λ e. e.0) ts))) ≡ true
terms_known [] h = refl
terms_known (t ∷ ts) h =
    let parts : (term_formed t.0 ≡ true) × (each (map term_formed (map (λ e. e.0) ts)) ≡ true) = and_parts (term_formed t.0) (each (map term_formed (map (λ e. e.0) ts))) h in
    and_from (is_exp (lowered_term t.0).value) (are_sum_parts (sum_parts_of (map lowered_term (map (λ e. e.0) ts)))) (t.1 parts.0) (terms_known ts parts.1)

members_known : (ms : List KnownMember) → each (map member_formed (map (λ e. e.0) ms)) ≡ true → are_members (member_list_of (map lowered_member (map (λ e. e.0) ms))) ≡ true
members_known [] h = refl
members_known (m ∷ ms) h =
    let parts : (member_formed m.0 ≡ true) × (each (map member_formed (map (λ e. e.0) ms)) ≡ true) = and_parts (member_formed m.0) (each (map member_formed (map (λ e. e.0) ms))) h in
    and_from (is_exp (lowered_member m.0).value) (are_members (member_list_of (map lowered_member (map (λ e. e.0) ms)))) (m.1 parts.0) (members_known ms parts.1)

step_first : (name : List ℕ) (index : Option Exp) (rest : PathTree) → index_formed index ≡ true → is_path rest ≡ true → is_path (step_of name index rest) ≡ true
step_first name None rest h k = k
step_first name (Some e) rest h k = and_from (is_exp e) (is_path rest) h k

steps_known : (ss : List KnownStep) → each (map step_formed (map (λ e. e.0) ss)) ≡ true → is_path (path_of (map lowered_place (map (λ e. e.0) ss))) ≡ true
steps_known [] h = refl
steps_known (s ∷ ss) h =
    let parts : (step_formed s.0 ≡ true) × (each (map step_formed (map (λ e. e.0) ss)) ≡ true) = and_parts (step_formed s.0) (each (map step_formed (map (λ e. e.0) ss))) h in
    step_first (lowered_place s.0).name (lowered_place s.0).index (path_of (map lowered_place (map (λ e. e.0) ss))) (s.1 parts.0) (steps_known ss parts.1)

-- ---- one level, of which the parts are known

abbrev form_of : ExprForm-F KnownForm KnownExpr KnownFactor KnownMember KnownPath KnownStep KnownTerm → ExprForm-F ExprForm Expr Factor Member Path Step Term
form_of y = map-ExprForm KnownForm KnownExpr KnownFactor KnownMember KnownPath KnownStep KnownTerm ExprForm Expr Factor Member Path Step Term (λ e. e.0) (λ e. e.0) (λ e. e.0) (λ e. e.0) (λ e. e.0) (λ e. e.0) (λ e. e.0) y

form_known : (y : ExprForm-F KnownForm KnownExpr KnownFactor KnownMember KnownPath KnownStep KnownTerm) → FormWell (roll-ExprForm (form_of y))
form_known (ExprForm-F.Int n) h = ap is_exp (form_means (ExprForm-F.Int n))
form_known (ExprForm-F.Long n) h = ap is_exp (form_means (ExprForm-F.Long n))
form_known (ExprForm-F.Str text) h = ap is_exp (form_means (ExprForm-F.Str text))
form_known (ExprForm-F.Bool b) h = ap is_exp (form_means (ExprForm-F.Bool b))
form_known (ExprForm-F.Path (p, k)) h = ap is_exp (form_means (ExprForm-F.Path p)) ∙ k (sym (form_is (ExprForm-F.Path p)) ∙ h)
form_known (ExprForm-F.Size (p, k)) h = ap is_exp (form_means (ExprForm-F.Size p)) ∙ k (sym (form_is (ExprForm-F.Size p)) ∙ h)
form_known (ExprForm-F.IsDefined (p, k)) h = ap is_exp (form_means (ExprForm-F.IsDefined p)) ∙ k (sym (form_is (ExprForm-F.IsDefined p)) ∙ h)
form_known (ExprForm-F.Cast to (e, k)) h = ap is_exp (form_means (ExprForm-F.Cast to e)) ∙ k (sym (form_is (ExprForm-F.Cast to e)) ∙ h)
form_known (ExprForm-F.Literal members) h =
    let ms : List Member = map (λ e. e.0) members in
    ap is_exp (form_means (ExprForm-F.Literal ms)) ∙ members_known members (sym (form_is (ExprForm-F.Literal ms)) ∙ h)
form_known (ExprForm-F.Minus (e, k)) h = ap is_exp (form_means (ExprForm-F.Minus e)) ∙ k (sym (form_is (ExprForm-F.Minus e)) ∙ h)
form_known (ExprForm-F.Not (e, k)) h = ap is_exp (form_means (ExprForm-F.Not e)) ∙ k (sym (form_is (ExprForm-F.Not e)) ∙ h)
form_known (ExprForm-F.Product (e, k) factors) h =
    let fs : List Factor = map (λ e. e.0) factors in
    let both = and_parts (expr_formed e) (has_one (map factor_formed fs) && each (map factor_formed fs)) (sym (form_is (ExprForm-F.Product e fs)) ∙ h) in
    let parts = and_parts (has_one (map factor_formed fs)) (each (map factor_formed fs)) both.1 in
    ap is_exp (form_means (ExprForm-F.Product e fs)) ∙ and_from (is_exp (lowered_expr e)) (are_mul_parts (mul_parts_of (map lowered_factor fs))) (k both.0) (factors_known factors parts.1)
form_known (ExprForm-F.Sum (e, k) terms) h =
    let ts : List Term = map (λ e. e.0) terms in
    let both = and_parts (expr_formed e) (has_one (map term_formed ts) && each (map term_formed ts)) (sym (form_is (ExprForm-F.Sum e ts)) ∙ h) in
    let parts = and_parts (has_one (map term_formed ts)) (each (map term_formed ts)) both.1 in
    ap is_exp (form_means (ExprForm-F.Sum e ts)) ∙ and_from (is_exp (lowered_expr e)) (are_sum_parts (sum_parts_of (map lowered_term ts))) (k both.0) (terms_known terms parts.1)
form_known (ExprForm-F.Compare (l, j) by (r, k)) h =
    let parts : (expr_formed l ≡ true) × (expr_formed r ≡ true) = and_parts (expr_formed l) (expr_formed r) (sym (form_is (ExprForm-F.Compare l by r)) ∙ h) in
    ap is_exp (form_means (ExprForm-F.Compare l by r)) ∙ and_from (is_exp (lowered_expr l)) (is_exp (lowered_expr r)) (j parts.0) (k parts.1)
form_known (ExprForm-F.And operands) h =
    let es : List Expr = map (λ e. e.0) operands in
    ap is_exp (form_means (ExprForm-F.And es)) ∙ two_known operands (sym (form_is (ExprForm-F.And es)) ∙ h)
form_known (ExprForm-F.Or operands) h =
    let es : List Expr = map (λ e. e.0) operands in
    ap is_exp (form_means (ExprForm-F.Or es)) ∙ two_known operands (sym (form_is (ExprForm-F.Or es)) ∙ h)

expr_known : (at : ℕ) (form : KnownForm) → ExprWell (roll-Expr (record { at = at; form = form.0 }))
expr_known at (form, k) h = ap is_exp (expr_means at form) ∙ k (sym (placed_forms at form) ∙ h)

factor_known : (operator : Multiplicative) (operand : KnownExpr) → FactorWell (roll-Factor (record { operator = operator; operand = operand.0 }))
factor_known operator (e, k) h = ap is_exp (factor_means operator e) ∙ k (sym (factor_forms operator e) ∙ h)

term_known : (operator : Additive) (operand : KnownExpr) → TermWell (roll-Term (record { operator = operator; operand = operand.0 }))
term_known operator (e, k) h = ap is_exp (term_means operator e) ∙ k (sym (term_forms operator e) ∙ h)

member_known : (name : Name) (value : KnownExpr) → MemberWell (roll-Member (record { name = name; value = value.0 }))
member_known name (e, k) h = ap is_exp (member_means name e) ∙ k (sym (member_forms name e) ∙ h)

path_known : (first : KnownStep) (rest : List KnownStep) → PathWell (roll-Path (record { first = first.0; rest = map (λ e. e.0) rest }))
path_known first rest h = ap is_path (path_means first.0 (map (λ e. e.0) rest)) ∙ steps_known (first ∷ rest) (sym (path_is first.0 (map (λ e. e.0) rest)) ∙ h)

abbrev step_by : Name → Option KnownExpr → Step
step_by name index = roll-Step (map-Step KnownForm KnownExpr KnownFactor KnownMember KnownPath KnownStep KnownTerm ExprForm Expr Factor Member Path Step Term (λ e. e.0) (λ e. e.0) (λ e. e.0) (λ e. e.0) (λ e. e.0) (λ e. e.0) (λ e. e.0) (record { name = name; index = index }))

step_known : (name : Name) (index : Option KnownExpr) → StepWell (step_by name index)
unfolding lowered_form lowered_expr lowered_factor lowered_member lowered_path lowered_place lowered_term form_formed expr_formed factor_formed member_formed path_formed step_formed term_formed
step_known name None h =
    ap (λ (v : StepView). index_formed v.index) (step_rolls means.expression_lowering (record { name = name; index = None }))
step_known name (Some (e, k)) h =
    ap (λ (v : StepView). index_formed v.index) (step_rolls means.expression_lowering (record { name = name; index = Some e }))
    ∙ k (sym (step_rolls tree.expressions_formed (record { name = name; index = Some e })) ∙ h)

-- ---- by induction

-- an expression that is formed
pub expr_well : (x : Expr) → expr_formed x ≡ true → is_exp (lowered_expr x) ≡ true
expr_well = ind-Expr FormWell ExprWell FactorWell MemberWell PathWell StepWell TermWell
    (λ x y is. subst (λ z. FormWell (roll-ExprForm z)) is (form_known y))
    (λ x y is. subst (λ z. ExprWell (roll-Expr z)) is (expr_known y.at y.form))
    (λ x y is. subst (λ z. FactorWell (roll-Factor z)) is (factor_known y.operator y.operand))
    (λ x y is. subst (λ z. MemberWell (roll-Member z)) is (member_known y.name y.value))
    (λ x y is. subst (λ z. PathWell (roll-Path z)) is (path_known y.first y.rest))
    (λ x y is. subst (λ z. StepWell (roll-Step z)) is (step_known y.name y.index))
    (λ x y is. subst (λ z. TermWell (roll-Term z)) is (term_known y.operator y.operand))

-- a path that is formed
pub path_well : (x : Path) → path_formed x ≡ true → is_path (lowered_path x) ≡ true
path_well = ind-Path FormWell ExprWell FactorWell MemberWell PathWell StepWell TermWell
    (λ x y is. subst (λ z. FormWell (roll-ExprForm z)) is (form_known y))
    (λ x y is. subst (λ z. ExprWell (roll-Expr z)) is (expr_known y.at y.form))
    (λ x y is. subst (λ z. FactorWell (roll-Factor z)) is (factor_known y.operator y.operand))
    (λ x y is. subst (λ z. MemberWell (roll-Member z)) is (member_known y.name y.value))
    (λ x y is. subst (λ z. PathWell (roll-Path z)) is (path_known y.first y.rest))
    (λ x y is. subst (λ z. StepWell (roll-Step z)) is (step_known y.name y.index))
    (λ x y is. subst (λ z. TermWell (roll-Term z)) is (term_known y.operator y.operand))

-- an expression that may be left out
pub written_well : (x : Option Expr) → option_all expr_formed x ≡ true → is_exp (lowered_if_written x) ≡ true
written_well None h = refl
written_well (Some x) h = expr_well x h
