-- Expressions of every level are printed so that they are read again.
use Rattle.std.proofs.Common.{◌≡◌, List, [], ◌∷◌, ◌++◌, map, Option, Some, None, refl, subst, codes}
use Rattle.std.specs.Prelude.{option_map, flat_map}
use Rattle.jolie_ast.specs.declared.expression.Expr.{Expr}
use Rattle.jolie_ast.specs.declared.expression.ExprForm.TheVariants as form
use Rattle.jolie_ast.specs.declared.expression.Factor.{Factor, roll-Factor}
use Rattle.jolie_ast.specs.declared.expression.Term.{Term, roll-Term}
use Rattle.jolie_ast.specs.Spacing as spacing
use Rattle.jolie_ast.specs.Spacing.{Token}
use Rattle.jolie_ast.specs.PrintedExpressions.{multiplicative_token, additive_token, comparison_token, expr_tokens, operand_tokens, factor_tokens, term_tokens}
use Rattle.jolie_ast.specs.PrintedParts.{maybe}
use Rattle.jolie_ast.proofs.PrintedExpressions.{product_shown, sum_shown, compare_shown, and_shown, or_shown}
use Rattle.jolie_parse.specs.declared.class.Class.{Class}
use Rattle.jolie_parse.specs.ClassNames as c
use Rattle.jolie_parse.specs.Classes.{Spelled, class}
use Rattle.jolie_parse.specs.Meanings as means_as
use Rattle.jolie_parse.specs.Syntax.{Part, Meant, Syn, Lang, Derives, both, many, behind, separated, optional}
use Rattle.jolie_parse.specs.Grammar.{unary, factor, product, term, sum, comparand, comparison, conjunction, expr}
use Rattle.jolie_round_trip.specs.Placeless.{expr_placeless, factor_placeless, term_placeless}
use Rattle.jolie_round_trip.proofs.Lexemes.{IsValid, Every, Every-left}
use Rattle.jolie_round_trip.proofs.Echo.{Echo, pair_kept, echo_means}
use Rattle.jolie_round_trip.proofs.Parts.{Inner, Printable}
use Rattle.jolie_round_trip.proofs.PlacelessExpressions.{factor_rolled, term_rolled}
use Rattle.jolie_round_trip.proofs.PrintedForms.{factor_printed, term_printed}
use Rattle.jolie_round_trip.proofs.Reprints.{Reprints, reprints_both, reprints_means, reprints_many}
use Rattle.jolie_round_trip.proofs.ReprintsTokens.{reprints_among}
use Rattle.jolie_round_trip.proofs.ReprintsForms.{reprints_separated, reprints_optional}
use Rattle.jolie_round_trip.proofs.ExprLevels.{product_kept, product_same, sum_kept, sum_same, comparand_kept, comparison_kept, comparison_same, and_kept, and_same, or_kept, or_same, as_product, as_sum, as_comparison, as_conjunction, as_expr, product_as_expr, printable_operation}
use Rattle.jolie_round_trip.proofs.EchoPrimaries.{Shows, at_shown}
use Rattle.jolie_round_trip.proofs.EchoOperands.{unary_shows}

-- an operand is a phrase of the level
abbrev TakesOperands : Syn Expr → Type 0
TakesOperands s = (v : Expr) (x : List Token) → Echo expr_placeless unary v x → Echo expr_placeless s v x

module _ {w : (r : Part) → Lang (Meant r)} where
  operands : {s : Syn Expr} → Shows w s → TakesOperands s → Reprints w s expr_placeless operand_tokens
  operands a lift = record { echo = λ ts v d valid. let e = a.echo ts v d valid in lift v (operand_tokens v) e.as_operand }

  -- the first of two phrases
  front_shows : {A : Type 0} {s : Syn Expr} → Shows w s → (t : Syn A) (ts : List Spelled) (q : Expr × A) → Derives w (both s t) ts q → Every IsValid ts → Printable q.0
  front_shows a t ts q d valid = a.echo d.0 q.0 d.3 (Every-left IsValid d.0 d.1 (subst (Every IsValid) d.2 valid))

  first_shows : {s : Syn Expr} → Shows w s → (k : Class) (ts : List Spelled) (e : Expr) (es : List Expr) → Derives w (separated k s) ts (e ∷ es) → Every IsValid ts → Printable e
  first_shows {s} a k ts e es d valid =
      let same : d.0.0 ≡ e = cc in
      subst Printable same (front_shows a (many (behind k s)) ts d.0 d.2 valid)

module _ {w : (r : Part) → Lang (Meant r)} (inner : Inner w) where
  -- ---- products

  factor_reprints : Reprints w factor factor_placeless factor_tokens
  unfolding factor
  factor_reprints =
      reprints_means means_as.factor_of factor_placeless factor_tokens (λ z. roll-Factor (record { operator = means_as.multiplicative_of z.0; operand = z.1 }))
      (λ q. factor_rolled (means_as.multiplicative_of (class q.0)) q.1) (λ q. factor_printed (means_as.multiplicative_of (class q.0)) q.1)
      (reprints_both
      (reprints_among (c.sign_star ∷ c.sign_slash ∷ c.sign_percent ∷ []) (λ k. multiplicative_token (means_as.multiplicative_of k)) ((refl, refl), ((refl, refl), ((refl, refl), tt))))
      (operands (unary_shows inner) (λ v x a. a)))

  product_operands : Reprints w (both unary (many factor)) (pair_kept expr_placeless (map factor_placeless)) (λ q. operand_tokens q.0 ++ flat_map factor_tokens q.1)
  product_operands = reprints_both (operands (unary_shows inner) (λ v x a. a)) (reprints_many factor_reprints)

  product_printable : (ts : List Spelled) (q : Expr × List Factor) → Derives w (both unary (many factor)) ts q → Every IsValid ts → Printable (means_as.product_of q)
  unfolding product
  product_printable ts (e, []) d valid = front_shows (unary_shows inner) (many factor) ts (e, []) d valid
  product_printable ts (e, (q ∷ qs)) d valid =
      let x : List Token = operand_tokens e ++ flat_map factor_tokens (q ∷ qs) in
      let a = echo_means (product_operands.echo ts (e, (q ∷ qs)) d valid) expr_placeless means_as.product_of product_kept product_same in
      printable_operation (means_as.product_of (e, (q ∷ qs))) x (at_shown (means_as.start e) (form.Product e (q ∷ qs)) _ (product_shown e (q ∷ qs)))
      (product_as_expr (means_as.product_of (e, (q ∷ qs))) x a)

  product_shows : Shows w product
  unfolding product
  product_shows = record { echo = λ ts v d valid. subst Printable d.1 (product_printable ts d.0 d.2 valid) }

  -- ---- sums

  product_operand : Reprints w product expr_placeless operand_tokens
  product_operand = operands product_shows as_product

  term_reprints : Reprints w term term_placeless term_tokens
  unfolding term
  term_reprints =
      reprints_means means_as.term_of term_placeless term_tokens (λ z. roll-Term (record { operator = means_as.additive_of z.0; operand = z.1 }))
      (λ q. term_rolled (means_as.additive_of (class q.0)) q.1) (λ q. term_printed (means_as.additive_of (class q.0)) q.1)
      (reprints_both
      (reprints_among (c.sign_plus ∷ c.sign_minus ∷ []) (λ k. additive_token (means_as.additive_of k)) ((refl, refl), ((refl, refl), tt)))
      product_operand)

  sum_operands : Reprints w (both product (many term)) (pair_kept expr_placeless (map term_placeless)) (λ q. operand_tokens q.0 ++ flat_map term_tokens q.1)
  sum_operands = reprints_both product_operand (reprints_many term_reprints)

  sum_printable : (ts : List Spelled) (q : Expr × List Term) → Derives w (both product (many term)) ts q → Every IsValid ts → Printable (means_as.sum_of q)
  unfolding sum
  sum_printable ts (e, []) d valid = front_shows product_shows (many term) ts (e, []) d valid
  sum_printable ts (e, (q ∷ qs)) d valid =
      let x : List Token = operand_tokens e ++ flat_map term_tokens (q ∷ qs) in
      let v : Expr = means_as.sum_of (e, (q ∷ qs)) in
      let a : Echo expr_placeless sum v x = echo_means (sum_operands.echo ts (e, (q ∷ qs)) d valid) expr_placeless means_as.sum_of sum_kept sum_same in
      printable_operation v x (at_shown (means_as.start e) (form.Sum e (q ∷ qs)) _ (sum_shown e (q ∷ qs))) (as_expr v x (as_conjunction v x (as_comparison v x a)))

  sum_shows : Shows w sum
  unfolding sum
  sum_shows = record { echo = λ ts v d valid. subst Printable d.1 (sum_printable ts d.0 d.2 valid) }

  -- ---- comparisons

  sum_operand : Reprints w sum expr_placeless operand_tokens
  sum_operand = operands sum_shows (λ v x a. as_sum v x (as_product v x a))

  -- the tokens of what an operand is compared with
  abbrev comparand_tokens : Spelled × Expr → List Token
  comparand_tokens q = comparison_token (means_as.comparison_of (class q.0)) ∷ operand_tokens q.1

  comparand_reprints : Reprints w comparand comparand_kept comparand_tokens
  unfolding comparand
  comparand_reprints =
      reprints_both
      (reprints_among (c.sign_equal ∷ c.sign_not_equal ∷ c.sign_less ∷ c.sign_at_most ∷ c.sign_greater ∷ c.sign_at_least ∷ []) (λ k. comparison_token (means_as.comparison_of k))
      ((refl, refl), ((refl, refl), ((refl, refl), ((refl, refl), ((refl, refl), ((refl, refl), tt)))))))
      sum_operand

  comparison_operands : Reprints w (both sum (optional comparand)) (pair_kept expr_placeless (option_map comparand_kept)) (λ q. operand_tokens q.0 ++ maybe (option_map comparand_tokens q.1))
  comparison_operands = reprints_both sum_operand (reprints_optional comparand_reprints)

  comparison_printable : (ts : List Spelled) (q : Expr × Option (Spelled × Expr)) → Derives w (both sum (optional comparand)) ts q → Every IsValid ts → Printable (means_as.comparison_made q)
  unfolding comparison
  comparison_printable ts (e, None) d valid = front_shows sum_shows (optional comparand) ts (e, None) d valid
  comparison_printable ts (e, Some q) d valid =
      let x : List Token = operand_tokens e ++ comparand_tokens q in
      let v : Expr = means_as.comparison_made (e, Some q) in
      let a : Echo expr_placeless comparison v x = echo_means (comparison_operands.echo ts (e, Some q) d valid) expr_placeless means_as.comparison_made comparison_kept comparison_same in
      printable_operation v x (at_shown (means_as.start e) (form.Compare e (means_as.comparison_of (class q.0)) q.1) _ (compare_shown e (means_as.comparison_of (class q.0)) q.1))
      (as_expr v x (as_conjunction v x a))

  comparison_shows : Shows w comparison
  unfolding comparison
  comparison_shows = record { echo = λ ts v d valid. subst Printable d.1 (comparison_printable ts d.0 d.2 valid) }

  -- ---- `&&` and `||`

  and_operands : Reprints w (separated c.sign_and comparison) (map expr_placeless) (spacing.separated (codes "&&") operand_tokens)
  and_operands = reprints_separated c.sign_and refl (operands comparison_shows (λ v x a. as_comparison v x (as_sum v x (as_product v x a))))

  and_printable : (ts : List Spelled) (es : List Expr) → Derives w (separated c.sign_and comparison) ts es → Every IsValid ts → Printable (means_as.and_of es)
  unfolding conjunction
  and_printable ts [] d valid = cc
  and_printable ts (e ∷ []) d valid = first_shows comparison_shows c.sign_and ts e [] d valid
  and_printable ts (e ∷ f ∷ es) d valid =
      let x : List Token = spacing.separated (codes "&&") operand_tokens (e ∷ f ∷ es) in
      let v : Expr = means_as.and_of (e ∷ f ∷ es) in
      let a : Echo expr_placeless conjunction v x = echo_means (and_operands.echo ts (e ∷ f ∷ es) d valid) expr_placeless means_as.and_of and_kept and_same in
      printable_operation v x (at_shown (means_as.start e) (form.And (e ∷ f ∷ es)) _ (and_shown (e ∷ f ∷ es))) (as_expr v x a)

  conjunction_shows : Shows w conjunction
  unfolding conjunction
  conjunction_shows = record { echo = λ ts v d valid. subst Printable d.1 (and_printable ts d.0 d.2 valid) }

  or_operands : Reprints w (separated c.sign_or conjunction) (map expr_placeless) (spacing.separated (codes "||") operand_tokens)
  or_operands = reprints_separated c.sign_or refl (operands conjunction_shows (λ v x a. as_conjunction v x (as_comparison v x (as_sum v x (as_product v x a)))))

  or_printable : (ts : List Spelled) (es : List Expr) → Derives w (separated c.sign_or conjunction) ts es → Every IsValid ts → Printable (means_as.or_of es)
  unfolding expr
  or_printable ts [] d valid = cc
  or_printable ts (e ∷ []) d valid = first_shows conjunction_shows c.sign_or ts e [] d valid
  or_printable ts (e ∷ f ∷ es) d valid =
      let x : List Token = spacing.separated (codes "||") operand_tokens (e ∷ f ∷ es) in
      let v : Expr = means_as.or_of (e ∷ f ∷ es) in
      let a : Echo expr_placeless expr v x = echo_means (or_operands.echo ts (e ∷ f ∷ es) d valid) expr_placeless means_as.or_of or_kept or_same in
      printable_operation v x (at_shown (means_as.start e) (form.Or (e ∷ f ∷ es)) _ (or_shown (e ∷ f ∷ es))) a

  pub expr_shows : Shows w expr
  unfolding expr
  expr_shows = record { echo = λ ts v d valid. subst Printable d.1 (or_printable ts d.0 d.2 valid) }

  pub expr_reprints : Reprints w expr expr_placeless expr_tokens
  expr_reprints = record { echo = λ ts v d valid. let e = expr_shows.echo ts v d valid in e.alone }
