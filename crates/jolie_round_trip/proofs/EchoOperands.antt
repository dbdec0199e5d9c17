-- Operands of several tokens are printed so that they are read again, and so is each operand.
use Rattle.std.proofs.Common.{◌≡◌, Bool, true, false, if◌then◌else◌, [], ◌∷◌, ◌++◌, inl, inr, refl, subst, codes}
use Rattle.jolie_ast.specs.declared.expression.Expr.{Expr}
use Rattle.jolie_ast.specs.declared.expression.ExprForm.{ExprForm}
use Rattle.jolie_ast.specs.declared.expression.ExprForm.TheVariants as form
use Rattle.jolie_ast.specs.Spacing.{Token}
use Rattle.jolie_ast.specs.PrintedExpressions.{simple, form_shown, operand_tokens, cast_token}
use Rattle.jolie_ast.proofs.PrintedExpressions.{path_form_shown, size_shown, defined_shown, cast_shown, literal_shown, minus_shown, not_shown}
use Rattle.jolie_parse.specs.ClassNames as c
use Rattle.jolie_parse.specs.Classes.{class, place, same}
use Rattle.jolie_parse.specs.Made as made
use Rattle.jolie_parse.specs.Meanings as means_as
use Rattle.jolie_parse.specs.Meanings.{expression}
use Rattle.jolie_parse.specs.Syntax.{Part, an_expression, an_operand, a_path, some_members, Meant, Lang}
use Rattle.jolie_parse.specs.Grammar.{path_value, size, defined_test, cast, grouped, literal, primary, prefixed_operand, unary}
use Rattle.jolie_round_trip.specs.Placeless.{form_placeless, expr_placeless}
use Rattle.jolie_round_trip.proofs.Lexemes.{IsValid, Every, Every-left}
use Rattle.jolie_round_trip.proofs.Parts.{Inner, Printable}
use Rattle.jolie_round_trip.proofs.PlacelessExpressions.{path_form_placeless, size_placeless, is_defined_placeless, cast_placeless, literal_placeless, minus_placeless, not_placeless}
use Rattle.jolie_round_trip.proofs.Reprints.{reprints_both}
use Rattle.jolie_round_trip.proofs.ReprintsTokens.{reprints_one, reprints_among, reprints_inside, reprints_between, reprints_prefix}
use Rattle.jolie_round_trip.proofs.ReprintsPaths.{path_reprints}
use Rattle.jolie_round_trip.proofs.ExprLevels.{printable_begun}
use Rattle.jolie_round_trip.proofs.EchoPrimaries.{Shows, shows_simple, at_placeless, at_shown, whole_shows, long_shows, text_shows, truth_shows, path_operand, size_operand, defined_operand, cast_operand, literal_operand, prefixed_is_operand}

-- ---- `-` and `!`

-- the form of an operand behind its prefix
abbrev prefix_form : Bool → Expr → ExprForm
prefix_form minus e = if minus then form.Minus e else form.Not e

-- the sign of a prefix
abbrev prefix_token : Bool → Token
prefix_token minus = if minus then codes "-" else codes "!"

prefix_placeless : (minus : Bool) (e : Expr) → form_placeless (prefix_form minus e) ≡ prefix_form minus (expr_placeless e)
prefix_placeless true e = minus_placeless e
prefix_placeless false e = not_placeless e

prefix_shown : (minus : Bool) (e : Expr) → form_shown (prefix_form minus e) ≡ simple (prefix_token minus ∷ operand_tokens e)
prefix_shown true e = minus_shown e
prefix_shown false e = not_shown e

module _ {w : (r : Part) → Lang (Meant r)} (inner : Inner w) where
  path_value_shows : Shows w path_value
  unfolding path_value
  path_value_shows =
      shows_simple made.path_expression (λ p. expression 0 (form.Path p))
      (λ p. at_placeless (means_as.path_start p) (form.Path p) _ (path_form_placeless p))
      (λ p. at_shown (means_as.path_start p) (form.Path p) _ (path_form_shown p))
      path_operand (path_reprints inner)

  size_shows : Shows w size
  unfolding size
  size_shows =
      shows_simple (λ q. expression (place q.0) (form.Size q.1)) (λ z. expression 0 (form.Size z.1))
      (λ q. at_placeless (place q.0) (form.Size q.1) _ (size_placeless q.1))
      (λ q. at_shown (place q.0) (form.Size q.1) _ (size_shown q.1))
      size_operand (reprints_both (reprints_one c.sign_hash refl) (path_reprints inner))

  defined_shows : Shows w defined_test
  unfolding defined_test
  defined_shows =
      shows_simple (λ q. expression (place q.0) (form.IsDefined q.1)) (λ z. expression 0 (form.IsDefined z.1))
      (λ q. at_placeless (place q.0) (form.IsDefined q.1) _ (is_defined_placeless q.1))
      (λ q. at_shown (place q.0) (form.IsDefined q.1) _ (defined_shown q.1))
      defined_operand (reprints_both (reprints_one c.the_is_defined refl) (reprints_between inner c.sign_open_paren a_path c.sign_close_paren refl refl))

  cast_shows : Shows w cast
  unfolding cast
  cast_shows =
      shows_simple (λ q. expression (place q.0) (form.Cast (means_as.cast_target (class q.0)) q.1)) (λ z. expression 0 (form.Cast (means_as.cast_target z.0) z.1))
      (λ q. at_placeless (place q.0) (form.Cast (means_as.cast_target (class q.0)) q.1) _ (cast_placeless (means_as.cast_target (class q.0)) q.1))
      (λ q. at_shown (place q.0) (form.Cast (means_as.cast_target (class q.0)) q.1) _ (cast_shown (means_as.cast_target (class q.0)) q.1))
      cast_operand
      (reprints_both
      (reprints_among (c.the_int ∷ c.the_long ∷ c.the_string ∷ []) (λ k. cast_token (means_as.cast_target k)) ((refl, refl), ((refl, refl), ((refl, refl), tt))))
      (reprints_between inner c.sign_open_paren an_expression c.sign_close_paren refl refl))

  literal_shows : Shows w literal
  unfolding literal
  literal_shows =
      shows_simple (λ q. expression (place q.0) (form.Literal q.1)) (λ z. expression 0 (form.Literal z))
      (λ q. at_placeless (place q.0) (form.Literal q.1) _ (literal_placeless q.1))
      (λ q. at_shown (place q.0) (form.Literal q.1) _ (literal_shown q.1))
      literal_operand (reprints_inside inner c.sign_open_brace some_members c.sign_close_brace refl refl)

  prefixed_shows : Shows w prefixed_operand
  unfolding prefixed_operand
  prefixed_shows =
      shows_simple means_as.prefixed_of (λ z. expression 0 (prefix_form (same z.0 c.sign_minus) z.1))
      (λ q. at_placeless (place q.0) (prefix_form (same (class q.0) c.sign_minus) q.1) _ (prefix_placeless (same (class q.0) c.sign_minus) q.1))
      (λ q. at_shown (place q.0) (prefix_form (same (class q.0) c.sign_minus) q.1) _ (prefix_shown (same (class q.0) c.sign_minus) q.1))
      prefixed_is_operand
      (reprints_prefix inner (c.sign_minus ∷ c.sign_not ∷ []) an_operand (λ k. prefix_token (same k c.sign_minus)) ((refl, refl), ((refl, refl), tt)))

  -- what stands in parentheses is itself, of another place
  grouped_shows : Shows w grouped
  unfolding grouped
  grouped_shows = record {
    echo = λ ts v d valid.
        let parts : Every IsValid (d.0.0 ∷ (d.2.1 ++ d.2.0 ∷ [])) = subst (Every IsValid) d.2.4 valid in
        let part : Printable d.0.1 = inner an_expression d.2.1 d.0.1 d.2.5 (Every-left IsValid d.2.1 (d.2.0 ∷ []) parts.1) in
        subst Printable d.1 (printable_begun (place d.0.0) d.0.1 part);
  }

  primary_shows : Shows w primary
  unfolding primary
  primary_shows = record {
    echo = λ ts v d valid. elim d [
      | inl a ↦ whole_shows.echo ts v a valid
      | inr (inl a) ↦ long_shows.echo ts v a valid
      | inr (inr (inl a)) ↦ text_shows.echo ts v a valid
      | inr (inr (inr (inl a))) ↦ truth_shows.echo ts v a valid
      | inr (inr (inr (inr (inl a)))) ↦ path_value_shows.echo ts v a valid
      | inr (inr (inr (inr (inr (inl a))))) ↦ size_shows.echo ts v a valid
      | inr (inr (inr (inr (inr (inr (inl a)))))) ↦ defined_shows.echo ts v a valid
      | inr (inr (inr (inr (inr (inr (inr (inl a))))))) ↦ cast_shows.echo ts v a valid
      | inr (inr (inr (inr (inr (inr (inr (inr (inl a)))))))) ↦ grouped_shows.echo ts v a valid
      | inr (inr (inr (inr (inr (inr (inr (inr (inr a)))))))) ↦ literal_shows.echo ts v a valid
    ];
  }

  pub unary_shows : Shows w unary
  unfolding unary
  unary_shows = record {
    echo = λ ts v d valid. elim d [
      | inl a ↦ prefixed_shows.echo ts v a valid
      | inr a ↦ primary_shows.echo ts v a valid
    ];
  }
