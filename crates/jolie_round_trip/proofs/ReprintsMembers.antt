-- Members of literals are printed so that they are read again.
use Rattle.std.proofs.Common.{◌≡◌, ℕ, List, map, Option, Some, None, refl, codes}
use Rattle.std.specs.Prelude.{option_map}
use Rattle.jolie_ast.specs.declared.expression.Expr.{Expr}
use Rattle.jolie_ast.specs.declared.expression.Member.{roll-Member}
use Rattle.jolie_ast.specs.Spacing as spacing
use Rattle.jolie_ast.specs.Spacing.{Token}
use Rattle.jolie_ast.specs.PrintedExpressions.{member_tokens}
use Rattle.jolie_ast.specs.PrintedParts.{maybe}
use Rattle.jolie_parse.specs.ClassNames as c
use Rattle.jolie_parse.specs.Meanings as means_as
use Rattle.jolie_parse.specs.Syntax.{Part, Meant, Lang}
use Rattle.jolie_parse.specs.Grammar.{one, member, members}
use Rattle.jolie_parse.specs.Made.{list_of}
use Rattle.jolie_round_trip.specs.Placeless.{member_placeless}
use Rattle.jolie_round_trip.proofs.Parts.{Inner}
use Rattle.jolie_round_trip.proofs.PlacelessExpressions.{member_rolled}
use Rattle.jolie_round_trip.proofs.PrintedForms.{member_printed}
use Rattle.jolie_round_trip.proofs.Reprints.{Reprints, reprints_both, reprints_means}
use Rattle.jolie_round_trip.proofs.ReprintsForms.{reprints_behind, reprints_separated, reprints_optional, reprints_dropped}
use Rattle.jolie_round_trip.proofs.ReprintsPaths.{name_spelled, word_reprints}
use Rattle.jolie_round_trip.proofs.EchoExpressions.{expr_reprints}

pub list_kept : {A B : Type 0} (f : A → B) (xs : Option (List A)) → map f (list_of xs) ≡ list_of (option_map (map f) xs)
list_kept f None = refl
list_kept f (Some xs) = refl

pub list_printed : {A : Type 0} (sign : Token) (f : A → List Token) (xs : Option (List A)) → spacing.separated sign f (list_of xs) ≡ maybe (option_map (spacing.separated sign f) xs)
list_printed sign f None = refl
list_printed sign f (Some xs) = refl

module _ {w : (r : Part) → Lang (Meant r)} (inner : Inner w) where
  member_reprints : Reprints w member member_placeless member_tokens
  unfolding member
  member_reprints =
      reprints_means (λ q. roll-Member (record { name = means_as.name_of q.1.0; value = q.1.1 })) member_placeless member_tokens
      (λ (z : List ℕ × Expr). roll-Member (record { name = name_spelled z.0; value = z.1 }))
      (λ q. member_rolled (means_as.name_of q.1.0) q.1.1) (λ q. member_printed (means_as.name_of q.1.0) q.1.1)
      (reprints_dropped (one c.sign_dot) (reprints_both word_reprints (reprints_behind c.sign_assign refl (expr_reprints inner))))

  pub members_reprint : Reprints w members (map member_placeless) (spacing.separated (codes ",") member_tokens)
  unfolding members
  members_reprint =
      reprints_means list_of (map member_placeless) (spacing.separated (codes ",") member_tokens) list_of
      (list_kept member_placeless) (list_printed (codes ",") member_tokens)
      (reprints_optional (reprints_separated c.sign_comma refl member_reprints))
