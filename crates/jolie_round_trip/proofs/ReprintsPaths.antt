-- Names and paths are printed so that they are read again.
use Rattle.std.proofs.Common.{ℕ, List, [], ◌∷◌, ◌++◌, map, Option, refl, ap, ◌∙◌, codes}
use Rattle.std.specs.Prelude.{option_map, flat_map}
use Rattle.jolie_ast.specs.declared.name.Name.{Name}
use Rattle.jolie_ast.specs.declared.expression.Expr.{Expr}
use Rattle.jolie_ast.specs.declared.expression.Path.{Path, roll-Path}
use Rattle.jolie_ast.specs.declared.expression.Step.{Step, roll-Step}
use Rattle.jolie_ast.specs.Spacing.{Token}
use Rattle.jolie_ast.specs.PrintedExpressions.{in_brackets, name_tokens, expr_tokens, path_tokens, step_tokens}
use Rattle.jolie_ast.specs.PrintedParts.{maybe}
use Rattle.jolie_parse.specs.ClassNames as c
use Rattle.jolie_parse.specs.Classes.{ids, words}
use Rattle.jolie_parse.specs.Meanings as means_as
use Rattle.jolie_parse.specs.Syntax.{Part, an_expression, Meant, Lang}
use Rattle.jolie_parse.specs.Grammar.{id, word, index, step, path_parts, path, name}
use Rattle.jolie_round_trip.specs.Placeless.{name_placeless, expr_placeless, path_placeless, step_placeless}
use Rattle.jolie_round_trip.proofs.Echo.{pair_kept}
use Rattle.jolie_round_trip.proofs.Parts.{Inner}
use Rattle.jolie_round_trip.proofs.PlacelessExpressions.{step_rolled, path_rolled}
use Rattle.jolie_round_trip.proofs.PrintedForms.{step_printed, path_printed}
use Rattle.jolie_round_trip.proofs.Reprints.{Reprints, reprints_both, reprints_means, reprints_many}
use Rattle.jolie_round_trip.proofs.ReprintsTokens.{spelling_kept, reprints_words, reprints_between}
use Rattle.jolie_round_trip.proofs.ReprintsForms.{reprints_behind, reprints_optional}

-- a name of no place
abbrev pub name_spelled : List ℕ → Name
name_spelled text = record { text = text; at = 0 }

-- a step of a name and an index
abbrev step_spelled : List ℕ × Option Expr → Step
step_spelled q = roll-Step (record { name = name_spelled q.0; index = q.1 })

-- a path of the name of its first step, the index of that and the further steps
abbrev path_spelled : List ℕ × (Option Expr × List Step) → Path
path_spelled q = roll-Path (record { first = step_spelled (q.0, q.1.0); rest = q.1.1 })

-- the tokens of an index
abbrev index_tokens : Option Expr → List Token
index_tokens e = maybe (option_map (λ v. in_brackets (expr_tokens v)) e)

module _ {w : (r : Part) → Lang (Meant r)} where
  pub id_reprints : Reprints w id spelling_kept (λ t. t.spelling ∷ [])
  unfolding id
  id_reprints = reprints_words ids (refl, (refl, (refl, (refl, (refl, (refl, tt))))))

  pub word_reprints : Reprints w word spelling_kept (λ t. t.spelling ∷ [])
  unfolding word
  word_reprints =
      reprints_words words
      (refl, (refl, (refl, (refl, (refl, (refl, (refl, (refl, (refl, (refl, (refl, (refl, (refl, (refl, (refl, (refl, (refl, (refl, (refl, (refl, (refl, (refl, (refl, (refl, (refl, (refl, (refl, (refl, (refl, (refl, (refl, (refl, (refl, (refl, (refl, (refl, (refl, (refl, (refl, (refl, (refl, tt)))))))))))))))))))))))))))))))))))))))))

  pub name_reprints : Reprints w name name_placeless name_tokens
  unfolding name
  name_reprints = reprints_means means_as.name_of name_placeless name_tokens name_spelled (λ t. refl) (λ t. refl) id_reprints

module _ {w : (r : Part) → Lang (Meant r)} (inner : Inner w) where
  pub index_reprints : Reprints w index (option_map expr_placeless) index_tokens
  unfolding index
  index_reprints = reprints_optional (reprints_between inner c.sign_open_bracket an_expression c.sign_close_bracket refl refl)

  pub step_reprints : Reprints w step step_placeless (λ s. codes "." ∷ step_tokens s)
  unfolding step
  step_reprints =
      reprints_behind c.sign_dot refl
      (reprints_means (λ q. means_as.step_of q.0 q.1) step_placeless step_tokens step_spelled
      (λ q. step_rolled (means_as.name_of q.0) q.1)
      (λ q. step_printed (means_as.name_of q.0) q.1)
      (reprints_both word_reprints index_reprints))

  path_parts_reprint : Reprints w path_parts (pair_kept (option_map expr_placeless) (map step_placeless)) (λ q. index_tokens q.0 ++ flat_map (λ s. codes "." ∷ step_tokens s) q.1)
  unfolding path_parts
  path_parts_reprint = reprints_both index_reprints (reprints_many step_reprints)

  pub path_reprints : Reprints w path path_placeless path_tokens
  unfolding path
  path_reprints =
      reprints_means (λ q. means_as.path_of q.0 q.1) path_placeless path_tokens path_spelled
      (λ q. path_rolled (means_as.step_of q.0 q.1.0) q.1.1 ∙ ap (λ s. roll-Path (record { first = s; rest = map step_placeless q.1.1 })) (step_rolled (means_as.name_of q.0) q.1.0))
      (λ q. path_printed (means_as.step_of q.0 q.1.0) q.1.1 ∙ ap (λ ts. ts ++ flat_map (λ s. codes "." ∷ step_tokens s) q.1.1) (step_printed (means_as.name_of q.0) q.1.0))
      (reprints_both id_reprints path_parts_reprint)
