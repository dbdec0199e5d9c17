-- Blocks, inputs, choices, outputs and assignments are printed so that they are read again.
use Rattle.std.proofs.Common.{◌≡◌, List, [], ◌∷◌, ◌++◌, map, Option, Some, None, refl, if◌then◌else◌}
use Rattle.std.specs.Prelude.{option_map, flat_map}
use Rattle.jolie_ast.specs.declared.expression.Expr.{Expr}
use Rattle.jolie_ast.specs.declared.expression.Path.{Path}
use Rattle.jolie_ast.specs.declared.process.Process.TheVariants as process
use Rattle.jolie_ast.specs.declared.process.Assignment.TheVariants as assignment
use Rattle.jolie_ast.specs.declared.process.ForStep.TheVariants as for_step
use Rattle.jolie_ast.specs.declared.process.Count.{Count}
use Rattle.jolie_ast.specs.declared.process.Count.TheVariants as counted
use Rattle.jolie_ast.specs.declared.process.Block.{roll-Block}
use Rattle.jolie_ast.specs.declared.process.Input.{roll-Input}
use Rattle.jolie_ast.specs.declared.process.Reply.{roll-Reply}
use Rattle.jolie_ast.specs.declared.process.Branch.{Branch, roll-Branch, out-Branch}
use Rattle.jolie_ast.specs.declared.process.Answer.{roll-Answer}
use Rattle.jolie_ast.specs.PrintedExpressions.{in_parens, expr_tokens, path_tokens}
use Rattle.jolie_ast.specs.PrintedParts.{maybe}
use Rattle.jolie_ast.specs.PrintedProcesses.{count_token, assignment_tokens, for_step_tokens, path_parens, value_parens, process_tokens, block_tokens, input_tokens, reply_tokens, branch_tokens, answer_tokens}
use Rattle.jolie_ast.proofs.PrintedProcesses.{block_made, input_made, choice_shown, output_shown, assign_shown, correlate_shown}
use Rattle.jolie_parse.specs.declared.class.Class.{Class}
use Rattle.jolie_parse.specs.ClassNames as c
use Rattle.jolie_parse.specs.Classes.{class, place, same}
use Rattle.jolie_parse.specs.Made as made
use Rattle.jolie_parse.specs.Meanings as means_as
use Rattle.jolie_parse.specs.Syntax.{Part, a_body, maybe_path, maybe_expression, an_input, some_handlers, Meant, Lang}
use Rattle.jolie_parse.specs.Grammar.{parens, block, reply, input_parts, input, branch, choice, answer, output_parts, output, count, change, assign, correlate, last_change, loop_parts}
use Rattle.jolie_round_trip.specs.Placeless.{expr_placeless, path_placeless, assignment_placeless, for_step_placeless, process_placeless, block_placeless, input_placeless, reply_placeless, branch_placeless, answer_placeless}
use Rattle.jolie_round_trip.proofs.Echo.{pair_kept, echo_as}
use Rattle.jolie_round_trip.proofs.Parts.{Inner, for_parts_placeless, for_parts_tokens}
use Rattle.jolie_round_trip.proofs.PlacelessProcesses.{block_rolled, reply_rolled, input_rolled, branch_rolled, answer_rolled, choice_placeless, output_placeless, assign_placeless, correlate_placeless}
use Rattle.jolie_round_trip.proofs.PrintedStatements.{reply_printed, branch_printed, answer_printed}
use Rattle.jolie_round_trip.proofs.Reprints.{Reprints, reprints_both, reprints_either, reprints_means}
use Rattle.jolie_round_trip.proofs.ReprintsTokens.{reprints_one, reprints_among, reprints_inside, reprints_between}
use Rattle.jolie_round_trip.proofs.ReprintsForms.{reprints_behind, reprints_some, reprints_optional}
use Rattle.jolie_round_trip.proofs.ReprintsPaths.{name_spelled, id_reprints, path_reprints}
use Rattle.jolie_round_trip.proofs.EchoExpressions.{expr_reprints}

-- ---- choices

choice_same : (bs : List Branch) → process_placeless (means_as.choice_of bs) ≡ process.Choice 0 (map branch_placeless bs)
choice_same [] = choice_placeless 0 []
choice_same (b ∷ bs) = choice_placeless (out-Branch b).at (b ∷ bs)

choice_tokens : (bs : List Branch) → process_tokens (means_as.choice_of bs) ≡ flat_map branch_tokens bs
choice_tokens [] = choice_shown 0 []
choice_tokens (b ∷ bs) = choice_shown (out-Branch b).at (b ∷ bs)

-- the count of a class: `++` or `--`
abbrev pub class_count : Class → Count
class_count k = if same k c.sign_increment then counted.Up else counted.Down

module _ {w : (r : Part) → Lang (Meant r)} where
  count_reprints : Reprints w count class (λ t. count_token (means_as.count_of t) ∷ [])
  unfolding count
  count_reprints = reprints_among (c.sign_increment ∷ c.sign_decrement ∷ []) (λ k. count_token (class_count k)) ((refl, refl), ((refl, refl), tt))

path_in_parens_printed : (path : Option Path) → in_parens (maybe (option_map path_tokens path)) ≡ path_parens path
path_in_parens_printed None = refl
path_in_parens_printed (Some path) = refl

value_in_parens_printed : (value : Option Expr) → in_parens (maybe (option_map expr_tokens value)) ≡ value_parens value
value_in_parens_printed None = refl
value_in_parens_printed (Some value) = refl

module _ {w : (r : Part) → Lang (Meant r)} (inner : Inner w) where
  pub block_reprints : Reprints w block block_placeless block_tokens
  unfolding block
  block_reprints =
      reprints_means means_as.block_of block_placeless block_tokens (λ z. roll-Block (record { at = 0; body = z }))
      (λ q. block_rolled (place q.0) q.1) (λ q. block_made (place q.0) q.1)
      (reprints_inside inner c.sign_open_brace a_body c.sign_close_brace refl refl)

  path_in_parens : Reprints w (parens maybe_path) (option_map path_placeless) path_parens
  path_in_parens =
      let plain = reprints_between inner c.sign_open_paren maybe_path c.sign_close_paren refl refl in
      record { echo = λ ts v d valid. echo_as (plain.echo ts v d valid) (path_parens v) (path_in_parens_printed v) }

  value_in_parens : Reprints w (parens maybe_expression) (option_map expr_placeless) value_parens
  value_in_parens =
      let plain = reprints_between inner c.sign_open_paren maybe_expression c.sign_close_paren refl refl in
      record { echo = λ ts v d valid. echo_as (plain.echo ts v d valid) (value_parens v) (value_in_parens_printed v) }

  -- ---- inputs

  reply_reprints : Reprints w reply reply_placeless reply_tokens
  unfolding reply
  reply_reprints =
      reprints_means made.reply_of reply_placeless reply_tokens (λ z. roll-Reply (record { path = z.0; body = z.1 }))
      (λ q. reply_rolled q.0 q.1) (λ q. reply_printed q.0 q.1)
      (reprints_both path_in_parens block_reprints)

  input_parts_reprint : Reprints w input_parts (pair_kept (option_map path_placeless) (option_map reply_placeless)) (λ q. path_parens q.0 ++ maybe (option_map reply_tokens q.1))
  unfolding input_parts
  input_parts_reprint = reprints_both path_in_parens (reprints_optional reply_reprints)

  pub input_reprints : Reprints w input input_placeless input_tokens
  unfolding input
  input_reprints =
      reprints_means (λ q. means_as.input_of q.0 q.1) input_placeless input_tokens (λ z. roll-Input (record { operation = name_spelled z.0; request = z.1.0; reply = z.1.1 }))
      (λ q. input_rolled (means_as.name_of q.0) q.1.0 q.1.1) (λ q. input_made (means_as.name_of q.0) q.1.0 q.1.1)
      (reprints_both id_reprints input_parts_reprint)

  branch_reprints : Reprints w branch branch_placeless branch_tokens
  unfolding branch
  branch_reprints =
      reprints_means means_as.branch_of branch_placeless branch_tokens (λ z. roll-Branch (record { at = 0; input = z.0; after = z.1 }))
      (λ q. branch_rolled (place q.0.0) q.0.1 q.1) (λ q. branch_printed (place q.0.0) q.0.1 q.1)
      (reprints_both (reprints_inside inner c.sign_open_bracket an_input c.sign_close_bracket refl refl) block_reprints)

  pub choice_reprints : Reprints w choice process_placeless process_tokens
  unfolding choice
  choice_reprints = reprints_means means_as.choice_of process_placeless process_tokens (process.Choice 0) choice_same choice_tokens (reprints_some branch_reprints)

  -- ---- outputs

  answer_reprints : Reprints w answer answer_placeless answer_tokens
  unfolding answer
  answer_reprints =
      reprints_means made.answer_of answer_placeless answer_tokens (λ z. roll-Answer (record { path = z.0; handlers = z.1 }))
      (λ q. answer_rolled q.0 q.1) (λ q. answer_printed q.0 q.1)
      (reprints_both path_in_parens (reprints_optional (reprints_between inner c.sign_open_bracket some_handlers c.sign_close_bracket refl refl)))

  pub output_reprints : Reprints w output process_placeless process_tokens
  unfolding output output_parts
  output_reprints =
      reprints_means (λ q. means_as.output_of q.0 q.1) process_placeless process_tokens (λ z. process.Output (name_spelled z.0) (name_spelled z.1.0) z.1.1.0 z.1.1.1)
      (λ q. output_placeless (means_as.name_of q.0) (means_as.name_of q.1.0) q.1.1.0 q.1.1.1) (λ q. output_shown (means_as.name_of q.0) (means_as.name_of q.1.0) q.1.1.0 q.1.1.1)
      (reprints_both id_reprints
      (reprints_behind c.sign_at refl
      (reprints_both id_reprints
      (reprints_both value_in_parens (reprints_optional answer_reprints)))))

  -- ---- assignments

  change_reprints : Reprints w change assignment_placeless assignment_tokens
  unfolding change
  change_reprints =
      reprints_either
      (reprints_means assignment.Root assignment_placeless assignment_tokens assignment.Root (λ v. refl) (λ v. refl) (reprints_behind c.sign_assign refl (expr_reprints inner)))
      (reprints_either
      (reprints_means assignment.Copy assignment_placeless assignment_tokens assignment.Copy (λ v. refl) (λ v. refl) (reprints_behind c.sign_deep_assign refl (expr_reprints inner)))
      (reprints_means (λ t. assignment.Count (means_as.count_of t)) assignment_placeless assignment_tokens (λ k. assignment.Count (class_count k)) (λ t. refl) (λ t. refl) count_reprints))

  pub assign_reprints : Reprints w assign process_placeless process_tokens
  unfolding assign
  assign_reprints =
      reprints_means (λ q. process.Assign q.0 q.1) process_placeless process_tokens (λ z. process.Assign z.0 z.1)
      (λ q. assign_placeless q.0 q.1) (λ q. assign_shown q.0 q.1)
      (reprints_both (path_reprints inner) change_reprints)

  pub correlate_reprints : Reprints w correlate process_placeless process_tokens
  unfolding correlate
  correlate_reprints =
      reprints_means (λ q. process.Correlate (place q.0) (means_as.name_of q.1.0) q.1.1) process_placeless process_tokens (λ z. process.Correlate 0 (name_spelled z.1.0) z.1.1)
      (λ q. correlate_placeless (place q.0) (means_as.name_of q.1.0) q.1.1) (λ q. correlate_shown (place q.0) (means_as.name_of q.1.0) q.1.1)
      (reprints_both (reprints_one c.the_csets refl) (reprints_both (reprints_behind c.sign_dot refl id_reprints) (reprints_behind c.sign_assign refl (expr_reprints inner))))

  last_change_reprints : Reprints w last_change for_step_placeless for_step_tokens
  unfolding last_change
  last_change_reprints =
      reprints_either
      (reprints_means (λ t. for_step.Count (means_as.count_of t)) for_step_placeless for_step_tokens (λ k. for_step.Count (class_count k)) (λ t. refl) (λ t. refl) count_reprints)
      (reprints_means for_step.Root for_step_placeless for_step_tokens for_step.Root (λ v. refl) (λ v. refl) (reprints_behind c.sign_assign refl (expr_reprints inner)))

  pub loop_parts_reprint : Reprints w loop_parts for_parts_placeless for_parts_tokens
  unfolding loop_parts
  loop_parts_reprint =
      reprints_means _ for_parts_placeless for_parts_tokens (λ z. record { path = z.0; first = z.1.0; test = z.1.1.0; stepped = z.1.1.1.0; step = z.1.1.1.1 })
      (λ q. refl) (λ q. refl)
      (reprints_both (path_reprints inner)
      (reprints_both (reprints_behind c.sign_assign refl (expr_reprints inner))
      (reprints_both (reprints_behind c.sign_comma refl (expr_reprints inner))
      (reprints_both (reprints_behind c.sign_comma refl (path_reprints inner)) last_change_reprints))))
