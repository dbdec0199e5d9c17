-- Statements, sequences, parallels and handlers are printed so that they are read again.
use Rattle.std.proofs.Common.{◌≡◌, List, [], ◌∷◌, map, Option, Some, None, refl, sym, ap, ◌∙◌, codes, append_assoc}
use Rattle.std.specs.Prelude.{option_map}
use Rattle.std.proofs.lemmas.List.{append-nil}
use Rattle.jolie_ast.specs.declared.expression.Expr.{Expr}
use Rattle.jolie_ast.specs.declared.process.Process.{Process}
use Rattle.jolie_ast.specs.declared.process.Process.TheVariants as process
use Rattle.jolie_ast.specs.declared.process.HandlerKey.TheVariants as key
use Rattle.jolie_ast.specs.declared.process.Otherwise.{Otherwise}
use Rattle.jolie_ast.specs.declared.process.Otherwise.TheVariants as otherwise
use Rattle.jolie_ast.specs.declared.process.Block.{Block}
use Rattle.jolie_ast.specs.declared.process.If.{If, roll-If}
use Rattle.jolie_ast.specs.declared.process.Handler.{roll-Handler}
use Rattle.jolie_ast.specs.Spacing as spacing
use Rattle.jolie_ast.specs.PrintedExpressions.{in_parens, expr_tokens}
use Rattle.jolie_ast.specs.PrintedParts.{maybe}
use Rattle.jolie_ast.specs.PrintedProcesses.{thrown_tokens, key_token, process_tokens, block_tokens, if_tokens, otherwise_tokens, handler_tokens}
use Rattle.jolie_ast.proofs.PrintedProcesses as printed
use Rattle.jolie_parse.specs.declared.process.IfParts.{IfParts}
use Rattle.jolie_parse.specs.ClassNames as c
use Rattle.jolie_parse.specs.Classes.{Spelled, place}
use Rattle.jolie_parse.specs.Meanings as means_as
use Rattle.jolie_parse.specs.Syntax.{Part, an_expression, a_path, a_name, an_else_if, for_parts, some_handlers, throw_parts, Meant, Syn, Lang, optional}
use Rattle.jolie_parse.specs.Grammar.{else_parts, if_parts, undefine, conditional, repetition, counted_loop, scope, install, throw, compensate, inner_handler, block_statement, marked_statement, nothing, statement, in_parallel, handler_key, handler, handlers, thrown}
use Rattle.jolie_round_trip.specs.Placeless.{key_placeless, process_placeless, if_placeless, otherwise_placeless, handler_placeless}
use Rattle.jolie_round_trip.proofs.Parts.{Inner, if_parts_placeless, if_parts_tokens, throw_parts_placeless}
use Rattle.jolie_round_trip.proofs.PlacelessProcesses as placeless
use Rattle.jolie_round_trip.proofs.PlacelessProcesses.{if_rolled, handler_rolled}
use Rattle.jolie_round_trip.proofs.PrintedStatements.{if_printed, handler_printed}
use Rattle.jolie_round_trip.proofs.Reprints.{Reprints, reprints_give, reprints_both, reprints_either, reprints_means}
use Rattle.jolie_round_trip.proofs.ReprintsTokens.{reprints_one, reprints_between, reprints_prefix}
use Rattle.jolie_round_trip.proofs.ReprintsForms.{reprints_behind, reprints_separated, reprints_optional}
use Rattle.jolie_round_trip.proofs.ReprintsPaths.{name_spelled, id_reprints}
use Rattle.jolie_round_trip.proofs.EchoExpressions.{expr_reprints}
use Rattle.jolie_round_trip.proofs.ReprintsInputs.{block_reprints, input_reprints, choice_reprints, output_reprints, assign_reprints, correlate_reprints}

-- ---- sequences and parallels

sequence_same : (ps : List Process) → process_placeless (means_as.sequence_of ps) ≡ means_as.sequence_of (map process_placeless ps)
sequence_same [] = placeless.sequence_placeless []
sequence_same (p ∷ []) = refl
sequence_same (p ∷ q ∷ ps) = placeless.sequence_placeless (p ∷ q ∷ ps)

sequence_tokens : (ps : List Process) → process_tokens (means_as.sequence_of ps) ≡ spacing.separated (codes ";") process_tokens ps
sequence_tokens [] = printed.sequence_shown []
sequence_tokens (p ∷ []) = sym (append-nil (process_tokens p))
sequence_tokens (p ∷ q ∷ ps) = printed.sequence_shown (p ∷ q ∷ ps)

parallel_same : (ps : List Process) → process_placeless (means_as.parallel_of ps) ≡ means_as.parallel_of (map process_placeless ps)
parallel_same [] = placeless.parallel_placeless []
parallel_same (p ∷ []) = refl
parallel_same (p ∷ q ∷ ps) = placeless.parallel_placeless (p ∷ q ∷ ps)

parallel_tokens : (ps : List Process) → process_tokens (means_as.parallel_of ps) ≡ spacing.separated (codes "|") process_tokens ps
parallel_tokens [] = printed.parallel_shown []
parallel_tokens (p ∷ []) = sym (append-nil (process_tokens p))
parallel_tokens (p ∷ q ∷ ps) = printed.parallel_shown (p ∷ q ∷ ps)

-- ---- `if`

-- an `if` of no place
abbrev if_of_parts : IfParts → If
if_of_parts parts = roll-If (record { at = 0; test = parts.test; body = parts.body; otherwise = parts.otherwise })

-- what stands behind an `if`
abbrev if_parts_of : Expr × (Block × Otherwise) → IfParts
if_parts_of q = record { test = q.0; body = q.1.0; otherwise = q.1.1 }

if_same : (t : Spelled) (parts : IfParts) → if_placeless (means_as.if_of t parts) ≡ if_of_parts (if_parts_placeless parts)
if_same t parts = if_rolled (place t) parts.test parts.body parts.otherwise

if_printed_at : (t : Spelled) (parts : IfParts) → if_tokens (means_as.if_of t parts) ≡ codes "if" ∷ if_parts_tokens parts
if_printed_at t parts = if_printed (place t) parts.test parts.body parts.otherwise

thrown_printed : (value : Option Expr) → thrown_tokens value ≡ maybe (option_map (λ v. codes "," ∷ expr_tokens v) value)
thrown_printed None = refl
thrown_printed (Some value) = refl

module _ {w : (r : Part) → Lang (Meant r)} (inner : Inner w) where
  -- ---- what stands behind a word and in parentheses

  pub thrown_reprints : Reprints w thrown throw_parts_placeless (λ q. q.0.text ∷ thrown_tokens q.1)
  unfolding thrown
  thrown_reprints =
      reprints_means (λ q. (means_as.name_of q.0, q.1)) throw_parts_placeless (λ q. q.0.text ∷ thrown_tokens q.1) (λ z. (name_spelled z.0, z.1))
      (λ q. refl) (λ q. ap (λ ts. q.0.spelling ∷ ts) (thrown_printed q.1))
      (reprints_both id_reprints (reprints_optional (reprints_behind c.sign_comma refl (expr_reprints inner))))

  undefine_reprints : Reprints w undefine process_placeless process_tokens
  unfolding undefine
  undefine_reprints =
      reprints_means (λ q. process.Undef (place q.0) q.1) process_placeless process_tokens (λ z. process.Undef 0 z.1)
      (λ q. placeless.undef_placeless (place q.0) q.1) (λ q. printed.undef_shown (place q.0) q.1)
      (reprints_both (reprints_one c.the_undef refl) (reprints_between inner c.sign_open_paren a_path c.sign_close_paren refl refl))

  repetition_reprints : Reprints w repetition process_placeless process_tokens
  unfolding repetition
  repetition_reprints =
      reprints_means (λ q. process.While (place q.0) q.1.0 q.1.1) process_placeless process_tokens (λ z. process.While 0 z.1.0 z.1.1)
      (λ q. placeless.while_placeless (place q.0) q.1.0 q.1.1) (λ q. printed.while_shown (place q.0) q.1.0 q.1.1)
      (reprints_both (reprints_one c.the_while refl) (reprints_both (reprints_between inner c.sign_open_paren an_expression c.sign_close_paren refl refl) (block_reprints inner)))

  counted_loop_reprints : Reprints w counted_loop process_placeless process_tokens
  unfolding counted_loop
  counted_loop_reprints =
      reprints_means (λ q. means_as.for_of q.0 q.1.0 q.1.1) process_placeless process_tokens (λ z. process.For 0 z.1.0.path z.1.0.first z.1.0.test z.1.0.stepped z.1.0.step z.1.1)
      (λ q. placeless.for_placeless (place q.0) q.1.0.path q.1.0.first q.1.0.test q.1.0.stepped q.1.0.step q.1.1)
      (λ q. printed.for_shown (place q.0) q.1.0.path q.1.0.first q.1.0.test q.1.0.stepped q.1.0.step q.1.1)
      (reprints_both (reprints_one c.the_for refl) (reprints_both (reprints_between inner c.sign_open_paren for_parts c.sign_close_paren refl refl) (block_reprints inner)))

  scope_reprints : Reprints w scope process_placeless process_tokens
  unfolding scope
  scope_reprints =
      reprints_means (λ q. process.Scope (place q.0) q.1.0 q.1.1) process_placeless process_tokens (λ z. process.Scope 0 z.1.0 z.1.1)
      (λ q. placeless.scope_placeless (place q.0) q.1.0 q.1.1) (λ q. printed.scope_shown (place q.0) q.1.0 q.1.1)
      (reprints_both (reprints_one c.the_scope refl) (reprints_both (reprints_between inner c.sign_open_paren a_name c.sign_close_paren refl refl) (block_reprints inner)))

  install_reprints : Reprints w install process_placeless process_tokens
  unfolding install
  install_reprints =
      reprints_means (λ q. process.Install (place q.0) q.1) process_placeless process_tokens (λ z. process.Install 0 z.1)
      (λ q. placeless.install_placeless (place q.0) q.1) (λ q. printed.install_shown (place q.0) q.1)
      (reprints_both (reprints_one c.the_install refl) (reprints_between inner c.sign_open_paren some_handlers c.sign_close_paren refl refl))

  throw_reprints : Reprints w throw process_placeless process_tokens
  unfolding throw
  throw_reprints =
      reprints_means (λ q. process.Throw (place q.0) q.1.0 q.1.1) process_placeless process_tokens (λ z. process.Throw 0 z.1.0 z.1.1)
      (λ q. placeless.throw_placeless (place q.0) q.1.0 q.1.1) (λ q. printed.throw_shown (place q.0) q.1.0 q.1.1)
      (reprints_both (reprints_one c.the_throw refl) (reprints_between inner c.sign_open_paren throw_parts c.sign_close_paren refl refl))

  compensate_reprints : Reprints w compensate process_placeless process_tokens
  unfolding compensate
  compensate_reprints =
      reprints_means (λ q. process.Compensate (place q.0) q.1) process_placeless process_tokens (λ z. process.Compensate 0 z.1)
      (λ q. placeless.compensate_placeless (place q.0) q.1) (λ q. printed.compensate_shown (place q.0) q.1)
      (reprints_both (reprints_one c.the_comp refl) (reprints_between inner c.sign_open_paren a_name c.sign_close_paren refl refl))

  inner_handler_reprints : Reprints w inner_handler process_placeless process_tokens
  unfolding inner_handler
  inner_handler_reprints =
      reprints_means (λ t. process.InnerHandler (place t)) process_placeless process_tokens (λ z. process.InnerHandler 0)
      (λ t. placeless.inner_handler_placeless (place t)) (λ t. printed.inner_handler_shown (place t)) (reprints_one c.the_inner_handler refl)

  nothing_reprints : Reprints w nothing process_placeless process_tokens
  unfolding nothing
  nothing_reprints =
      reprints_means (λ t. process.Nothing (place t)) process_placeless process_tokens (λ z. process.Nothing 0)
      (λ t. placeless.nothing_placeless (place t)) (λ t. printed.nothing_shown (place t)) (reprints_one c.the_null_process refl)

  block_statement_reprints : Reprints w block_statement process_placeless process_tokens
  unfolding block_statement
  block_statement_reprints = reprints_means process.Block process_placeless process_tokens process.Block placeless.block_statement_placeless printed.block_form_shown (block_reprints inner)

  -- ---- `if`

  pub if_parts_reprint : {rest : Syn Otherwise} → Reprints w rest otherwise_placeless otherwise_tokens → Reprints w (if_parts rest) if_parts_placeless if_parts_tokens
  if_parts_reprint a =
      reprints_means if_parts_of if_parts_placeless if_parts_tokens if_parts_of (λ q. refl) (λ q. append_assoc (in_parens (expr_tokens q.0)) (block_tokens q.1.0) (otherwise_tokens q.1.1))
      (reprints_both (reprints_between inner c.sign_open_paren an_expression c.sign_close_paren refl refl) (reprints_both (block_reprints inner) a))

  conditional_reprints : {rest : Syn Otherwise} → Reprints w rest otherwise_placeless otherwise_tokens → Reprints w (conditional rest) process_placeless process_tokens
  conditional_reprints a =
      reprints_means (λ q. process.If (means_as.if_of q.0 q.1)) process_placeless process_tokens (λ z. process.If (if_of_parts z.1))
      (λ q. placeless.conditional_placeless (means_as.if_of q.0 q.1) ∙ ap process.If (if_same q.0 q.1))
      (λ q. printed.conditional_shown (means_as.if_of q.0 q.1) ∙ if_printed_at q.0 q.1)
      (reprints_both (reprints_one c.the_if refl) (if_parts_reprint a))

  pub else_parts_reprint : Reprints w else_parts otherwise_placeless otherwise_tokens
  unfolding else_parts
  else_parts_reprint =
      reprints_either
      (reprints_means (λ q. otherwise.ElseIf (means_as.if_of q.0 q.1)) otherwise_placeless otherwise_tokens (λ z. otherwise.ElseIf (if_of_parts z.1))
      (λ q. placeless.else_if_placeless (means_as.if_of q.0 q.1) ∙ ap otherwise.ElseIf (if_same q.0 q.1))
      (λ q. printed.else_if_shown (means_as.if_of q.0 q.1) ∙ ap (λ ts. codes "else" ∷ ts) (if_printed_at q.0 q.1))
      (reprints_behind c.the_else refl (reprints_prefix inner (c.the_if ∷ []) an_else_if (λ k. codes "if") ((refl, refl), tt))))
      (reprints_either
      (reprints_means otherwise.Else otherwise_placeless otherwise_tokens otherwise.Else placeless.else_placeless printed.else_shown (reprints_behind c.the_else refl (block_reprints inner)))
      (reprints_give otherwise_placeless otherwise_tokens otherwise.Nothing printed.no_else_shown))

  -- ---- statements

  marked_reprints : Reprints w (marked_statement else_parts) process_placeless process_tokens
  marked_reprints =
      reprints_either undefine_reprints
      (reprints_either (correlate_reprints inner)
      (reprints_either (conditional_reprints else_parts_reprint)
      (reprints_either repetition_reprints
      (reprints_either counted_loop_reprints
      (reprints_either (choice_reprints inner)
      (reprints_either scope_reprints
      (reprints_either install_reprints
      (reprints_either throw_reprints
      (reprints_either compensate_reprints
      (reprints_either inner_handler_reprints block_statement_reprints))))))))))

  pub statement_reprints : Reprints w statement process_placeless process_tokens
  unfolding statement
  statement_reprints =
      reprints_either nothing_reprints
      (reprints_either (reprints_means process.Input process_placeless process_tokens process.Input placeless.input_statement_placeless printed.input_form_shown (input_reprints inner))
      (reprints_either (output_reprints inner)
      (reprints_either (assign_reprints inner) marked_reprints)))

  -- ---- bodies and handlers

  parallel_reprints : Reprints w (in_parallel statement) process_placeless process_tokens
  parallel_reprints =
      reprints_means means_as.parallel_of process_placeless process_tokens means_as.parallel_of parallel_same parallel_tokens
      (reprints_separated c.sign_bar refl
      (reprints_means means_as.sequence_of process_placeless process_tokens means_as.sequence_of sequence_same sequence_tokens (reprints_separated c.sign_semicolon refl statement_reprints)))

  pub body_reprints : Reprints w (optional (in_parallel statement)) (option_map process_placeless) (λ v. maybe (option_map process_tokens v))
  body_reprints = reprints_optional parallel_reprints

  key_reprints : Reprints w handler_key key_placeless (λ k. key_token k ∷ [])
  unfolding handler_key
  key_reprints =
      reprints_either
      (reprints_means (λ t. key.This (place t)) key_placeless (λ k. key_token k ∷ []) (λ z. key.This 0) (λ t. refl) (λ t. refl) (reprints_one c.the_this refl))
      (reprints_means (λ t. key.Named (means_as.name_of t)) key_placeless (λ k. key_token k ∷ []) (λ text. key.Named (name_spelled text)) (λ t. refl) (λ t. refl) id_reprints)

  handler_reprints : Reprints w (handler statement) handler_placeless handler_tokens
  handler_reprints =
      reprints_means means_as.handler_of handler_placeless handler_tokens (λ z. roll-Handler (record { key = z.0; body = z.1 }))
      (λ q. handler_rolled q.0 q.1) (λ q. handler_printed q.0 q.1)
      (reprints_both key_reprints (reprints_behind c.sign_arrow refl parallel_reprints))

  pub handlers_reprint : Reprints w (handlers statement) (map handler_placeless) (spacing.separated (codes ",") handler_tokens)
  handlers_reprint = reprints_separated c.sign_comma refl handler_reprints
