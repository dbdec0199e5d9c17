-- The grammar and its factored form derive the same, and no tokens derive two trees of the grammar.
use Rattle.std.proofs.Common.{inl, inr, ℕ, zero, suc, List, [], ◌∷◌, ◌++◌, refl, sym, ap, ◌∙◌, append_assoc, Some, None}
use Rattle.jolie_ast.specs.declared.process.Process.{Process}
use Rattle.jolie_ast.specs.declared.process.Process.TheVariants as process
use Rattle.jolie_ast.specs.declared.process.Otherwise.{Otherwise}
use Rattle.jolie_ast.specs.declared.process.Otherwise.TheVariants as otherwise
use Rattle.jolie_ast.specs.declared.tree.Definition.{Definition}
use Rattle.jolie_parse.specs.declared.class.Class.{Class}
use Rattle.jolie_parse.specs.ClassNames as c
use Rattle.jolie_parse.specs.Classes.{Spelled}
use Rattle.jolie_parse.specs.Meanings as means_as
use Rattle.jolie_parse.specs.Syntax.{Part, an_expression, an_operand, a_path, maybe_path, maybe_expression, a_body, some_handlers, a_name, an_input, an_else_if, for_parts, throw_parts, some_members, a_type_name, some_bounds, some_fields, some_operations, port_parts, some_variables, some_clauses, Meant, Syn, token, give, both, either, many, means, Lang, Derives, separated, optional, behind}
use Rattle.jolie_parse.specs.Grammar.{path, input, output, assign, statement, else_parts, if_parts, marked_statement, in_sequence, in_parallel, handler_key, handlers, production, Allowed, IsFile, file}
use Rattle.jolie_parse.specs.Factored.{named_parts, one_else, one_statement, rule, Within, Nests}
use Rattle.jolie_parse.specs.Laws.{HaveOneTree}
use Rattle.jolie_parse.proofs.Unique.{Many_more, Derives_more, one_file}

module _ (w : (r : Part) → Lang (Meant r)) where
  -- what derives from the one derives from the other
  abbrev pub Into : {A : Type 0} → Syn A → Syn A → Type 0
  Into {A} s t = (ts : List Spelled) (v : A) → Derives w s ts v → Derives w t ts v

  pub itself : {A : Type 0} (s : Syn A) → Into s s
  itself s ts v d = d

  pub means_into : {A B : Type 0} (f : A → B) (s t : Syn A) → Into s t → Into (means f s) (means f t)
  means_into f s t h ts v d = (d.0, d.1, h ts d.0 d.2)

  pub both_into : {A B : Type 0} (s s2 : Syn A) (t t2 : Syn B) → Into s s2 → Into t t2 → Into (both s t) (both s2 t2)
  both_into s s2 t t2 h g ts v d = (d.0, d.1, d.2, h d.0 v.0 d.3, g d.1 v.1 d.4)

  either_into : {A : Type 0} (s s2 t t2 : Syn A) → Into s s2 → Into t t2 → Into (either s t) (either s2 t2)
  either_into s s2 t t2 h g ts v d = elim d [ inl e ↦ inl (h ts v e) | inr e ↦ inr (g ts v e) ]

  pub many_into : {A : Type 0} (s t : Syn A) → Into s t → Into (many s) (many t)
  many_into s t h ts v d = Many_more (Derives w s) (Derives w t) h ts v d

  pub behind_into : {A : Type 0} (k : Class) (s t : Syn A) → Into s t → Into (behind k s) (behind k t)
  behind_into k s t h ts v d = (d.0, d.1, both_into (token (k ∷ [])) (token (k ∷ [])) s t (itself (token (k ∷ []))) h ts d.0 d.2)

  separated_into : {A : Type 0} (k : Class) (s t : Syn A) → Into s t → Into (separated k s) (separated k t)
  separated_into k s t h ts v d =
      (d.0, d.1, both_into s t (many (behind k s)) (many (behind k t)) h (many_into (behind k s) (behind k t) (behind_into k s t h)) ts d.0 d.2)

  pub sequence_into : (s t : Syn Process) → Into s t → Into (in_sequence s) (in_sequence t)
  sequence_into s t h = means_into means_as.sequence_of (separated c.sign_semicolon s) (separated c.sign_semicolon t) (separated_into c.sign_semicolon s t h)

  pub parallel_into : (s t : Syn Process) → Into s t → Into (in_parallel s) (in_parallel t)
  parallel_into s t h =
      means_into means_as.parallel_of (separated c.sign_bar (in_sequence s)) (separated c.sign_bar (in_sequence t))
      (separated_into c.sign_bar (in_sequence s) (in_sequence t) (sequence_into s t h))

  body_into : (s t : Syn Process) → Into s t → Into (optional (in_parallel s)) (optional (in_parallel t))
  body_into s t h =
      either_into (means Some (in_parallel s)) (means Some (in_parallel t)) (give None) (give None)
      (means_into Some (in_parallel s) (in_parallel t) (parallel_into s t h)) (itself (give None))

  handlers_into : (s t : Syn Process) → Into s t → Into (handlers s) (handlers t)
  handlers_into s t h =
      let one_into = behind_into c.sign_arrow (in_parallel s) (in_parallel t) (parallel_into s t h) in
      let pair_into = both_into handler_key handler_key (behind c.sign_arrow (in_parallel s)) (behind c.sign_arrow (in_parallel t)) (itself handler_key) one_into in
      separated_into c.sign_comma
      (means means_as.handler_of (both handler_key (behind c.sign_arrow (in_parallel s))))
      (means means_as.handler_of (both handler_key (behind c.sign_arrow (in_parallel t))))
      (means_into means_as.handler_of (both handler_key (behind c.sign_arrow (in_parallel s))) (both handler_key (behind c.sign_arrow (in_parallel t))) pair_into)

  if_into : (s t : Syn Otherwise) → Into s t → Into (if_parts s) (if_parts t)
  if_into s t h ts v (q, e, (x, y, g, ex, (x2, y2, g2, bx, ry))) = (q, e, (x, y, g, ex, (x2, y2, g2, bx, h y2 q.1.1 ry)))

  marked_into : (s t : Syn Otherwise) → Into s t → Into (marked_statement s) (marked_statement t)
  marked_into s t h ts v d = elim d [
    | inl a ↦ inl a
    | inr (inl a) ↦ inr (inl a)
    | inr (inr (inl (q, e, (x, y, g, tx, p)))) ↦ inr (inr (inl (q, e, (x, y, g, tx, if_into s t h y q.1 p))))
    | inr (inr (inr a)) ↦ inr (inr (inr a))
  ]

  -- what follows an `if`
  else_factored : Into else_parts one_else
  unfolding else_parts one_else
  else_factored ts v d = elim d [
    | inl (p, e, (q, e2, (x, y, g, tx, py))) ↦ inl ((q.0, v), refl, (x, y, g, tx, inl (q.1, ap (λ z. otherwise.ElseIf (means_as.if_of z.0 z.1)) e2 ∙ e, py)))
    | inr (inl (p, e, (q, e2, (x, y, g, tx, py)))) ↦ inl ((q.0, v), refl, (x, y, g, tx, inr (q.1, ap otherwise.Else e2 ∙ e, py)))
    | inr (inr a) ↦ inr a
  ]

  else_spread : Into one_else else_parts
  unfolding else_parts one_else
  else_spread ts v d = elim d [
    | inl (q, e, (x, y, g, tx, inl (p, e2, py))) ↦ inl (p, e2 ∙ e, ((q.0, p), refl, (x, y, g, tx, py)))
    | inl (q, e, (x, y, g, tx, inr (p, e2, py))) ↦ inr (inl (p, e2 ∙ e, ((q.0, p), refl, (x, y, g, tx, py))))
    | inr a ↦ inr (inr a)
  ]

  -- a statement that begins with a name
  pub statement_factored : Into statement one_statement
  unfolding statement one_statement named_parts input output assign path
  statement_factored ts v d = elim d [
    | inl a ↦ inl a
    | inr (inl (i, e, (q, e2, (x, y, g, tx, py)))) ↦
        inr (inl ((q.0, λ t. process.Input (means_as.input_of t q.1)), ap process.Input e2 ∙ e, (x, y, g, tx, inl (q.1, refl, py))))
    | inr (inr (inl (q, e, (x, y, g, tx, py)))) ↦
        inr (inl ((q.0, λ t. means_as.output_of t q.1), e, (x, y, g, tx, inr (inl (q.1, refl, py)))))
    | inr (inr (inr (inl (q, e, (x, y, g, (p, e2, (x2, y2, g2, tx, pp)), ch))))) ↦
        inr (inl (
          (p.0, λ t. process.Assign (means_as.path_of t p.1) q.1),
          ap (λ z. process.Assign z q.1) e2 ∙ e,
          (x2, y2 ++ y, g ∙ ap (λ z. z ++ y) g2 ∙ append_assoc x2 y2 y, tx, inr (inr ((p.1, q.1), refl, (y2, y, refl, pp, ch)))),
        ))
    | inr (inr (inr (inr a))) ↦ inr (inr (marked_into else_parts one_else else_factored ts v a))
  ]

  pub statement_spread : Into one_statement statement
  unfolding statement one_statement named_parts input output assign path
  statement_spread ts v d = elim d [
    | inl a ↦ inl a
    | inr (inl (q, e, (x, y, g, tx, inl (i, e2, py)))) ↦
        inr (inl (means_as.input_of q.0 i, ap (λ f. f q.0) e2 ∙ e, ((q.0, i), refl, (x, y, g, tx, py))))
    | inr (inl (q, e, (x, y, g, tx, inr (inl (o, e2, py))))) ↦
        inr (inr (inl ((q.0, o), ap (λ f. f q.0) e2 ∙ e, (x, y, g, tx, py))))
    | inr (inl (q, e, (x, y, g, tx, inr (inr (a, e2, (y2, y3, g2, pp, ch)))))) ↦
        inr (inr (inr (inl (
          (means_as.path_of q.0 a.0, a.1),
          ap (λ f. f q.0) e2 ∙ e,
          (x ++ y2, y3, g ∙ ap (λ z. x ++ z) g2 ∙ sym (append_assoc x y2 y3), ((q.0, a.0), refl, (x, y2, refl, tx, pp)), ch),
        ))))
    | inr (inr a) ↦ inr (inr (inr (inr (marked_into one_else else_parts else_spread ts v a))))
  ]

  part_factored : (r : Part) → Into (production r) (rule r)
  part_factored a_body = body_into statement one_statement statement_factored
  part_factored some_handlers = handlers_into statement one_statement statement_factored
  part_factored an_else_if = if_into else_parts one_else else_factored
  part_factored an_expression = itself (production an_expression)
  part_factored an_operand = itself (production an_operand)
  part_factored a_path = itself (production a_path)
  part_factored maybe_path = itself (production maybe_path)
  part_factored maybe_expression = itself (production maybe_expression)
  part_factored a_name = itself (production a_name)
  part_factored an_input = itself (production an_input)
  part_factored for_parts = itself (production for_parts)
  part_factored throw_parts = itself (production throw_parts)
  part_factored some_members = itself (production some_members)
  part_factored a_type_name = itself (production a_type_name)
  part_factored some_bounds = itself (production some_bounds)
  part_factored some_fields = itself (production some_fields)
  part_factored some_operations = itself (production some_operations)
  part_factored port_parts = itself (production port_parts)
  part_factored some_variables = itself (production some_variables)
  part_factored some_clauses = itself (production some_clauses)

  part_spread : (r : Part) → Into (rule r) (production r)
  part_spread a_body = body_into one_statement statement statement_spread
  part_spread some_handlers = handlers_into one_statement statement statement_spread
  part_spread an_else_if = if_into one_else else_parts else_spread
  part_spread an_expression = itself (production an_expression)
  part_spread an_operand = itself (production an_operand)
  part_spread a_path = itself (production a_path)
  part_spread maybe_path = itself (production maybe_path)
  part_spread maybe_expression = itself (production maybe_expression)
  part_spread a_name = itself (production a_name)
  part_spread an_input = itself (production an_input)
  part_spread for_parts = itself (production for_parts)
  part_spread throw_parts = itself (production throw_parts)
  part_spread some_members = itself (production some_members)
  part_spread a_type_name = itself (production a_type_name)
  part_spread some_bounds = itself (production some_bounds)
  part_spread some_fields = itself (production some_fields)
  part_spread some_operations = itself (production some_operations)
  part_spread port_parts = itself (production port_parts)
  part_spread some_variables = itself (production some_variables)
  part_spread some_clauses = itself (production some_clauses)

-- what stands a level further in derives in both forms of the grammar or in none
pub within_factored : (n : ℕ) (r : Part) (ts : List Spelled) (v : Meant r) → Allowed n r ts v → Within n r ts v
within_factored zero r ts v d = absurd d
within_factored (suc n) r ts v d =
    part_factored (Within n) r ts v (Derives_more (Allowed n) (Within n) (within_factored n) (production r) ts v d)

pub within_spread : (n : ℕ) (r : Part) (ts : List Spelled) (v : Meant r) → Within n r ts v → Allowed n r ts v
within_spread zero r ts v d = absurd d
within_spread (suc n) r ts v d =
    part_spread (Allowed n) r ts v (Derives_more (Within n) (Allowed n) (within_spread n) (rule r) ts v d)

-- a file is one in both forms of the grammar or in none
pub file_factored : (n : ℕ) (ts : List Spelled) (f : List Definition) → IsFile n ts f → Nests n file ts f
file_factored n ts f d = Derives_more (Allowed n) (Within n) (within_factored n) file ts f d

pub file_spread : (n : ℕ) (ts : List Spelled) (f : List Definition) → Nests n file ts f → IsFile n ts f
file_spread n ts f d = Derives_more (Within n) (Allowed n) (within_spread n) file ts f d

-- no tokens are a file in two ways
pub have_one_tree : HaveOneTree
have_one_tree n m ts f g d e = one_file n m ts f g (file_factored n ts f d) (file_factored m ts g e)
