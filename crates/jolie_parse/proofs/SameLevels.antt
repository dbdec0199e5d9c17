-- The grammar and its factored form open levels at the same tokens.
use Rattle.std.proofs.Common.{inl, inr, ℕ, zero, suc, List, [], ◌∷◌, ◌++◌, refl, sym, ap, ◌∙◌, append_assoc}
use Rattle.jolie_ast.specs.declared.process.Process.{Process}
use Rattle.jolie_ast.specs.declared.process.Otherwise.{Otherwise}
use Rattle.jolie_parse.specs.declared.class.Class.{Class}
use Rattle.jolie_parse.specs.ClassNames as c
use Rattle.jolie_parse.specs.Classes.{Spelled}
use Rattle.jolie_parse.specs.Meanings as means_as
use Rattle.jolie_parse.specs.Syntax.{Part, an_expression, an_operand, a_path, maybe_path, maybe_expression, a_name, an_input, for_parts, throw_parts, some_members, a_type_name, some_bounds, some_fields, some_operations, port_parts, some_variables, some_clauses, a_body, some_handlers, an_else_if, Meant, Syn, token, give, both, either, many, means, inside, prefix, Lang, separated, optional, behind}
use Rattle.jolie_parse.specs.Grammar.{path, input, output, assign, statement, else_parts, if_parts, marked_statement, in_sequence, in_parallel, handler_key, handlers, production, Allowed, file}
use Rattle.jolie_parse.specs.Factored.{named_parts, one_else, one_statement, rule, Within}
use Rattle.jolie_parse.specs.Levels as levels
use Rattle.jolie_parse.specs.Levels.{Opener, bracket, before, opened, LeadsTo}
use Rattle.jolie_parse.proofs.Unique.{Derives_more}
use Rattle.jolie_parse.proofs.Equal.{Into, itself, means_into, both_into, behind_into, many_into, sequence_into, parallel_into, statement_factored, statement_spread, within_factored, within_spread}
use Rattle.jolie_parse.proofs.Openings as factored

-- ---- the same grammar, where more stands a level further in

module _ (w w2 : (r : Part) → Lang (Meant r)) (at at2 : Opener → List Spelled → Type 0)
    (more : (r : Part) (ts : List Spelled) (v : Meant r) → w r ts v → w2 r ts v) (goes : (p : Opener) (y : List Spelled) → at p y → at2 p y) where
  LeadsTo_more : {A : Type 0} (s : Syn A) (ts : List Spelled) → LeadsTo w at s ts → LeadsTo w2 at2 s ts
  LeadsTo_more (token ks) ts l = l
  LeadsTo_more (give a) ts l = l
  LeadsTo_more (both s t) ts l = elim l [
    | inl e ↦ inl (LeadsTo_more s ts e)
    | inr (x, y, a, e, d, k) ↦ inr (x, y, a, e, Derives_more w w2 more s x a d, LeadsTo_more t y k)
  ]
  LeadsTo_more (either s t) ts l = elim l [ inl e ↦ inl (LeadsTo_more s ts e) | inr e ↦ inr (LeadsTo_more t ts e) ]
  LeadsTo_more (many s) ts l = (l.0, l.1, l.2, l.3, Derives_more w w2 more (many s) l.0 l.2 l.4, LeadsTo_more s l.1 l.5)
  LeadsTo_more (means f s) ts l = LeadsTo_more s ts l
  LeadsTo_more (inside o r c) ts l = goes (bracket o r c) ts l
  LeadsTo_more (prefix ks r) ts l = goes (before ks r) ts l

-- ---- the two forms

module _ (w : (r : Part) → Lang (Meant r)) (at : Opener → List Spelled → Type 0) where
  -- what leads to a level in the one does in the other
  abbrev Onto : {A : Type 0} → Syn A → Syn A → Type 0
  Onto s t = (ts : List Spelled) → LeadsTo w at s ts → LeadsTo w at t ts

  both_onto : {A B : Type 0} (s s2 : Syn A) (t t2 : Syn B) → Into w s s2 → Onto s s2 → Onto t t2 → Onto (both s t) (both s2 t2)
  both_onto s s2 t t2 i h g ts l = elim l [
    | inl e ↦ inl (h ts e)
    | inr (x, y, a, e, d, k) ↦ inr (x, y, a, e, i x a d, g y k)
  ]

  many_onto : {A : Type 0} (s t : Syn A) → Into w s t → Onto s t → Onto (many s) (many t)
  many_onto s t i h ts l = (l.0, l.1, l.2, l.3, many_into w s t i l.0 l.2 l.4, h l.1 l.5)

  behind_onto : {A : Type 0} (k : Class) (s t : Syn A) → Onto s t → Onto (behind k s) (behind k t)
  behind_onto k s t h = both_onto (token (k ∷ [])) (token (k ∷ [])) s t (itself w (token (k ∷ []))) (λ ts l. l) h

  separated_onto : {A : Type 0} (k : Class) (s t : Syn A) → Into w s t → Onto s t → Onto (separated k s) (separated k t)
  separated_onto k s t i h =
      both_onto s t (many (behind k s)) (many (behind k t)) i h
      (many_onto (behind k s) (behind k t) (behind_into w k s t i) (behind_onto k s t h))

  parallel_onto : (s t : Syn Process) → Into w s t → Onto s t → Onto (in_parallel s) (in_parallel t)
  parallel_onto s t i h = separated_onto c.sign_bar (in_sequence s) (in_sequence t) (sequence_into w s t i) (separated_onto c.sign_semicolon s t i h)

  body_onto : (s t : Syn Process) → Into w s t → Onto s t → Onto (optional (in_parallel s)) (optional (in_parallel t))
  body_onto s t i h ts l = elim l [ inl e ↦ inl (parallel_onto s t i h ts e) | inr e ↦ inr e ]

  handlers_onto : (s t : Syn Process) → Into w s t → Onto s t → Onto (handlers s) (handlers t)
  handlers_onto s t i h =
      let one_into = behind_into w c.sign_arrow (in_parallel s) (in_parallel t) (parallel_into w s t i) in
      let pair_into = both_into w handler_key handler_key (behind c.sign_arrow (in_parallel s)) (behind c.sign_arrow (in_parallel t)) (itself w handler_key) one_into in
      separated_onto c.sign_comma
      (means means_as.handler_of (both handler_key (behind c.sign_arrow (in_parallel s))))
      (means means_as.handler_of (both handler_key (behind c.sign_arrow (in_parallel t))))
      (means_into w means_as.handler_of (both handler_key (behind c.sign_arrow (in_parallel s))) (both handler_key (behind c.sign_arrow (in_parallel t))) pair_into)
      (both_onto handler_key handler_key (behind c.sign_arrow (in_parallel s)) (behind c.sign_arrow (in_parallel t)) (itself w handler_key) (λ ts l. l)
      (behind_onto c.sign_arrow (in_parallel s) (in_parallel t) (parallel_onto s t i h)))

  if_onto : (s t : Syn Otherwise) → Onto s t → Onto (if_parts s) (if_parts t)
  if_onto s t h ts l = elim l [
    | inl e ↦ inl e
    | inr (x, y, a, e, d, inl k) ↦ inr (x, y, a, e, d, inl k)
    | inr (x, y, a, e, d, inr (x2, y2, b, e2, d2, k)) ↦ inr (x, y, a, e, d, inr (x2, y2, b, e2, d2, h y2 k))
  ]

  marked_onto : (s t : Syn Otherwise) → Onto s t → Onto (marked_statement s) (marked_statement t)
  marked_onto s t h ts l = elim l [
    | inl a ↦ inl a
    | inr (inl a) ↦ inr (inl a)
    | inr (inr (inl (inl a))) ↦ inr (inr (inl (inl a)))
    | inr (inr (inl (inr (x, y, a, e, d, k)))) ↦ inr (inr (inl (inr (x, y, a, e, d, if_onto s t h y k))))
    | inr (inr (inr a)) ↦ inr (inr (inr a))
  ]

  -- what follows an `if`
  else_factored_onto : Onto else_parts one_else
  unfolding else_parts one_else
  else_factored_onto ts l = elim l [
    | inl (inl a) ↦ inl (inl a)
    | inl (inr (x, y, a, e, d, k)) ↦ inl (inr (x, y, a, e, d, inl k))
    | inr (inl (inl a)) ↦ inl (inl a)
    | inr (inl (inr (x, y, a, e, d, k))) ↦ inl (inr (x, y, a, e, d, inr k))
    | inr (inr a) ↦ inr a
  ]

  else_spread_onto : Onto one_else else_parts
  unfolding else_parts one_else
  else_spread_onto ts l = elim l [
    | inl (inl a) ↦ inl (inl a)
    | inl (inr (x, y, a, e, d, inl k)) ↦ inl (inr (x, y, a, e, d, k))
    | inl (inr (x, y, a, e, d, inr k)) ↦ inr (inl (inr (x, y, a, e, d, k)))
    | inr a ↦ inr (inr a)
  ]

  -- a statement that begins with a name
  statement_factored_onto : Onto statement one_statement
  unfolding statement one_statement named_parts input output assign path
  statement_factored_onto ts l = elim l [
    | inl a ↦ inl a
    | inr (inl (inl a)) ↦ inr (inl (inl a))
    | inr (inl (inr (x, y, a, e, d, k))) ↦ inr (inl (inr (x, y, a, e, d, inl k)))
    | inr (inr (inl (inl a))) ↦ inr (inl (inl a))
    | inr (inr (inl (inr (x, y, a, e, d, k)))) ↦ inr (inl (inr (x, y, a, e, d, inr (inl k))))
    | inr (inr (inr (inl (inl (inl a))))) ↦ inr (inl (inl a))
    | inr (inr (inr (inl (inl (inr (x, y, a, e, d, k)))))) ↦ inr (inl (inr (x, y, a, e, d, inr (inr (inl k)))))
    | inr (inr (inr (inl (inr (x, y, p, e, (q, e2, (x2, y2, g2, tx, pp)), k))))) ↦
        inr (inl (inr (x2, y2 ++ y, q.0, e ∙ ap (λ z. z ++ y) g2 ∙ append_assoc x2 y2 y, tx, inr (inr (inr (y2, y, q.1, refl, pp, k))))))
    | inr (inr (inr (inr a))) ↦ inr (inr (marked_onto else_parts one_else else_factored_onto ts a))
  ]

  statement_spread_onto : Onto one_statement statement
  unfolding statement one_statement named_parts input output assign path
  statement_spread_onto ts l = elim l [
    | inl a ↦ inl a
    | inr (inl (inl a)) ↦ inr (inl (inl a))
    | inr (inl (inr (x, y, a, e, d, inl k))) ↦ inr (inl (inr (x, y, a, e, d, k)))
    | inr (inl (inr (x, y, a, e, d, inr (inl k)))) ↦ inr (inr (inl (inr (x, y, a, e, d, k))))
    | inr (inl (inr (x, y, a, e, d, inr (inr (inl k))))) ↦ inr (inr (inr (inl (inl (inr (x, y, a, e, d, k))))))
    | inr (inl (inr (x, y, a, e, d, inr (inr (inr (y2, y3, p, e2, d2, k)))))) ↦
        inr (inr (inr (inl (inr (x ++ y2, y3, means_as.path_of a p, e ∙ ap (λ z. x ++ z) e2 ∙ sym (append_assoc x y2 y3), ((a, p), refl, (x, y2, refl, d, d2)), k)))))
    | inr (inr a) ↦ inr (inr (inr (inr (marked_onto one_else else_parts else_spread_onto ts a))))
  ]

  part_factored_onto : (r : Part) → Onto (production r) (rule r)
  part_factored_onto a_body = body_onto statement one_statement (statement_factored w) statement_factored_onto
  part_factored_onto some_handlers = handlers_onto statement one_statement (statement_factored w) statement_factored_onto
  part_factored_onto an_else_if = if_onto else_parts one_else else_factored_onto
  part_factored_onto an_expression = λ ts l. l
  part_factored_onto an_operand = λ ts l. l
  part_factored_onto a_path = λ ts l. l
  part_factored_onto maybe_path = λ ts l. l
  part_factored_onto maybe_expression = λ ts l. l
  part_factored_onto a_name = λ ts l. l
  part_factored_onto an_input = λ ts l. l
  part_factored_onto for_parts = λ ts l. l
  part_factored_onto throw_parts = λ ts l. l
  part_factored_onto some_members = λ ts l. l
  part_factored_onto a_type_name = λ ts l. l
  part_factored_onto some_bounds = λ ts l. l
  part_factored_onto some_fields = λ ts l. l
  part_factored_onto some_operations = λ ts l. l
  part_factored_onto port_parts = λ ts l. l
  part_factored_onto some_variables = λ ts l. l
  part_factored_onto some_clauses = λ ts l. l

  part_spread_onto : (r : Part) → Onto (rule r) (production r)
  part_spread_onto a_body = body_onto one_statement statement (statement_spread w) statement_spread_onto
  part_spread_onto some_handlers = handlers_onto one_statement statement (statement_spread w) statement_spread_onto
  part_spread_onto an_else_if = if_onto one_else else_parts else_spread_onto
  part_spread_onto an_expression = λ ts l. l
  part_spread_onto an_operand = λ ts l. l
  part_spread_onto a_path = λ ts l. l
  part_spread_onto maybe_path = λ ts l. l
  part_spread_onto maybe_expression = λ ts l. l
  part_spread_onto a_name = λ ts l. l
  part_spread_onto an_input = λ ts l. l
  part_spread_onto for_parts = λ ts l. l
  part_spread_onto throw_parts = λ ts l. l
  part_spread_onto some_members = λ ts l. l
  part_spread_onto a_type_name = λ ts l. l
  part_spread_onto some_bounds = λ ts l. l
  part_spread_onto some_fields = λ ts l. l
  part_spread_onto some_operations = λ ts l. l
  part_spread_onto port_parts = λ ts l. l
  part_spread_onto some_variables = λ ts l. l
  part_spread_onto some_clauses = λ ts l. l

-- ---- levels

stands_factored : (n : ℕ) (t : Spelled) (p : Opener) (z : List Spelled) → levels.Stands production Allowed n t p z → factored.Stands n t p z
stands_factored zero t (bracket o r c) z h = (h.0, (h.1.0, h.1.1, h.1.2, within_factored (suc h.1.2) r (z ++ h.1.0) h.1.1 h.1.3))
stands_factored zero t (before ks r) z h = h
stands_factored (suc n) t p z h = h

stands_spread : (n : ℕ) (t : Spelled) (p : Opener) (z : List Spelled) → factored.Stands n t p z → levels.Stands production Allowed n t p z
stands_spread zero t (bracket o r c) z h = (h.0, (h.1.0, h.1.1, h.1.2, within_spread (suc h.1.2) r (z ++ h.1.0) h.1.1 h.1.3))
stands_spread zero t (before ks r) z h = h
stands_spread (suc n) t p z h = h

leads_factored : (n : ℕ) (t : Spelled) (p : Opener) (y : List Spelled) → levels.Leads production Allowed n t p y → factored.Leads n t p y
leads_factored zero t p y l = l
leads_factored (suc n) t p y (u, z, h, e, inl k) =
    let within = LeadsTo_more (Allowed n) (Within n) (levels.Leads production Allowed n t) (factored.Leads n t) (within_factored n) (leads_factored n t) (production (opened p)) z k in
    (u, z, h, e, inl (part_factored_onto (Within n) (factored.Leads n t) (opened p) z within))
leads_factored (suc n) t p y (u, z, h, e, inr k) = (u, z, h, e, inr (stands_factored n t p z k))

leads_spread : (n : ℕ) (t : Spelled) (p : Opener) (y : List Spelled) → factored.Leads n t p y → levels.Leads production Allowed n t p y
leads_spread zero t p y l = l
leads_spread (suc n) t p y (u, z, h, e, inl k) =
    let allowed = LeadsTo_more (Within n) (Allowed n) (factored.Leads n t) (levels.Leads production Allowed n t) (within_spread n) (leads_spread n t) (rule (opened p)) z k in
    (u, z, h, e, inl (part_spread_onto (Allowed n) (levels.Leads production Allowed n t) (opened p) z allowed))
leads_spread (suc n) t p y (u, z, h, e, inr k) = (u, z, h, e, inr (stands_spread n t p z k))

-- behind the same tokens the next opens level n + 1 in both forms of the grammar or in none
pub opens_factored : (n : ℕ) (w r : List Spelled) → levels.OpensNext n w r → factored.OpensNext n file w r
opens_factored n w r (t, q, e, l) =
    (t, q, e, LeadsTo_more (Allowed n) (Within n) (levels.Leads production Allowed n t) (factored.Leads n t) (within_factored n) (leads_factored n t) file w l)

pub opens_spread : (n : ℕ) (w r : List Spelled) → factored.OpensNext n file w r → levels.OpensNext n w r
opens_spread n w r (t, q, e, l) =
    (t, q, e, LeadsTo_more (Within n) (Allowed n) (factored.Leads n t) (levels.Leads production Allowed n t) (within_spread n) (leads_spread n t) file w l)
