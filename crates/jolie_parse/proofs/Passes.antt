-- Reading with no level left passes no bracket that opens.
use Rattle.std.proofs.Common.{◌≡◌, ℕ, zero, suc, Bool, true, false, ◌&&◌, not, List, [], ◌∷◌, ◌++◌, length, refl, sym, ap, ◌∙◌, append_assoc, if◌then◌else◌}
use Rattle.jolie_parse.specs.declared.class.Class.{Class}
use Rattle.jolie_parse.specs.Classes.{Spelled, class, has, begins, open_brackets}
use Rattle.jolie_parse.specs.Syntax.{Part, an_expression, an_operand, a_path, maybe_path, maybe_expression, a_body, some_handlers, a_name, an_input, an_else_if, for_parts, throw_parts, some_members, a_type_name, some_bounds, some_fields, some_operations, port_parts, some_variables, some_clauses, Syn, token, give, both, either, many, means, inside, prefix}
use Rattle.jolie_parse.specs.Deciding.{first, disjoint}
use Rattle.jolie_parse.specs.Grammar.{id, word, index, step, path_parts, path, whole_number, long_number, quoted_text, truth, path_value, size, defined_test, cast, grouped, literal, primary, prefixed_operand, unary, factor, product, term, sum, comparand, comparison, conjunction, expr, member, members, block, reply, input_parts, input, branch, choice, answer, output_parts, output, count, change, assign, correlate, last_change, loop_parts, undefine, repetition, counted_loop, scope, install, throw, compensate, inner_handler, block_statement, nothing, handler_key, thrown, name, root_type, type_body, bounds, cardinal, field, defined_type, type_definition, type_named, fault, throws, request_response, one_way, request_responses, one_ways, operation_group, interface, alias, variable, execution_clause, port_body, port, correlation_set, init_clause, main_clause, clauses, service, file_part, file}
use Rattle.jolie_parse.specs.Factored.{named_parts, one_else, one_statement, rule}
use Rattle.jolie_parse.specs.Reading.{Outcome, got, refused, too_deep, and_then, take_token, repeat, no_level, read}
use Rattle.jolie_parse.proofs.Sets.{and_left, and_right, is_false, apart}

-- none of these is a bracket that opens
abbrev pub Unopened : List Spelled → Type 0
Unopened [] = Unit {0}
Unopened (t ∷ w) = (has open_brackets (class t) ≡ false) × Unopened w

-- the second is what is left of the first behind tokens of which none is a bracket that opens
abbrev pub Passes : List Spelled → List Spelled → Type 0
Passes ts r = (w : List Spelled) × (ts ≡ w ++ r) × Unopened w

unopened_more : (w y : List Spelled) → Unopened w → Unopened y → Unopened (w ++ y)
unopened_more [] y h g = g
unopened_more (t ∷ w) y h g = (h.0, unopened_more w y h.1 g)

passes_none : (ts : List Spelled) → Passes ts ts
passes_none ts = ([], refl, tt)

passes_on : (ts r s : List Spelled) → Passes ts r → Passes r s → Passes ts s
passes_on ts r s h g = (h.0 ++ g.0, h.1 ∙ ap (λ y. h.0 ++ y) g.1 ∙ sym (append_assoc h.0 g.0 s), unopened_more h.0 g.0 h.2 g.2)

-- the tokens that an outcome leaves
abbrev pub left_over : {A : Type 0} → Outcome A → List Spelled
left_over (got a r) = r
left_over (refused r) = r
left_over (too_deep r) = r

passes_then : {A B : Type 0} (ts : List Spelled) (o : Outcome A) (f : A → List Spelled → Outcome B)
    → Passes ts (left_over o) → ((a : A) (r : List Spelled) → Passes r (left_over (f a r))) → Passes ts (left_over (and_then o f))
passes_then ts (got a r) f h g = passes_on ts r (left_over (f a r)) h (g a r)
passes_then ts (refused r) f h g = h
passes_then ts (too_deep r) f h g = h

passes_if : {A : Type 0} (b : Bool) (o u : Outcome A) (ts : List Spelled) → (b ≡ true → Passes ts (left_over o)) → (b ≡ false → Passes ts (left_over u)) → Passes ts (left_over (if b then o else u))
passes_if true o u ts h g = h refl
passes_if false o u ts h g = g refl

passes_token : (ks : List Class) → disjoint ks open_brackets ≡ true → (ts : List Spelled) → Passes ts (left_over (take_token ks ts))
passes_token ks d [] = passes_none []
passes_token ks d (t ∷ ts) =
    passes_if (has ks (class t)) (got t ts) (refused (t ∷ ts)) (t ∷ ts)
    (λ e. (t ∷ [], refl, (is_false (has open_brackets (class t)) (λ g. apart ks open_brackets (class t) d e g), tt)))
    (λ e. passes_none (t ∷ ts))

passes_repeat : {A : Type 0} (one : List Spelled → Outcome A) (ks : List Class) → ((ts : List Spelled) → Passes ts (left_over (one ts)))
    → (n : ℕ) (ts : List Spelled) → Passes ts (left_over (repeat one ks n ts))
passes_repeat one ks h zero ts = passes_none ts
passes_repeat one ks h (suc n) ts =
    passes_if (begins ks ts) (and_then (one ts) (λ a r. and_then (repeat one ks n r) (λ more rest. got (a ∷ more) rest))) (got [] ts) ts
    (λ e. passes_then ts (one ts) (λ a r. and_then (repeat one ks n r) (λ more rest. got (a ∷ more) rest)) (h ts)
    (λ a r. passes_then r (repeat one ks n r) (λ more rest. got (a ∷ more) rest) (passes_repeat one ks h n r) (λ more rest. passes_none rest)))
    (λ e. passes_none ts)

passes_no_level : (A : Type 0) (ks : List Class) (ts : List Spelled) → Passes ts (left_over (no_level {A = A} ks ts))
passes_no_level A ks ts = passes_if (begins ks ts) (too_deep ts) (refused ts) ts (λ e. passes_none ts) (λ e. passes_none ts)

-- its brackets that open are those of levels, and what closes a level is none
abbrev pub plain : {A : Type 0} → Syn A → Bool
plain (token ks) = disjoint ks open_brackets
plain (give a) = true
plain (both s t) = plain s && plain t
plain (either s t) = plain s && plain t
plain (many s) = plain s
plain (means f s) = plain s
plain (inside o r c) = not (has open_brackets c)
plain (prefix ks r) = true

-- with no level left, a bracket that opens is not passed
pub passes_read : {A : Type 0} (s : Syn A) → plain s ≡ true → (ts : List Spelled) → Passes ts (left_over (read 0 s ts))
passes_read (token ks) p ts = passes_token ks p ts
passes_read (give a) p ts = passes_none ts
passes_read (both s t) p ts =
    passes_then ts (read 0 s ts) (λ a r. and_then (read 0 t r) (λ b r2. got (a, b) r2)) (passes_read s (and_left (plain s) (plain t) p) ts)
    (λ a r. passes_then r (read 0 t r) (λ b r2. got (a, b) r2) (passes_read t (and_right (plain s) (plain t) p) r) (λ b r2. passes_none r2))
passes_read (either s t) p ts =
    passes_if (begins (first s) ts) (read 0 s ts) (read 0 t ts) ts (λ e. passes_read s (and_left (plain s) (plain t) p) ts) (λ e. passes_read t (and_right (plain s) (plain t) p) ts)
passes_read (many s) p ts = passes_repeat (read 0 s) (first s) (passes_read s p) (length ts) ts
passes_read (means f s) p ts = passes_then ts (read 0 s ts) (λ a r. got (f a) r) (passes_read s p ts) (λ a r. passes_none r)
passes_read (inside o r c) p ts = passes_no_level _ (o ∷ []) ts
passes_read (prefix ks r) p ts = passes_no_level _ ks ts

-- what is left behind tokens without a bracket that opens still has the first that does
pub still_there : (t : Spelled) (q : List Spelled) → has open_brackets (class t) ≡ true → (z w r : List Spelled) → z ++ t ∷ q ≡ w ++ r → Unopened w
    → (y : List Spelled) × (z ≡ w ++ y) × (r ≡ y ++ t ∷ q)
still_there t q h z [] r e u = (z, refl, sym e)
still_there t q h [] (a ∷ w) r e u = let same : t ≡ a = cc in let other : has open_brackets (class t) ≡ false = ap (λ x. has open_brackets (class x)) same ∙ u.0 in cc
still_there t q h (b ∷ z) (a ∷ w) r e u =
    let same : b ≡ a = cc in
    let rest : z ++ t ∷ q ≡ w ++ r = cc in
    let k = still_there t q h z w r rest u.1 in
    (k.0, ap (λ x. x ∷ z) same ∙ ap (λ x. a ∷ x) k.1, k.2)

-- ---- the grammar's brackets are those of levels

pub rules_plain : (r : Part) → plain (rule r) ≡ true
unfolding id word index step path_parts path whole_number long_number quoted_text truth path_value size defined_test cast grouped literal primary prefixed_operand unary factor product term sum comparand comparison conjunction expr member members block reply input_parts input branch choice answer output_parts output count change assign correlate last_change loop_parts undefine repetition counted_loop scope install throw compensate inner_handler block_statement nothing handler_key thrown name root_type type_body bounds cardinal field defined_type type_definition type_named fault throws request_response one_way request_responses one_ways operation_group interface alias variable execution_clause port_body port correlation_set init_clause main_clause clauses service file_part file named_parts one_else one_statement
rules_plain an_expression = refl
rules_plain an_operand = refl
rules_plain a_path = refl
rules_plain maybe_path = refl
rules_plain maybe_expression = refl
rules_plain a_body = refl
rules_plain some_handlers = refl
rules_plain a_name = refl
rules_plain an_input = refl
rules_plain an_else_if = refl
rules_plain for_parts = refl
rules_plain throw_parts = refl
rules_plain some_members = refl
rules_plain a_type_name = refl
rules_plain some_bounds = refl
rules_plain some_fields = refl
rules_plain some_operations = refl
rules_plain port_parts = refl
rules_plain some_variables = refl
rules_plain some_clauses = refl

pub file_plain : plain file ≡ true
unfolding id word index step path_parts path whole_number long_number quoted_text truth path_value size defined_test cast grouped literal primary prefixed_operand unary factor product term sum comparand comparison conjunction expr member members block reply input_parts input branch choice answer output_parts output count change assign correlate last_change loop_parts undefine repetition counted_loop scope install throw compensate inner_handler block_statement nothing handler_key thrown name root_type type_body bounds cardinal field defined_type type_definition type_named fault throws request_response one_way request_responses one_ways operation_group interface alias variable execution_clause port_body port correlation_set init_clause main_clause clauses service file_part file named_parts one_else one_statement
file_plain = refl
