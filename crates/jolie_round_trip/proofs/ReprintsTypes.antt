-- Types are printed so that they are read again.
use Rattle.std.proofs.Common.{◌≡◌, ℕ, zero, suc, ℤ, List, [], ◌∷◌, ◌++◌, map, Option, Some, None, ◌⊎◌, inl, inr, refl, sym, ap, subst, ◌∙◌, codes, if◌then◌else◌}
use Rattle.std.specs.Prelude.{option_map, flat_map}
use Rattle.jolie_tokens.specs.declared.sign.Sign.TheVariants as sign
use Rattle.jolie_tokens.specs.declared.token.TokenKind.{TokenKind}
use Rattle.jolie_tokens.specs.declared.token.TokenKind.TheVariants as kind
use Rattle.jolie_ast.specs.declared.types.Cardinality.{Cardinality}
use Rattle.jolie_ast.specs.declared.types.Cardinality.TheVariants as cardinality
use Rattle.jolie_ast.specs.declared.types.TypeBody.{TypeBody}
use Rattle.jolie_ast.specs.declared.types.TypeBody.TheVariants as body
use Rattle.jolie_ast.specs.declared.types.Field.{Field, roll-Field}
use Rattle.jolie_ast.specs.declared.types.DefinedType.{DefinedType}
use Rattle.jolie_ast.specs.declared.types.DefinedType.TheVariants as defined
use Rattle.jolie_ast.specs.declared.types.TypeDefinition.{TypeDefinition}
use Rattle.jolie_ast.specs.declared.interface.TypeName.TheVariants as type_name
use Rattle.jolie_ast.specs.Spacing.{Token}
use Rattle.jolie_ast.specs.PrintedExpressions.{in_braces}
use Rattle.jolie_ast.specs.PrintedParts.{int_token}
use Rattle.jolie_ast.specs.Printed.{root_token, most_token, cardinality_tokens, body_tokens, field_tokens, defined_tokens, type_tokens, type_name_token}
use Rattle.jolie_ast.proofs.PrintedTypes.{named_body, undefined_body}
use Rattle.jolie_parse.specs.declared.class.Class.TheVariants as classed
use Rattle.jolie_parse.specs.ClassNames as c
use Rattle.jolie_parse.specs.Classes.{Spelled, class, class_of, place, same}
use Rattle.jolie_parse.specs.Made as made
use Rattle.jolie_parse.specs.Meanings as means_as
use Rattle.jolie_parse.specs.Syntax.{Part, Meant, Lang, Syn, Derives, some_bounds, some_fields, between, token}
use Rattle.jolie_parse.specs.Grammar.{one, kinds, root_type, type_body, bounds, cardinal, field, defined_type, type_definition, type_named, braces, Allowed}
use Rattle.jolie_round_trip.specs.Placeless.{body_placeless, field_placeless, defined_placeless, type_placeless, type_name_placeless}
use Rattle.jolie_round_trip.proofs.Lexemes.{Lexeme, lexeme_of, lexemes_of, printed_form, printed_spelling, printed_class}
use Rattle.jolie_round_trip.proofs.ClassTokens.{every_has}
use Rattle.jolie_round_trip.proofs.Echo.{Echo, echo_as}
use Rattle.jolie_round_trip.proofs.Parts.{Inner, bounds_tokens}
use Rattle.jolie_round_trip.proofs.Reprints.{Reprints, reprints_both, reprints_either, reprints_means}
use Rattle.jolie_round_trip.proofs.ReprintsTokens.{kind_kept, reprints_token, reprints_one, reprints_among, reprints_kinds, reprints_between}
use Rattle.jolie_round_trip.proofs.ReprintsForms.{reprints_behind, reprints_optional, reprints_dropped, reprints_dropped_after}
use Rattle.jolie_round_trip.proofs.ReprintsPaths.{id_reprints, word_reprints, name_spelled}
use Rattle.jolie_round_trip.proofs.EchoPrimaries.{int_of, int_bytes}
use Rattle.jolie_round_trip.proofs.PrintedTypes.{root_placeless, named_placeless, undefined_placeless, field_rolled, root_printed, field_printed}

-- ---- types by name

module _ {w : (r : Part) → Lang (Meant r)} where
  kind_reprints : Reprints w (token kinds) class (λ t. root_token (means_as.root_kind (class t)) ∷ [])
  kind_reprints = reprints_among kinds (λ k. root_token (means_as.root_kind k)) ((refl, refl), ((refl, refl), ((refl, refl), ((refl, refl), ((refl, refl), ((refl, refl), tt))))))

  pub type_named_reprints : Reprints w type_named type_name_placeless (λ t. type_name_token t ∷ [])
  unfolding type_named
  type_named_reprints =
      reprints_either
      (reprints_means (λ t. type_name.Root (place t) (means_as.root_kind (class t))) type_name_placeless (λ t. type_name_token t ∷ []) (λ k. type_name.Root 0 (means_as.root_kind k)) (λ t. refl) (λ t. refl) kind_reprints)
      (reprints_either
      (reprints_means (λ t. type_name.Named (means_as.name_of t)) type_name_placeless (λ t. type_name_token t ∷ []) (λ text. type_name.Named (name_spelled text)) (λ t. refl) (λ t. refl) id_reprints)
      (reprints_means (λ t. type_name.Undefined (place t)) type_name_placeless (λ t. type_name_token t ∷ []) (λ z. type_name.Undefined 0) (λ t. refl) (λ t. refl) (reprints_one c.the_undefined refl)))

-- ---- bounds

-- the most of bounds, by its token
abbrev most_of : Lexeme → Option ℤ
most_of l = if same (class_of l.kind l.spelling) c.int_number then Some (int_of l.kind) else None

most_class : (k : TokenKind) (bytes : List ℕ) → (class_of k bytes ≡ classed.Int) ⊎ (class_of k bytes ≡ classed.Sign sign.Star) → printed_spelling k bytes ≡ most_token (most_of (record { kind = k; spelling = bytes }))
most_class kind.Word bytes (inl e) = absurd cc
most_class kind.Word bytes (inr e) = absurd cc
most_class (kind.Int n) bytes e = refl
most_class (kind.Long n) bytes (inl e) = absurd cc
most_class (kind.Long n) bytes (inr e) = absurd cc
most_class (kind.Str text) bytes (inl e) = absurd cc
most_class (kind.Str text) bytes (inr e) = absurd cc
most_class (kind.Sign s) bytes (inl e) = absurd cc
most_class (kind.Sign s) bytes (inr e) =
    let star : s ≡ sign.Star = cc in
    subst (λ x. printed_spelling (kind.Sign x) bytes ≡ most_token (most_of (record { kind = kind.Sign x; spelling = bytes }))) (sym star) refl

most_printed : (l : Lexeme) → most_of (printed_form l) ≡ most_of l
most_printed l = ap (λ k. if same k c.int_number then Some (int_of l.kind) else None) (printed_class l)

module _ {w : (r : Part) → Lang (Meant r)} where
  int_reprints : Reprints w (one c.int_number) kind_kept (λ t. int_token (int_of t.token.kind) ∷ [])
  int_reprints = reprints_kinds (c.int_number ∷ []) (λ k. int_token (int_of k)) int_bytes

  most_reprints : Reprints w (token (c.int_number ∷ c.sign_star ∷ [])) (λ t. most_of (lexeme_of t)) (λ t. most_token (most_of (lexeme_of t)) ∷ [])
  most_reprints =
      reprints_token (c.int_number ∷ c.sign_star ∷ []) (λ t. most_of (lexeme_of t)) (λ t. most_token (most_of (lexeme_of t)))
      (λ t h. most_class t.token.kind t.spelling (every_has (λ j. (j ≡ classed.Int) ⊎ (j ≡ classed.Sign sign.Star)) (c.int_number ∷ c.sign_star ∷ []) (class t) (inl refl, (inr refl, tt)) h))
      (λ u t h e. ap most_of e ∙ most_printed (lexeme_of t))

  pub bounds_reprints : Reprints w bounds (λ b. b) bounds_tokens
  unfolding bounds
  bounds_reprints =
      reprints_means (λ q. means_as.bounds_of q.0 q.1) (λ b. b) bounds_tokens (λ z. cardinality.Between (int_of z.0) z.1) (λ q. refl) (λ q. refl)
      (reprints_both int_reprints (reprints_behind c.sign_comma refl most_reprints))

-- ---- how often a field may stand

-- `[least, most]`
abbrev IsBetween : Cardinality → Type 0
IsBetween v = (least : ℤ) × (most : Option ℤ) × (cardinality.Between least most ≡ v)

bounds_between : (w : (r : Part) → Lang (Meant r)) (ts : List Spelled) (v : Cardinality) → Derives w bounds ts v → IsBetween v
unfolding bounds
bounds_between w ts v d = (means_as.int_value d.0.0, (if same (class d.0.1) c.int_number then Some (means_as.int_value d.0.1) else None), d.1)

nested_between : (n : ℕ) (ts : List Spelled) (v : Cardinality) → Allowed n some_bounds ts v → IsBetween v
nested_between zero ts v d = absurd d
nested_between (suc n) ts v d = bounds_between (Allowed n) ts v d

-- a token of a lexeme
abbrev placed : Lexeme → Spelled
placed l = record { token = record { kind = l.kind; at = 0; len = 0 }; spelling = l.spelling }

placed_lexemes : (ls : List Lexeme) → lexemes_of (map placed ls) ≡ ls
placed_lexemes [] = refl
placed_lexemes (l ∷ ls) = ap (λ x. l ∷ x) (placed_lexemes ls)

-- bounds in brackets
abbrev bracketed : Syn Cardinality
bracketed = between c.sign_open_bracket some_bounds c.sign_close_bracket

echo_between : (v : Cardinality) (out : List Token) → Echo (λ b. b) bracketed v out → IsBetween v
echo_between v out e =
    let again = e.read (map placed e.lexemes) (placed_lexemes e.lexemes) in
    let found = again.1.2.5 in
    subst IsBetween (again.1.1 ∙ again.2) (nested_between found.0 again.1.2.1 again.1.0.1 found.1)

brackets_printed : (v : Cardinality) → IsBetween v → cardinality_tokens v ≡ codes "[" ∷ (bounds_tokens v ++ codes "]" ∷ [])
brackets_printed v h = subst (λ x. cardinality_tokens x ≡ codes "[" ∷ (bounds_tokens x ++ codes "]" ∷ [])) h.2 refl

module _ {w : (r : Part) → Lang (Meant r)} (inner : Inner w) where
  brackets_echo : (v : Cardinality) → Echo (λ b. b) bracketed v (codes "[" ∷ (bounds_tokens v ++ codes "]" ∷ [])) → Echo (λ b. b) bracketed v (cardinality_tokens v)
  brackets_echo v e = echo_as e (cardinality_tokens v) (sym (brackets_printed v (echo_between v _ e)))

  brackets_reprints : Reprints w bracketed (λ b. b) cardinality_tokens
  brackets_reprints =
      let plain = reprints_between inner c.sign_open_bracket some_bounds c.sign_close_bracket refl refl in
      record { echo = λ ts v d valid. brackets_echo v (plain.echo ts v d valid) }

  cardinal_reprints : Reprints w cardinal (λ b. b) cardinality_tokens
  unfolding cardinal
  cardinal_reprints =
      reprints_either
      (reprints_means (λ t. cardinality.Optional) (λ b. b) cardinality_tokens (λ z. cardinality.Optional) (λ t. refl) (λ t. refl) (reprints_one c.sign_question refl))
      (reprints_either
      (reprints_means (λ t. cardinality.Any) (λ b. b) cardinality_tokens (λ z. cardinality.Any) (λ t. refl) (λ t. refl) (reprints_one c.sign_star refl))
      brackets_reprints)

  -- ---- types

  braces_reprints : Reprints w (braces some_fields) (map field_placeless) (λ fs. in_braces (flat_map field_tokens fs))
  braces_reprints = reprints_between inner c.sign_open_brace some_fields c.sign_close_brace refl refl

  root_type_reprints : Reprints w root_type body_placeless body_tokens
  unfolding root_type
  root_type_reprints =
      reprints_means means_as.root_body body_placeless body_tokens (λ z. body.Root 0 (means_as.root_kind z.0) z.1)
      (λ q. root_placeless (place q.0) (means_as.root_kind (class q.0)) q.1)
      (λ q. root_printed (place q.0) (means_as.root_kind (class q.0)) q.1)
      (reprints_both kind_reprints (reprints_optional braces_reprints))

  type_body_reprints : Reprints w type_body body_placeless body_tokens
  unfolding type_body
  type_body_reprints =
      reprints_either root_type_reprints
      (reprints_either
      (reprints_means (λ t. body.Named (means_as.name_of t)) body_placeless body_tokens (λ text. body.Named (name_spelled text)) (λ t. named_placeless (means_as.name_of t)) (λ t. named_body (means_as.name_of t)) id_reprints)
      (reprints_means (λ t. body.Undefined (place t)) body_placeless body_tokens (λ z. body.Undefined 0) (λ t. undefined_placeless (place t)) (λ t. undefined_body (place t)) (reprints_one c.the_undefined refl)))

  -- a field of its name, cardinality and type
  abbrev field_spelled : List ℕ × (Option Cardinality × TypeBody) → Field
  field_spelled z = roll-Field (record { name = name_spelled z.0; cardinality = z.1.0; body = z.1.1 })

  field_kept : (t : Spelled) (count : Option Cardinality) (ty : TypeBody) → field_placeless (made.field_of t count ty) ≡ field_spelled (t.spelling, (option_map (λ b. b) count, body_placeless ty))
  field_kept t None ty = field_rolled (means_as.name_of t) None ty
  field_kept t (Some count) ty = field_rolled (means_as.name_of t) (Some count) ty

  pub field_reprints : Reprints w field field_placeless field_tokens
  unfolding field
  field_reprints =
      reprints_means (λ q. made.field_of q.1.0 q.1.1.0 q.1.1.1.0) field_placeless field_tokens field_spelled
      (λ q. field_kept q.1.0 q.1.1.0 q.1.1.1.0)
      (λ q. field_printed (means_as.name_of q.1.0) q.1.1.0 q.1.1.1.0)
      (reprints_dropped (one c.sign_dot)
      (reprints_both word_reprints
      (reprints_both (reprints_optional cardinal_reprints)
      (reprints_dropped_after (one c.sign_comma) (reprints_behind c.sign_colon refl type_body_reprints)))))

  defined_type_reprints : Reprints w defined_type defined_placeless defined_tokens
  unfolding defined_type
  defined_type_reprints =
      reprints_either
      (reprints_means defined.Body defined_placeless defined_tokens defined.Body (λ v. refl) (λ v. refl) (reprints_behind c.sign_colon refl type_body_reprints))
      (reprints_means defined.Fields defined_placeless defined_tokens defined.Fields (λ v. refl) (λ v. refl) braces_reprints)

  -- a definition of its name and what stands behind it
  abbrev definition_spelled : List ℕ × DefinedType → TypeDefinition
  definition_spelled z = record { at = 0; name = name_spelled z.0; body = z.1 }

  pub type_definition_reprints : Reprints w type_definition type_placeless type_tokens
  unfolding type_definition
  type_definition_reprints =
      reprints_means (λ q. means_as.definition_of q.0 q.1.0 q.1.1) type_placeless type_tokens (λ z. definition_spelled z.1) (λ q. refl) (λ q. refl)
      (reprints_both (reprints_one c.the_type refl) (reprints_both id_reprints defined_type_reprints))
