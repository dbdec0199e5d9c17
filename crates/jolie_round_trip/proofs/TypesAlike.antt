-- A type without its places is printed as the type.
use Rattle.std.proofs.Common.{◌≡◌, List, ◌∷◌, ◌++◌, map, Option, Some, None, refl, sym, ap, subst, ◌∙◌, codes}
use Rattle.std.specs.Prelude.{option_map}
use Rattle.jolie_ast.specs.declared.name.Name.{Name}
use Rattle.jolie_ast.specs.declared.types.Cardinality.{Cardinality}
use Rattle.jolie_ast.specs.declared.types.TypeBody.{TypeBody, roll-TypeBody}
use Rattle.jolie_ast.specs.declared.types.TypeBody.TheVariants as body
use Rattle.jolie_ast.specs.declared.types.Field.{Field, roll-Field}
use Rattle.jolie_ast.specs.declared.types.TypeBody.TheOpen.{TypeBody-F}
use Rattle.jolie_ast.specs.declared.types.TypeBody.TheFolds.{map-TypeBody, ind-TypeBody, ind-Field}
use Rattle.jolie_ast.specs.declared.types.DefinedType.{DefinedType}
use Rattle.jolie_ast.specs.declared.types.DefinedType.TheVariants as defined
use Rattle.jolie_ast.specs.declared.types.TypeDefinition.{TypeDefinition}
use Rattle.jolie_ast.specs.PrintedExpressions.{in_braces}
use Rattle.jolie_ast.specs.PrintedParts.{maybe}
use Rattle.jolie_ast.specs.Printed.{root_token, cardinality_tokens, body_tokens, field_tokens, defined_tokens, type_tokens}
use Rattle.jolie_ast.proofs.PrintedTypes.{named_body, undefined_body}
use Rattle.jolie_round_trip.specs.Placeless.{name_placeless, body_placeless, field_placeless, defined_placeless, type_placeless}
use Rattle.jolie_round_trip.proofs.PrintedTypes.{root_placeless, named_placeless, undefined_placeless, field_rolled, root_printed, field_printed}
use Rattle.jolie_round_trip.proofs.ListsAlike.{lists_alike, known_lists}

abbrev BodyAlike : TypeBody → Type 0
BodyAlike x = body_tokens (body_placeless x) ≡ body_tokens x

abbrev FieldAlike : Field → Type 0
FieldAlike x = field_tokens (field_placeless x) ≡ field_tokens x

-- ---- one level, of which the parts are known

abbrev KnownBody : Type 0
KnownBody = (x : TypeBody) × BodyAlike x

abbrev KnownField : Type 0
KnownField = (x : Field) × FieldAlike x

abbrev body_of : TypeBody-F KnownBody KnownField → TypeBody
body_of y = roll-TypeBody (map-TypeBody KnownBody KnownField TypeBody Field (λ e. e.0) (λ e. e.0) y)

body_known : (y : TypeBody-F KnownBody KnownField) → BodyAlike (body_of y)
body_known (TypeBody-F.Root at kind None) = subst BodyAlike (sym (body.rolls-Root at kind None)) (ap body_tokens (root_placeless at kind None) ∙ root_printed 0 kind None ∙ sym (root_printed at kind None))
body_known (TypeBody-F.Root at kind (Some fields)) =
    let fs : List Field = map (λ f. f.0) fields in
    subst BodyAlike (sym (body.rolls-Root at kind (Some fs)))
    (ap body_tokens (root_placeless at kind (Some fs))
    ∙ root_printed 0 kind (Some (map field_placeless fs))
    ∙ ap (λ ts. root_token kind ∷ in_braces ts) (known_lists field_placeless field_tokens (λ f k. k) fields)
    ∙ sym (root_printed at kind (Some fs)))
body_known (TypeBody-F.Named name) = subst BodyAlike (sym (body.rolls-Named name)) (ap body_tokens (named_placeless name) ∙ named_body (name_placeless name) ∙ sym (named_body name))
body_known (TypeBody-F.Undefined at) = subst BodyAlike (sym (body.rolls-Undefined at)) (ap body_tokens (undefined_placeless at) ∙ undefined_body 0 ∙ sym (undefined_body at))

field_known : (name : Name) (count : Option Cardinality) (ty : KnownBody) → FieldAlike (roll-Field (record { name = name; cardinality = count; body = ty.0 }))
field_known name count (ty, k) =
    ap field_tokens (field_rolled name count ty)
    ∙ field_printed (name_placeless name) count (body_placeless ty)
    ∙ ap (λ ts. name.text ∷ (maybe (option_map cardinality_tokens count) ++ codes ":" ∷ ts)) k
    ∙ sym (field_printed name count ty)

-- ---- by induction

body_alike : (x : TypeBody) → BodyAlike x
body_alike = ind-TypeBody BodyAlike FieldAlike
    (λ x y is. subst (λ z. BodyAlike (roll-TypeBody z)) is (body_known y))
    (λ x y is. subst (λ z. FieldAlike (roll-Field z)) is (field_known y.name y.cardinality y.body))

field_alike : (x : Field) → FieldAlike x
field_alike = ind-Field BodyAlike FieldAlike
    (λ x y is. subst (λ z. BodyAlike (roll-TypeBody z)) is (body_known y))
    (λ x y is. subst (λ z. FieldAlike (roll-Field z)) is (field_known y.name y.cardinality y.body))

defined_alike : (d : DefinedType) → defined_tokens (defined_placeless d) ≡ defined_tokens d
defined_alike (defined.Body body) = rw (body_alike body) refl
defined_alike (defined.Fields fields) = rw (lists_alike field_placeless field_tokens field_alike fields) refl

pub type_alike : (t : TypeDefinition) → type_tokens (type_placeless t) ≡ type_tokens t
type_alike t = ap (λ ts. codes "type" ∷ (t.name.text ∷ ts)) (defined_alike t.body)
