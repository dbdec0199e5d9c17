-- What is printed of a root type and of a field, and what is kept of each form of a type without its places.
use Rattle.std.proofs.Common.{◌≡◌, ℕ, List, [], ◌∷◌, ◌++◌, map, Option, Some, None, refl, sym, ap, ◌∙◌, codes}
use Rattle.std.specs.Prelude.{option_map, flat_map}
use Rattle.std.specs.Option.{option_map_or}
use Rattle.jolie_ast.specs.declared.name.Name.{Name}
use Rattle.jolie_ast.specs.declared.types.RootKind.{RootKind}
use Rattle.jolie_ast.specs.declared.types.Cardinality.{Cardinality}
use Rattle.jolie_ast.specs.declared.types.TypeBody.{TypeBody}
use Rattle.jolie_ast.specs.declared.types.TypeBody.TheVariants as body
use Rattle.jolie_ast.specs.declared.types.Field.{Field, roll-Field}
use Rattle.jolie_ast.specs.declared.types.TypeBody.TheOpen.{TypeBody-F}
use Rattle.jolie_ast.specs.declared.types.TypeBody.TheFolds.{fold-roll-TypeBody, fold-roll-Field}
use Rattle.jolie_ast.specs.Spacing.{Token}
use Rattle.jolie_ast.specs.PrintedExpressions.{in_braces}
use Rattle.jolie_ast.specs.PrintedParts.{maybe}
use Rattle.jolie_ast.specs.Printed as printed
use Rattle.jolie_ast.specs.Printed.{root_token, cardinality_tokens, body_tokens, field_tokens}
use Rattle.jolie_ast.proofs.Spacing.{mapped_tokens}
use Rattle.jolie_round_trip.specs.Placeless as placeless
use Rattle.jolie_round_trip.specs.Placeless.{name_placeless, body_placeless, field_placeless}

-- ---- without places

pub root_placeless : (at : ℕ) (kind : RootKind) (fields : Option (List Field)) → body_placeless (body.Root at kind fields) ≡ body.Root 0 kind (option_map (map field_placeless) fields)
unfolding body_placeless field_placeless
root_placeless at kind None =
    ap body_placeless (sym (body.rolls-Root at kind None)) ∙ fold-roll-TypeBody TypeBody Field placeless.body_level placeless.field_level (TypeBody-F.Root at kind None)
root_placeless at kind (Some fields) =
    ap body_placeless (sym (body.rolls-Root at kind (Some fields))) ∙ fold-roll-TypeBody TypeBody Field placeless.body_level placeless.field_level (TypeBody-F.Root at kind (Some fields))

pub named_placeless : (name : Name) → body_placeless (body.Named name) ≡ body.Named (name_placeless name)
unfolding body_placeless field_placeless
named_placeless name =
    ap body_placeless (sym (body.rolls-Named name)) ∙ fold-roll-TypeBody TypeBody Field placeless.body_level placeless.field_level (TypeBody-F.Named name)

pub undefined_placeless : (at : ℕ) → body_placeless (body.Undefined at) ≡ body.Undefined 0
unfolding body_placeless field_placeless
undefined_placeless at =
    ap body_placeless (sym (body.rolls-Undefined at)) ∙ fold-roll-TypeBody TypeBody Field placeless.body_level placeless.field_level (TypeBody-F.Undefined at)

pub field_rolled : (name : Name) (cardinality : Option Cardinality) (ty : TypeBody) → field_placeless (roll-Field (record { name = name; cardinality = cardinality; body = ty })) ≡ roll-Field (record { name = name_placeless name; cardinality = cardinality; body = body_placeless ty })
unfolding body_placeless field_placeless
field_rolled name cardinality ty = fold-roll-Field TypeBody Field placeless.body_level placeless.field_level (record { name = name; cardinality = cardinality; body = ty })

-- ---- what is printed

pub root_printed : (at : ℕ) (kind : RootKind) (fields : Option (List Field)) → body_tokens (body.Root at kind fields) ≡ root_token kind ∷ maybe (option_map (λ fs. in_braces (flat_map field_tokens fs)) fields)
unfolding body_tokens field_tokens
root_printed at kind None =
    ap body_tokens (sym (body.rolls-Root at kind None)) ∙ fold-roll-TypeBody (List Token) (List Token) printed.body_level printed.field_level (TypeBody-F.Root at kind None)
root_printed at kind (Some fields) =
    ap body_tokens (sym (body.rolls-Root at kind (Some fields)))
    ∙ fold-roll-TypeBody (List Token) (List Token) printed.body_level printed.field_level (TypeBody-F.Root at kind (Some fields))
    ∙ ap (λ ts. root_token kind ∷ in_braces ts) (mapped_tokens (λ ts. ts) field_tokens fields)

cardinality_printed : (cardinality : Option Cardinality) → option_map_or cardinality_tokens cardinality [] ≡ maybe (option_map cardinality_tokens cardinality)
cardinality_printed None = refl
cardinality_printed (Some cardinality) = refl

pub field_printed : (name : Name) (cardinality : Option Cardinality) (ty : TypeBody) → field_tokens (roll-Field (record { name = name; cardinality = cardinality; body = ty })) ≡ name.text ∷ (maybe (option_map cardinality_tokens cardinality) ++ codes ":" ∷ body_tokens ty)
unfolding body_tokens field_tokens
field_printed name cardinality ty =
    fold-roll-Field (List Token) (List Token) printed.body_level printed.field_level (record { name = name; cardinality = cardinality; body = ty })
    ∙ ap (λ ts. name.text ∷ (ts ++ codes ":" ∷ body_tokens ty)) (cardinality_printed cardinality)
