-- What the types of a text mean at each form.
use Rattle.std.proofs.Common.{◌≡◌, ℕ, List, [], map, Option, None, Some, ap, sym, ◌∙◌}
use Rattle.std.specs.Prelude.{unwrap_or}
use Rattle.jolie_ast.specs.declared.name.Name.{Name}
use Rattle.jolie_ast.specs.declared.types.RootKind.{RootKind}
use Rattle.jolie_ast.specs.declared.types.RootKind.TheVariants as written
use Rattle.jolie_ast.specs.declared.types.TypeBody.TheOpen.{TypeBody-F}
use Rattle.jolie_ast.specs.declared.types.TypeBody.TheFolds.{fold-roll-TypeBody, fold-roll-Field}
use Rattle.jolie_ast.specs.declared.types.TypeBody.{roll-TypeBody}
use Rattle.jolie_ast.specs.declared.types.TypeBody.TheVariants as body
use Rattle.jolie_ast.specs.declared.types.Field.{Field, out-Field, roll-out-Field}
use Rattle.behaviour_tree.specs.declared.types.RootKind.TheVariants as kind
use Rattle.behaviour_tree.specs.Data as plain
use Rattle.behaviour_tree.specs.Data.{TypeTree}
use Rattle.behaviour_tree.specs.View.{FieldView, type_fields_of}
use Rattle.check_base.specs.Files.{place_in}
use Rattle.lower_types.specs.LoweredTypes.{lowered_kind, body_level, field_level, lowered_body, lowered_field}
use Rattle.lower_types.specs.FieldBounds.{least_of, most_of}

pub root_lowered : (types : List (List ℕ)) (at : ℕ) (k : RootKind) (fields : Option (List Field)) → lowered_body types (body.Root at k fields) ≡ plain.plain (lowered_kind k) (type_fields_of (map (lowered_field types) (unwrap_or fields [])))
unfolding lowered_body lowered_field
root_lowered types at k None =
    ap (lowered_body types) (sym (body.rolls-Root at k None))
    ∙ fold-roll-TypeBody TypeTree FieldView (body_level types) field_level (TypeBody-F.Root at k None)
root_lowered types at k (Some fields) =
    ap (lowered_body types) (sym (body.rolls-Root at k (Some fields)))
    ∙ fold-roll-TypeBody TypeTree FieldView (body_level types) field_level (TypeBody-F.Root at k (Some fields))

pub named_lowered : (types : List (List ℕ)) (n : Name) → lowered_body types (body.Named n) ≡ plain.named (place_in types n.text)
unfolding lowered_body lowered_field
named_lowered types n =
    ap (lowered_body types) (sym (body.rolls-Named n))
    ∙ fold-roll-TypeBody TypeTree FieldView (body_level types) field_level (TypeBody-F.Named n)

pub undefined_lowered : (types : List (List ℕ)) (at : ℕ) → lowered_body types (body.Undefined at) ≡ plain.undefined
unfolding lowered_body lowered_field
undefined_lowered types at =
    ap (lowered_body types) (sym (body.rolls-Undefined at))
    ∙ fold-roll-TypeBody TypeTree FieldView (body_level types) field_level (TypeBody-F.Undefined at)

-- fields alone
pub fields_alone : (types : List (List ℕ)) (fields : List Field) → lowered_body types (roll-TypeBody (TypeBody-F.Root 0 written.Void (Some fields))) ≡ plain.plain kind.Void (type_fields_of (map (lowered_field types) fields))
unfolding lowered_body lowered_field
fields_alone types fields = fold-roll-TypeBody TypeTree FieldView (body_level types) field_level (TypeBody-F.Root 0 written.Void (Some fields))

pub field_is : (types : List (List ℕ)) (f : Field)
    → lowered_field types f ≡ record { name = (out-Field f).name.text; least = least_of (out-Field f).cardinality; most = most_of (out-Field f).cardinality; ty = lowered_body types (out-Field f).body }
unfolding lowered_body lowered_field
field_is types f =
    ap (lowered_field types) (sym (roll-out-Field f))
    ∙ fold-roll-Field TypeTree FieldView (body_level types) field_level (out-Field f)
