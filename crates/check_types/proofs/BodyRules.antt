-- What is refused of a type at each form.
use Rattle.std.proofs.Common.{◌≡◌, ℕ, List, [], ◌∷◌, ◌++◌, map, Some, None, refl, ap, sym, ◌∙◌, flat_map}
use Rattle.jolie_ast.specs.declared.name.Name.{Name}
use Rattle.jolie_ast.specs.declared.types.RootKind.{RootKind}
use Rattle.jolie_ast.specs.declared.types.RootKind.TheVariants as root
use Rattle.jolie_ast.specs.declared.types.TypeDefinition.{TypeDefinition}
use Rattle.jolie_ast.specs.declared.types.TypeBody.TheOpen.{TypeBody-F}
use Rattle.jolie_ast.specs.declared.types.TypeBody.TheFolds.{fold-roll-TypeBody, fold-roll-Field, fold-Field}
use Rattle.jolie_ast.specs.declared.types.TypeBody.{roll-TypeBody}
use Rattle.jolie_ast.specs.declared.types.TypeBody.TheVariants as body
use Rattle.jolie_ast.specs.declared.types.Field.{Field, out-Field, roll-out-Field}
use Rattle.check_base.specs.declared.refusal.CheckName.TheVariants.{DuplicateName}
use Rattle.check_base.specs.declared.refusal.Refusal.{Refusal}
use Rattle.check_base.specs.Least.{refused}
use Rattle.check_base.specs.Repeated.{repeated}
use Rattle.check_types.specs.TypeRules.{FieldFound, body_level, field_level, body_refused, field_refused, field_names_refused, unknown_type}

pub root_alone : (types : List TypeDefinition) (at : ℕ) (kind : RootKind) → body_refused types (body.Root at kind None) ≡ []
unfolding body_refused
root_alone types at kind =
    ap (body_refused types) (sym (body.rolls-Root at kind None))
    ∙ fold-roll-TypeBody (List Refusal) FieldFound (body_level types) field_level (TypeBody-F.Root at kind None)

pub named_body : (types : List TypeDefinition) (name : Name) → body_refused types (body.Named name) ≡ unknown_type types name
unfolding body_refused
named_body types name =
    ap (body_refused types) (sym (body.rolls-Named name))
    ∙ fold-roll-TypeBody (List Refusal) FieldFound (body_level types) field_level (TypeBody-F.Named name)

pub undefined_body : (types : List TypeDefinition) (at : ℕ) → body_refused types (body.Undefined at) ≡ []
unfolding body_refused
undefined_body types at =
    ap (body_refused types) (sym (body.rolls-Undefined at))
    ∙ fold-roll-TypeBody (List Refusal) FieldFound (body_level types) field_level (TypeBody-F.Undefined at)

-- a field with what is refused of its type
abbrev pub found : List TypeDefinition → Field → FieldFound
found types f = fold-Field (List Refusal) FieldFound (body_level types) field_level f

-- a field is found by its name and its type
pub found_is : (types : List TypeDefinition) (f : Field) → found types f ≡ record { name = (out-Field f).name; below = field_refused types f }
unfolding body_refused field_refused
found_is types f =
    ap (found types) (sym (roll-out-Field f))
    ∙ fold-roll-Field (List Refusal) FieldFound (body_level types) field_level (out-Field f)

-- the names of fields that are found
pub found_names : (types : List TypeDefinition) (fields : List Field) → map (λ (f : FieldFound). f.name) (map (found types) fields) ≡ map (λ (f : Field). (out-Field f).name) fields
found_names types [] = refl
found_names types (f ∷ fields) = ap (λ (x : FieldFound). x.name ∷ map (λ (f : FieldFound). f.name) (map (found types) fields)) (found_is types f) ∙ ap (λ ns. (out-Field f).name ∷ ns) (found_names types fields)

-- what is refused below fields that are found
pub found_below : (types : List TypeDefinition) (fields : List Field) → flat_map (λ (f : FieldFound). f.below) (map (found types) fields) ≡ flat_map (field_refused types) fields
found_below types [] = refl
found_below types (f ∷ fields) = ap (λ (x : FieldFound). x.below ++ flat_map (λ (f : FieldFound). f.below) (map (found types) fields)) (found_is types f) ∙ ap (λ rs. field_refused types f ++ rs) (found_below types fields)

pub root_with_fields : (types : List TypeDefinition) (at : ℕ) (kind : RootKind) (fields : List Field) → body_refused types (body.Root at kind (Some fields)) ≡ field_names_refused fields ++ flat_map (field_refused types) fields
unfolding body_refused
root_with_fields types at kind fields =
    ap (body_refused types) (sym (body.rolls-Root at kind (Some fields)))
    ∙ fold-roll-TypeBody (List Refusal) FieldFound (body_level types) field_level (TypeBody-F.Root at kind (Some fields))
    ∙ ap (λ ns. refused DuplicateName (repeated ns) ++ flat_map (λ (f : FieldFound). f.below) (map (found types) fields)) (found_names types fields)
    ∙ ap (λ rs. field_names_refused fields ++ rs) (found_below types fields)

-- fields alone have the root void
pub fields_alone : (types : List TypeDefinition) (fields : List Field) → body_refused types (roll-TypeBody (TypeBody-F.Root 0 root.Void (Some fields))) ≡ field_names_refused fields ++ flat_map (field_refused types) fields
fields_alone types fields = ap (body_refused types) (body.rolls-Root 0 root.Void (Some fields)) ∙ root_with_fields types 0 root.Void fields

pub field_is : (types : List TypeDefinition) (f : Field) → field_refused types f ≡ body_refused types (out-Field f).body
unfolding field_refused
field_is types f = refl
