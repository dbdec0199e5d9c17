-- What is refused of types.
use Rattle.std.specs.Prelude.{not, List, [], ◌++◌, map, flat_map, Option, None, Some, is_some}
use Rattle.jolie_ast.specs.declared.name.Name.{Name}
use Rattle.jolie_ast.specs.declared.types.TypeDefinition.{TypeDefinition}
use Rattle.jolie_ast.specs.declared.types.TypeBody.{TypeBody}
use Rattle.jolie_ast.specs.declared.types.TypeBody.TheOpen.{TypeBody-F, Field-F}
use Rattle.jolie_ast.specs.declared.types.TypeBody.TheFolds.{fold-TypeBody}
use Rattle.jolie_ast.specs.declared.types.Field.{Field, out-Field}
use Rattle.jolie_ast.specs.declared.interface.TypeName.{TypeName}
use Rattle.jolie_ast.specs.declared.interface.TypeName.TheVariants as type_name
use Rattle.check_base.specs.declared.refusal.CheckName.TheVariants.{DuplicateName, UnknownType}
use Rattle.check_base.specs.declared.refusal.Refusal.{Refusal}
use Rattle.check_base.specs.Repeated.{repeated}
use Rattle.check_base.specs.Least.{refused, refused_if}
use Rattle.check_base.specs.Files.{type_named, body_of}
use Rattle.check_base.specs.TypeNames.{leads_back}

-- a name of a type that is not there
abbrev pub unknown_type : List TypeDefinition → Name → List Refusal
unknown_type types n = refused_if (not (is_some (type_named types n.text))) UnknownType n.at

-- a type of an operation that is not there
abbrev pub unknown_type_name : List TypeDefinition → TypeName → List Refusal
unknown_type_name types (type_name.Named n) = unknown_type types n
unknown_type_name types _ = []

-- a field with what is refused of its type
pub record FieldFound : Type 0 where
  pub name : Name
  pub below : List Refusal

-- what is refused of the fields of one type: a name that stands a second time, and what is refused of their types
abbrev pub fields_refused : Option (List FieldFound) → List Refusal
fields_refused None = []
fields_refused (Some fields) =
    refused DuplicateName (repeated (map (λ f. f.name) fields)) ++ flat_map (λ f. f.below) fields

-- one level of a type
abbrev pub body_level : List TypeDefinition → TypeBody-F (List Refusal) FieldFound → List Refusal
body_level types (TypeBody-F.Root at kind fields) = fields_refused fields
body_level types (TypeBody-F.Named n) = unknown_type types n
body_level types (TypeBody-F.Undefined at) = []

-- one level of a field
abbrev pub field_level : Field-F (List Refusal) FieldFound → FieldFound
field_level f = record { name = f.name; below = f.body }

-- what is refused of a type: fields of one name, and names that are not there
unfoldable pub body_refused : List TypeDefinition → TypeBody → List Refusal
body_refused types = fold-TypeBody (List Refusal) FieldFound (body_level types) field_level

-- what is refused of the type of a field
unfoldable pub field_refused : List TypeDefinition → Field → List Refusal
field_refused types f = body_refused types (out-Field f).body

-- fields of one type that stand a second time
abbrev pub field_names_refused : List Field → List Refusal
field_names_refused fields = refused DuplicateName (repeated (map (λ (f : Field). (out-Field f).name) fields))

-- a type whose names lead back to itself
abbrev pub circle : List TypeDefinition → TypeDefinition → List Refusal
circle types ty = refused_if (leads_back types ty.name.text) UnknownType ty.name.at

-- what is refused of a type of the file
abbrev pub type_refused : List TypeDefinition → TypeDefinition → List Refusal
type_refused types ty = body_refused types (body_of ty.body) ++ circle types ty
