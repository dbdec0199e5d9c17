-- What types mean in a program.
use Rattle.std.specs.Prelude.{ℕ, ℤ, pos, negsuc, List, Option, None, Some, option_map}
use Rattle.std.specs.Option.{option_map_or}
use Rattle.jolie_ast.specs.declared.types.TypeDefinition.{TypeDefinition}
use Rattle.jolie_ast.specs.declared.types.RootKind as ast_kind
use Rattle.jolie_ast.specs.declared.types.RootKind.TheVariants as written
use Rattle.jolie_ast.specs.declared.types.Cardinality.{Cardinality}
use Rattle.jolie_ast.specs.declared.types.Cardinality.TheVariants as cardinality
use Rattle.jolie_ast.specs.declared.types.TypeBody.{TypeBody}
use Rattle.jolie_ast.specs.declared.types.TypeBody.TheOpen.{TypeBody-F, Field-F}
use Rattle.jolie_ast.specs.declared.types.TypeBody.TheFolds.{fold-Field, fold-TypeBody}
use Rattle.jolie_ast.specs.declared.types.Field.{Field}
use Rattle.jolie_ast.specs.declared.interface.TypeName.{TypeName}
use Rattle.jolie_ast.specs.declared.interface.TypeName.TheVariants as type_name
use Rattle.behaviour_tree.specs.declared.types.RootKind.{RootKind}
use Rattle.behaviour_tree.specs.declared.types.RootKind.TheVariants as kind
use Rattle.behaviour_tree.specs.Data as plain
use Rattle.behaviour_tree.specs.Data.{TypeTree}
use Rattle.behaviour_tree.specs.View.{FieldView, type_fields_of}
use Rattle.check_base.specs.Files.{place_in, body_of}

-- the kind of a root
abbrev pub lowered_kind : ast_kind.RootKind → RootKind
lowered_kind written.Void = kind.Void
lowered_kind written.Bool = kind.Bool
lowered_kind written.Int = kind.Int
lowered_kind written.Long = kind.Long
lowered_kind written.Str = kind.Text
lowered_kind written.Any = kind.Any

-- a number that is written, which has no sign
abbrev pub natural : ℤ → ℕ
natural (pos n) = n
natural (negsuc n) = 0

-- how often a field may stand, at least and at most: once where nothing is written; there is no most for `*`
abbrev pub bounds : Option Cardinality → ℕ × Option ℕ
bounds None = (1, Some 1)
bounds (Some cardinality.Optional) = (0, Some 1)
bounds (Some cardinality.Any) = (0, None)
bounds (Some (cardinality.Between least most)) = (natural least, option_map natural most)

-- one level of a type: names of types are numbers, and fields may be written or not
abbrev pub body_level : List (List ℕ) → TypeBody-F TypeTree FieldView → TypeTree
body_level types (TypeBody-F.Root at k fields) =
    plain.plain (lowered_kind k) (option_map_or type_fields_of fields plain.no_type_fields)
body_level types (TypeBody-F.Named n) = plain.named (place_in types n.text)
body_level types (TypeBody-F.Undefined at) = plain.undefined

-- one level of a field
abbrev pub field_level : Field-F TypeTree FieldView → FieldView
field_level f =
    record { name = f.name.text; least = (bounds f.cardinality).0; most = (bounds f.cardinality).1; ty = f.body }

-- the type that a body means
unfoldable pub lowered_body : List (List ℕ) → TypeBody → TypeTree
lowered_body types = fold-TypeBody TypeTree FieldView (body_level types) field_level

-- the field that a field of the text means
unfoldable pub lowered_field : List (List ℕ) → Field → FieldView
lowered_field types = fold-Field TypeTree FieldView (body_level types) field_level

-- the type that a definition of the text means
abbrev pub lowered_definition : List (List ℕ) → TypeDefinition → TypeTree
lowered_definition types ty = lowered_body types (body_of ty.body)

-- the type that a name of a type means
abbrev pub lowered_type : List (List ℕ) → TypeName → TypeTree
lowered_type types (type_name.Root at k) = plain.plain (lowered_kind k) plain.no_type_fields
lowered_type types (type_name.Named n) = plain.named (place_in types n.text)
lowered_type types (type_name.Undefined at) = plain.undefined

-- the type of a fault's data, which is void where none is written
abbrev pub lowered_data : List (List ℕ) → Option TypeName → TypeTree
lowered_data types ty = option_map_or (lowered_type types) ty (plain.plain kind.Void plain.no_type_fields)
