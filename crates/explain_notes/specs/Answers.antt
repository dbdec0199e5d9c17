-- Which operations ask for an answer, and which requests have none.
use Rattle.std.specs.Prelude.{ℕ, pos, int_le, Bool, true, false, not, ◌||◌, if◌then◌else◌, List, [], ◌∷◌, flat_map}
use Rattle.std.specs.Prelude.{Option, None, Some, option_map, unwrap_or}
use Rattle.std.specs.List.{list_any}
use Rattle.jolie_ast.specs.declared.types.RootKind.{RootKind}
use Rattle.jolie_ast.specs.declared.types.RootKind.TheVariants as root
use Rattle.jolie_ast.specs.declared.types.Cardinality.{Cardinality}
use Rattle.jolie_ast.specs.declared.types.Cardinality.TheVariants as cardinality
use Rattle.jolie_ast.specs.declared.types.TypeBody.{TypeBody, out-TypeBody}
use Rattle.jolie_ast.specs.declared.types.TypeBody.TheOpen.{TypeBody-F}
use Rattle.jolie_ast.specs.declared.types.Field.{Field, out-Field}
use Rattle.jolie_ast.specs.declared.types.TypeDefinition.{TypeDefinition}
use Rattle.jolie_ast.specs.declared.interface.TypeName.{TypeName}
use Rattle.jolie_ast.specs.declared.interface.TypeName.TheVariants as type_name
use Rattle.jolie_ast.specs.declared.tree.Definition.{Definition}
use Rattle.check_base.specs.Files.{Operation, body_of, interfaces_of, operations_in, type_named, types_of}

-- ---- types that ask for more than void: no void answer is of them

-- a root that void is not
abbrev pub asks_root : RootKind → Bool
asks_root root.Void = false
asks_root root.Any = false
asks_root kind = true

-- a field that has to stand
abbrev pub asks_often : Option Cardinality → Bool
asks_often None = true
asks_often (Some (cardinality.Between least most)) = int_le (pos 1) least
asks_often _ = false

-- fields of which one has to stand
abbrev pub asks_fields : List Field → Bool
asks_fields fields = list_any (λ (f : Field). asks_often (out-Field f).cardinality) fields

-- the body of a type; another name is not followed
abbrev pub asks_body : TypeBody → Bool
asks_body body = elim (out-TypeBody body) [
  | TypeBody-F.Root at kind fields ↦ asks_root kind || asks_fields (unwrap_or fields [])
  | _ ↦ false
]

-- a definition of a type
abbrev pub asks_definition : TypeDefinition → Bool
asks_definition ty = asks_body (body_of ty.body)

-- the type that an operation names
abbrev pub asks_type : List TypeDefinition → TypeName → Bool
asks_type types (type_name.Root at kind) = asks_root kind
asks_type types (type_name.Named n) = unwrap_or (option_map asks_definition (type_named types n.text)) false
asks_type types (type_name.Undefined at) = false

-- ---- operations that a void answers

-- an operation that answers, and is content with void
abbrev pub is_content : List TypeDefinition → Operation → Bool
is_content types o = elim o.response [ None ↦ false | Some ty ↦ not (asks_type types ty) ]

-- the names of operations that are content with void
abbrev pub content_among : List TypeDefinition → List Operation → List (List ℕ)
content_among types operations =
    flat_map (λ (o : Operation). if is_content types o then o.name.text ∷ [] else []) operations

-- the names of those of a file, by these types
abbrev pub content_in : List TypeDefinition → List Definition → List (List ℕ)
content_in types file = flat_map (λ i. content_among types (operations_in i)) (interfaces_of file)

-- the names of those of a file
abbrev pub content_names : List Definition → List (List ℕ)
content_names file = content_in (types_of file) file
