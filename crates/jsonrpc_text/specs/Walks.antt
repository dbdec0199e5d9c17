-- These definitions serve the proofs alone: no promise speaks of them.
-- The JSON of a node, and what a field says, as a walk over a tree and the fields of its type has them.
use Rattle.std.specs.Prelude.{List, Option, None, Some}
use Rattle.serde_json.specs.Data.{Data, object}
use Rattle.jolie_trees.specs.Data.{Tree, node, no_fields, field}
use Rattle.behaviour_tree.specs.Data.{TypeTree, TypeFields}
use Rattle.behaviour_tree.specs.View.{FieldView}
use Rattle.jsonrpc_text.specs.ToJson.{root_data, with_root, members_json, FieldPart}

-- the JSON of a node whose type has these fields
abbrev pub node_json : List TypeTree → Tree → TypeFields → Data
node_json types (node r no_fields) fields = root_data r
node_json types (node r (field name ts fs)) fields = object (with_root r (members_json types (field name ts fs) fields))

-- what a field says of the members of its name
abbrev pub part_of : Option FieldView → Option FieldPart
part_of None = None
part_of (Some f) = Some (record { most = f.most; ty = f.ty })
