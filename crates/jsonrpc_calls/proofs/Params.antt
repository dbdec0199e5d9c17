-- The params of a value are made of its JSON.
use Rattle.std.proofs.Common.{◌≡◌, refl, List}
use Rattle.jolie_trees.specs.declared.root.Root.TheVariants as root
use Rattle.jolie_trees.specs.Data.{Tree, node, no_fields, field}
use Rattle.behaviour_tree.specs.Data.{TypeTree}
use Rattle.jsonrpc_text.specs.ToJson.{json_of}
use Rattle.jsonrpc_calls.specs.CallTexts.{params_of}
use Rattle.jsonrpc_calls.specs.Walks.{params_from}

-- a node without children is its root, another is an object
pub params_from-json : (types : List TypeTree) (t : Tree) (ty : TypeTree) → params_from (json_of types t ty) ≡ params_of types ty t
params_from-json types (node root.Void no_fields) ty = refl
params_from-json types (node (root.Bool b) no_fields) ty = refl
params_from-json types (node (root.Int z) no_fields) ty = refl
params_from-json types (node (root.Long z) no_fields) ty = refl
params_from-json types (node (root.Text s) no_fields) ty = refl
params_from-json types (node r (field name ts fs)) ty = refl
