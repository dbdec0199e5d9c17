-- The text of a call that goes out, and the location that it is made to.
use Rattle.std.specs.Prelude.{ℕ, ◌+◌, ◌*◌, if◌then◌else◌, List, [], codes, Option, None, Some}
use Rattle.std.specs.Prelude.{option_map, option_and_then, slice_get, unwrap_or}
use Rattle.serde_json.specs.Data.{Data, number, string, array, object, no_items, item, Members, no_members, member}
use Rattle.serde_json.specs.Data.{unsigned}
use Rattle.serde_json.specs.Written.{compact_text}
use Rattle.jolie_trees.specs.declared.root.Root.{Root}
use Rattle.jolie_trees.specs.declared.root.Root.TheVariants as root
use Rattle.jolie_trees.specs.Data.{Tree, node, no_fields, field}
use Rattle.behaviour_tree.specs.Data.{TypeTree, OperationPart, PortPart, ServicePart, ProgramParts}
use Rattle.behaviour_tree.specs.FormedServices.{sent_to}
use Rattle.office_core.specs.declared.outgoing.Outgoing.{Outgoing}
use Rattle.jsonrpc_text.specs.ToJson.{root_data, json_of}

-- ---- what a call is to

-- the port that a call goes out by
abbrev pub port_called : ProgramParts → Outgoing → Option PortPart
port_called parts out =
    option_and_then (λ (d : ServicePart). slice_get d.ports out.port) (slice_get parts.services out.service)

-- the location that a call is made to: that of its port
abbrev pub location_called : ProgramParts → Outgoing → List ℕ
location_called parts out = unwrap_or (option_map (λ (p : PortPart). p.location) (port_called parts out)) []

-- the operation that a call is to
abbrev pub operation_called : ProgramParts → Outgoing → Option OperationPart
operation_called parts out =
    option_and_then (λ p. slice_get (sent_to parts.interfaces p) out.op) (port_called parts out)

-- ---- ids

-- the id of call k of session s
abbrev pub call_id : ℕ → ℕ → ℕ
call_id s k = s * 4294967296 + k

-- the id of a call that goes out: one that wants no answer is a notification and has none
abbrev pub id_of : Outgoing → Option ℕ
id_of out = if out.wants then Some (call_id out.session out.call) else None

-- ---- params

-- a root as params: the one element of an array, and no params where it is void
abbrev pub root_params : Root → Option Data
root_params root.Void = None
root_params r = Some (array (item (root_data r) no_items))

-- a value under the type of its request as params: its root where it has no children, else its object
abbrev pub params_of : List TypeTree → TypeTree → Tree → Option Data
params_of types ty (node r no_fields) = root_params r
params_of types ty (node r (field name ts fs)) = Some (json_of types (node r (field name ts fs)) ty)

-- ---- texts

-- members, after one that may be absent
abbrev pub member_if : List ℕ → Option Data → Members → Members
member_if name None ms = ms
member_if name (Some d) ms = member name d ms

-- a request of version 2.0 by its id, its method and its params, its members in the order of their names
abbrev pub request : Option ℕ → List ℕ → Option Data → Data
request i method params =
    object (member_if (codes "id") (option_map (λ n. number (unsigned n)) i)
    (member (codes "jsonrpc") (string (codes "2.0"))
    (member (codes "method") (string method)
    (member_if (codes "params") params no_members))))

-- a call to an operation as a request
abbrev pub call_data : List TypeTree → OperationPart → Outgoing → Data
call_data types o out = request (id_of out) o.name (params_of types o.request out.value)

-- the text of a call to an operation
unfoldable pub call_to : List TypeTree → OperationPart → Outgoing → List ℕ
call_to types o out = compact_text (call_data types o out)

-- the same, where there is such an operation: a call to an operation that its port does not have has no text
abbrev pub call_by : List TypeTree → Option OperationPart → Outgoing → List ℕ
call_by types None out = []
call_by types (Some o) out = call_to types o out

-- the text of a call that goes out
abbrev pub call : ProgramParts → Outgoing → List ℕ
call parts out = call_by parts.types (operation_called parts out) out
