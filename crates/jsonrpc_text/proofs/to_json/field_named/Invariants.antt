use Rattle.std.proofs.Common.{◌≡◌, map, drop}
use Rattle.behaviour_tree.specs.View.{field_view, type_fields_of}
use Rattle.jsonrpc_text.specs.ToJson.{field_part}
use Rattle.jsonrpc_text.proofs.to_json.field_named.Given as goal

abbrev pub invariant-loop-field : goal.invariant-loop-field
invariant-loop-field l = field_part l.name (type_fields_of (map field_view (drop l.field-index l.fields))) ≡ field_part l.name (type_fields_of (map field_view l.fields))
