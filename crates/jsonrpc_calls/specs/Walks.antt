-- These definitions serve the proofs alone: no promise speaks of them.
-- Params as they are made of the JSON of a value.
use Rattle.std.specs.Prelude.{if◌then◌else◌, Option, None, Some, is_some}
use Rattle.serde_json.specs.Data.{Data, array, no_items, item}
use Rattle.serde_json.specs.Find.{as_null, as_object}

-- null is no params, an object is params, and anything else is the one element of an array
abbrev pub params_from : Data → Option Data
params_from d =
    if is_some (as_null d) then None else if is_some (as_object d) then Some d else Some (array (item d no_items))
