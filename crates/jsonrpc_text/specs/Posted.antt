-- What a JSON-RPC text posts: calls with their ids, or refusals of what is no call.
use Rattle.std.specs.Prelude.{ℕ, nat_le, Bool, true, false, ◌&&◌, if◌then◌else◌, List, [], ◌∷◌, length, codes}
use Rattle.std.specs.Prelude.{Option, None, Some, option_and_then, option_map, unwrap_or, Result, Ok, Err}
use Rattle.std.specs.Str.{is_utf8, bytes_eq}
use Rattle.serde_json.specs.Data.{Num, unsigned, negative, float, Data, null, number, string, array, object}
use Rattle.serde_json.specs.Data.{Items, no_items, item}
use Rattle.serde_json.specs.Read.{read}
use Rattle.serde_json.specs.Find.{get, as_str, as_i64}
use Rattle.jolie_trees.specs.Data.{Tree}
use Rattle.jsonrpc_text.specs.declared.message.Id.{Id}
use Rattle.jsonrpc_text.specs.declared.message.Id.TheVariants as id
use Rattle.jsonrpc_text.specs.declared.message.Early.{Early}
use Rattle.jsonrpc_text.specs.declared.message.Early.TheVariants as early
use Rattle.jsonrpc_text.specs.declared.message.ReadCall.{ReadCall}
use Rattle.jsonrpc_text.specs.declared.message.Read.{Read}
use Rattle.jsonrpc_text.specs.FromJson.{params_tree}

-- the longest text that is read as JSON, in bytes
abbrev pub longest : ℕ
longest = 65536

-- the JSON value of a text, where it is UTF-8 and one JSON text
abbrev pub value_of : List ℕ → Option Data
value_of bytes = if is_utf8 bytes then read bytes else None

-- ---- ids

-- an integer from -2^63 to 2^64 - 1 as an id
abbrev pub id_of_number : Num → Option Id
id_of_number (unsigned n) = Some (unwrap_or (option_map (λ z. id.Int z) (as_i64 (unsigned n))) (id.Big n))
id_of_number (negative z) = Some (id.Int z)
id_of_number (float x) = None

-- a valid id: a string, such an integer, or null
abbrev pub id_from : Data → Option Id
id_from null = Some id.Null
id_from (number n) = id_of_number n
id_from (string s) = Some (id.Text s)
id_from d = None

-- the id of a call: absent where there is no member `id`, none where that is no valid id
abbrev pub id_of_member : Option Data → Option Id
id_of_member None = Some id.None
id_of_member (Some d) = id_from d

-- the id of what is no call: its member `id` where that is a valid id, else null
abbrev pub id_or_null : Data → Id
id_or_null d = unwrap_or (option_and_then id_from (get (codes "id") d)) id.Null

-- ---- calls

-- the version that a call has to name
abbrev pub is_version : Data → Bool
is_version d =
    unwrap_or (option_map (λ s. bytes_eq s (codes "2.0")) (option_and_then as_str (get (codes "jsonrpc") d))) false

-- params are absent, null, an object or an array
abbrev pub are_params : Option Data → Bool
are_params None = true
are_params (Some null) = true
are_params (Some (array ds)) = true
are_params (Some (object ms)) = true
are_params params = false

-- what a call says: its method and the tree of its params, or that they make none
abbrev pub what_of : List ℕ → Option Tree → Result (List ℕ × Tree) Early
what_of method None = Err early.Params
what_of method (Some t) = Ok (method, t)

-- a call that is refused
abbrev pub refused : Id → Early → ReadCall
refused i e = record { id = i; what = Err e }

-- a value that is no call
abbrev pub invalid : Id → ReadCall
invalid i = refused i early.Invalid

-- a call, where its method is there, its id, if it has one, is one, and its version and params are what they must be
abbrev pub call_of : Data → Option (List ℕ) → Option Id → ReadCall
call_of d None i = invalid (id_or_null d)
call_of d (Some method) None = invalid (id_or_null d)
call_of d (Some method) (Some i) =
    if is_version d && are_params (get (codes "params") d)
    then record { id = i; what = what_of method (params_tree (get (codes "params") d)) }
    else invalid (id_or_null d)

-- the call that a value is
abbrev pub call_in : Data → ReadCall
call_in d = call_of d (option_and_then as_str (get (codes "method") d)) (id_of_member (get (codes "id") d))

-- ---- texts

-- the calls of the items of an array, in order
abbrev pub calls_in : Items → List ReadCall
calls_in no_items = []
calls_in (item d ds) = call_in d ∷ calls_in ds

-- one call that is no batch
abbrev pub one : ReadCall → Read
one call = record { batch = false; calls = call ∷ [] }

-- the calls of an array, which are a batch
abbrev pub batch_of : Items → Read
batch_of ds = record { batch = true; calls = calls_in ds }

-- what a value posts: an array that is not empty is a batch, an empty one is no call, and any other value is one call
abbrev pub posted_in : Data → Read
posted_in (array no_items) = one (invalid id.Null)
posted_in (array (item d ds)) = batch_of (item d ds)
posted_in d = one (call_in d)

-- what a text posts that is short enough to be read: a parse error where no value is read
abbrev pub posted_by : Option Data → Read
posted_by None = one (refused id.Null early.Parse)
posted_by (Some d) = posted_in d

-- what a text posts: above 65,536 bytes it is not read as JSON and is no call
unfoldable pub posted : List ℕ → Read
posted bytes = if nat_le (length bytes) longest then posted_by (value_of bytes) else one (invalid id.Null)
