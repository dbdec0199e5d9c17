-- The texts of responses.
use Rattle.std.specs.Prelude.{ℕ, ℤ, pos, neg_ℤ, List, [], ◌∷◌, ◌++◌, codes}
use Rattle.serde_json.specs.Data.{Data, null, number, string, object, no_members, member, unsigned}
use Rattle.serde_json.specs.Find.{of_integer}
use Rattle.serde_json.specs.Written.{compact_text}
use Rattle.behaviour_tree.specs.Data.{TypeTree, undefined}
use Rattle.behaviour_tree.specs.declared.words.Outcome.{Outcome}
use Rattle.behaviour_tree.specs.declared.words.Outcome.TheVariants as outcome
use Rattle.behaviour_tree.specs.Reasons.{code_of, message_of}
use Rattle.jsonrpc_text.specs.declared.message.Id.{Id}
use Rattle.jsonrpc_text.specs.declared.message.Id.TheVariants as id
use Rattle.jsonrpc_text.specs.declared.message.Early.{Early}
use Rattle.jsonrpc_text.specs.declared.message.Early.TheVariants as early
use Rattle.jsonrpc_text.specs.ToJson.{json_of}

-- an id as a value; null and an absent id are written as null
abbrev pub id_data : Id → Data
id_data (id.Int z) = number (of_integer z)
id_data (id.Big n) = number (unsigned n)
id_data (id.Text s) = string s
id_data i = null

-- a response with a result, its members in order
abbrev pub result_data : Data → Data → Data
result_data i result =
    object (member (codes "id") i
    (member (codes "jsonrpc") (string (codes "2.0"))
    (member (codes "result") result no_members)))

-- a response with an error, its members in order
abbrev pub error_data : Data → Data → Data
error_data i error =
    object (member (codes "error") error
    (member (codes "id") i
    (member (codes "jsonrpc") (string (codes "2.0")) no_members)))

-- an error without data
abbrev pub bare_error : ℤ → List ℕ → Data
bare_error code message =
    object (member (codes "code") (number (of_integer code))
    (member (codes "message") (string message) no_members))

-- an error with data
abbrev pub full_error : ℤ → Data → List ℕ → Data
full_error code value message =
    object (member (codes "code") (number (of_integer code))
    (member (codes "data") value
    (member (codes "message") (string message) no_members)))

-- the code of an error that is a fault of a session
abbrev pub fault_code : ℤ
fault_code = neg_ℤ (pos 32000)

-- the response to a call that ended so, whose result is of the type
abbrev pub answer_data : List TypeTree → TypeTree → Id → Outcome → Data
answer_data types ty i (outcome.Value t) = result_data (id_data i) (json_of types t ty)
answer_data types ty i (outcome.Fault name t) =
    error_data (id_data i) (full_error fault_code (json_of types t undefined) name)
answer_data types ty i (outcome.Refused reason) =
    error_data (id_data i) (bare_error (code_of reason) (message_of reason))

-- the code of an early refusal
abbrev pub early_code : Early → ℤ
early_code early.Parse = neg_ℤ (pos 32700)
early_code early.Invalid = neg_ℤ (pos 32600)
early_code early.Params = neg_ℤ (pos 32602)

-- the message of an early refusal
abbrev pub early_message : Early → List ℕ
early_message early.Parse = codes "Parse error"
early_message early.Invalid = codes "Invalid Request"
early_message early.Params = codes "Invalid params"

-- the response to what was refused before it was posted
abbrev pub early_data : Id → Early → Data
early_data i e = error_data (id_data i) (bare_error (early_code e) (early_message e))

-- texts with commas between them
abbrev pub listed : List (List ℕ) → List ℕ
listed [] = []
listed (text ∷ []) = text
listed (text ∷ next ∷ texts) = text ++ codes "," ++ listed (next ∷ texts)

-- the text of an array of texts
unfoldable pub batch : List (List ℕ) → List ℕ
batch texts = codes "[" ++ listed texts ++ codes "]"

-- the text of an answer
unfoldable pub answer : List TypeTree → TypeTree → Id → Outcome → List ℕ
answer types ty i o = compact_text (answer_data types ty i o)

-- the text of an early refusal
unfoldable pub early_answer : Id → Early → List ℕ
early_answer i e = compact_text (early_data i e)
