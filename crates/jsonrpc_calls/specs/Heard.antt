-- What is heard of a call that went out: what its response says, by the bytes that came back.
use Rattle.std.specs.Prelude.{ℕ, ℤ, Bool, false, ◌&&◌, if◌then◌else◌, List, [], ◌∷◌, nat_eq, codes}
use Rattle.std.specs.Prelude.{Option, None, Some, is_some, option_map, option_and_then, unwrap_or}
use Rattle.std.specs.Ordering.{int_eq}
use Rattle.serde_json.specs.Data.{Data}
use Rattle.serde_json.specs.Find.{get, as_null, as_number, as_str, as_i64, as_u64}
use Rattle.jolie_trees.specs.Data.{Tree}
use Rattle.jolie_trees.specs.Trees.{void_tree}
use Rattle.behaviour_tree.specs.declared.words.Outcome.{Outcome}
use Rattle.behaviour_tree.specs.declared.words.Outcome.TheVariants as outcome
use Rattle.behaviour_tree.specs.declared.words.Reason.{Reason}
use Rattle.behaviour_tree.specs.declared.words.Reason.TheVariants as reason
use Rattle.behaviour_tree.specs.Reasons.{code_of}
use Rattle.office_core.specs.declared.outgoing.Outgoing.{Outgoing}
use Rattle.jsonrpc_text.specs.FromJson.{tree_in}
use Rattle.jsonrpc_text.specs.Posted.{is_version, value_of}
use Rattle.jsonrpc_text.specs.Responses.{fault_code}
use Rattle.jsonrpc_calls.specs.CallTexts.{call_id}

-- ---- reasons

-- the reasons that have a code of their own
abbrev pub named_reasons : List Reason
named_reasons =
    reason.UnknownOperation ∷ reason.NotConforming ∷ reason.Correlation ∷ reason.BoxFull ∷ reason.RunFull
    ∷ reason.Stopped ∷ reason.SessionEnded ∷ []

-- the first of some reasons that has a code, and the refusal with just that code where none has it
abbrev pub reason_among : List Reason → ℤ → Reason
reason_among [] code = reason.Other code
reason_among (r ∷ rs) code = if int_eq code (code_of r) then r else reason_among rs code

-- the reason of a code
abbrev pub reason_of : ℤ → Reason
reason_of code = reason_among named_reasons code

-- ---- members

-- a value that is a natural number of 64 bits
abbrev pub as_natural : Data → Option ℕ
as_natural d = option_and_then as_u64 (as_number d)

-- a value that is an integer of 64 bits
abbrev pub as_integer : Data → Option ℤ
as_integer d = option_and_then as_i64 (as_number d)

-- a response is to an id where it has that as its id, as an integer
abbrev pub is_to : ℕ → Data → Bool
is_to id d = unwrap_or (option_map (λ n. nat_eq n id) (option_and_then as_natural (get (codes "id") d))) false

-- ---- outcomes

-- the value of a result, where there is one and it makes a tree
abbrev pub value_said : Option Data → Option Outcome
value_said None = None
value_said (Some d) = option_map (λ t. outcome.Value t) (tree_in d)

-- the tree of the data of an error, where it makes one: without data it is void
abbrev pub data_tree : Option Data → Option Tree
data_tree None = Some void_tree
data_tree (Some d) = tree_in d

-- the fault of a name with such data
abbrev pub fault_said : List ℕ → Option Data → Option Outcome
fault_said name d = option_map (λ t. outcome.Fault name t) (data_tree d)

-- an error of a code and a message: the code of faults is the fault of that name, any other is a refusal
abbrev pub error_by : ℤ → List ℕ → Option Data → Option Outcome
error_by code message d =
    if int_eq code fault_code then fault_said message d else Some (outcome.Refused (reason_of code))

-- the same, where both the code and the message are there
abbrev pub error_with : Option ℤ → Option (List ℕ) → Option Data → Option Outcome
error_with None message d = None
error_with (Some code) None d = None
error_with (Some code) (Some message) d = error_by code message d

-- what an error says: its code is an integer of 64 bits, its message a string
abbrev pub error_said : Data → Option Outcome
error_said e =
    error_with
    (option_and_then as_integer (get (codes "code") e))
    (option_and_then as_str (get (codes "message") e))
    (get (codes "data") e)

-- what a response says by its error and its result: an error that is absent or null says nothing
abbrev pub said_by : Option Data → Option Data → Option Outcome
said_by None r = value_said r
said_by (Some e) r = if is_some (as_null e) then value_said r else error_said e

-- what a value says to an id, where it is a response of version 2.0 to it
abbrev pub said_to : ℕ → Data → Option Outcome
said_to id d =
    if is_version d && is_to id d then said_by (get (codes "error") d) (get (codes "result") d) else None

-- what bytes say to an id: nothing where they are no response to it
abbrev pub answer_to : ℕ → List ℕ → Option Outcome
answer_to id bytes = option_and_then (said_to id) (value_of bytes)

-- ---- trips

-- the fault of a call of which nothing was heard
abbrev pub io_exception : Outcome
io_exception = outcome.Fault (codes "IOException") void_tree

-- what bytes say to an id, and that fault where they are no response to it
abbrev pub answer_or_fault : ℕ → List ℕ → Outcome
answer_or_fault id bytes = unwrap_or (answer_to id bytes) io_exception

-- The outcome of a call by the bytes that came back, none where its trip failed: a call that wants no answer has the
-- void value once they came.
abbrev pub heard : Outgoing → Option (List ℕ) → Outcome
heard out None = io_exception
heard out (Some bytes) =
    if out.wants then answer_or_fault (call_id out.session out.call) bytes else outcome.Value void_tree
