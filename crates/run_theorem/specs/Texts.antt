-- What a JSON-RPC text brings in, and the text that answers it.
use Rattle.std.specs.Prelude.{ℕ, suc, Bool, true, false, List, [], ◌∷◌, ◌++◌, map, if◌then◌else◌}
use Rattle.std.specs.Prelude.{Option, None, Some, option_and_then, unwrap_or, Ok, Err}
use Rattle.jolie_trees.specs.Data.{Tree}
use Rattle.behaviour_tree.specs.declared.words.Outcome.{Outcome}
use Rattle.behaviour_tree.specs.declared.words.Outcome.TheVariants as outcome
use Rattle.behaviour_tree.specs.declared.words.Reason.TheVariants as reason
use Rattle.behaviour_tree.specs.Data.{TypeTree, undefined, OperationPart, ProgramParts}
use Rattle.behaviour_tree.specs.Operations.{operation_at, operation_named}
use Rattle.jsonrpc_text.specs.declared.message.Id.{Id}
use Rattle.jsonrpc_text.specs.declared.message.Id.TheVariants as id
use Rattle.jsonrpc_text.specs.declared.message.ReadCall.{ReadCall}
use Rattle.jsonrpc_text.specs.declared.message.Read.{Read}
use Rattle.jsonrpc_text.specs.Responses.{answer, early_answer, early_code, batch}
use Rattle.office_core.specs.declared.post.Posted.{Posted}
use Rattle.office_core.specs.declared.front.CallIn.{CallIn}
use Rattle.office_core.specs.declared.front.CallIn.TheVariants as call
use Rattle.office_core.specs.declared.front.Posting.{Posting}
use Rattle.office_core.specs.Limits.{Setting}
use Rattle.office_core.specs.Past.{Past}
use Rattle.run_record.specs.Postings.{outcome_of}

-- ---- what comes in

-- a text that was read, and the service that it is for
pub record Came : Type 0 where
  pub service : ℕ
  pub read : Read

-- a message to an operation of a service
abbrev pub message_to : ℕ → List ℕ × Tree → Posted
message_to service what = record { service = service; op = what.0; value = what.1 }

-- a call as it comes in: a message to post, or a refusal, by its code, of what is no call
abbrev pub call_in : ℕ → ReadCall → CallIn
call_in service c = elim c.what [
  | Ok what ↦ call.Post (message_to service what)
  | Err early ↦ call.Answered (outcome.Refused (reason.Other (early_code early)))
]

-- what comes in with a text
abbrev pub posting_of : Came → Posting
posting_of came = record { calls = map (call_in came.service) came.read.calls }

-- ---- what is sent

-- the operation that a call asks for, where its service has it
abbrev pub operation_of : ProgramParts → ℕ → List ℕ → Option OperationPart
operation_of parts service op = option_and_then (operation_at parts service) (operation_named parts service op)

-- the type of the answers of an operation; where it has none, or is not there, anything
abbrev pub answer_type : Option OperationPart → TypeTree
answer_type None = undefined
answer_type (Some o) = unwrap_or o.response undefined

-- whether a call asks for a response: a notification does not
abbrev pub has_id : Id → Bool
has_id id.None = false
has_id i = true

-- what is sent of a call of a service: of what is no call its refusal, of another its outcome, once it has one
abbrev pub sent_by : ProgramParts → ℕ → ReadCall → Option Outcome → List (List ℕ)
sent_by parts service c o = elim c.what [
  | Err early ↦ early_answer c.id early ∷ []
  | Ok what ↦ elim o [
    | None ↦ []
    | Some result ↦ answer parts.types (answer_type (operation_of parts service what.0)) c.id result ∷ []
  ]
]

-- what is sent of a call of a service, where it asks for a response
abbrev pub sent_to : ProgramParts → ℕ → ReadCall → Option Outcome → List (List ℕ)
sent_to parts service c o = if has_id c.id then sent_by parts service c o else []

-- the texts of calls of posting j of an actor, the first of which has the number i
abbrev pub texts_from : Setting → Past → ℕ → ℕ × ℕ → ℕ × List ReadCall → List (List ℕ)
texts_from w past actor ji (service, []) = []
texts_from w past actor ji (service, c ∷ cs) =
    sent_to w.parts service c (outcome_of w past actor ji (call_in service c))
    ++ texts_from w past actor (ji.0, suc ji.1) (service, cs)

-- the response that texts make: an array of a batch, none where there are none
abbrev pub response_of : Bool → List (List ℕ) → Option (List ℕ)
response_of is_batch [] = None
response_of is_batch (t ∷ ts) = Some (if is_batch then batch (t ∷ ts) else t)

-- the response to posting j of an actor, none where nothing is sent
abbrev pub response : Setting → Past → ℕ → ℕ → Came → Option (List ℕ)
response w past actor j came =
    response_of came.read.batch (texts_from w past actor (j, 0) (came.service, came.read.calls))
