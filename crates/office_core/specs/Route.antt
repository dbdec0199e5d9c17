-- Where a message goes: the first of the seven cases that holds.
use Rattle.std.specs.Prelude.{ℕ, ◌+◌, Bool, true, false, ◌||◌, List, [], length, nat_le, nat_lt, if◌then◌else◌}
use Rattle.std.specs.Prelude.{Option, None, Some, option_map, option_and_then, slice_get, unwrap_or}
use Rattle.std.specs.List.{filter_map}
use Rattle.jolie_trees.specs.Data.{Tree}
use Rattle.behaviour_tree.specs.declared.words.Reason.{Reason}
use Rattle.behaviour_tree.specs.declared.words.Reason.TheVariants as reason
use Rattle.behaviour_tree.specs.Data.{OperationPart, ServicePart}
use Rattle.behaviour_tree.specs.Conforms.{conforms}
use Rattle.behaviour_tree.specs.FormedServices.{first_input}
use Rattle.behaviour_tree.specs.FormedSets.{is_concurrent}
use Rattle.behaviour_tree.specs.Operations.{is_among, number_named, service_operations}
use Rattle.office_core.specs.declared.post.Posted.{Posted}
use Rattle.office_core.specs.declared.post.PostReply.{PostReply}
use Rattle.office_core.specs.declared.post.PostReply.TheVariants as answer
use Rattle.office_core.specs.declared.history.Placed.{Placed}
use Rattle.office_core.specs.declared.history.Placed.TheVariants as at
use Rattle.office_core.specs.Limits.{Setting}
use Rattle.office_core.specs.Past.{Past}
use Rattle.office_core.specs.Sessions.{births, has_ended}
use Rattle.office_core.specs.Boxes.{box}
use Rattle.office_core.specs.Weights.{weight, total_weight}
use Rattle.office_core.specs.Keys.{first, Variable, sets_of, named_by, session_of, holder}

-- where a message goes: to a session that is there, to one that it starts, or nowhere
pub data Way : Type 0 where
  to_session : ℕ → Way
  to_new : Way
  refused_for : Reason → Way

-- a message to an operation of a service: both by number, and what they are
pub record Asked : Type 0 where
  pub number : ℕ
  pub service : ServicePart
  pub op : ℕ
  pub operation : OperationPart
  pub value : Tree

-- the operation of a number of a service, as it is asked with a value
abbrev pub asked_at : Setting → Posted → ServicePart → ℕ → Option Asked
asked_at w q d n =
    option_map
    (λ o. record { number = q.service; service = d; op = n; operation = o; value = q.value })
    (slice_get (service_operations w.parts d) n)

-- the operation that a message asks for, where an input port of its service has it
abbrev pub asked_of : Setting → Posted → Option Asked
asked_of w q =
    option_and_then
    (λ d. option_and_then (asked_at w q d) (number_named w.parts q.op d))
    (slice_get w.parts.services q.service)

-- ---- the limits

-- no message of this value is accepted any more
abbrev pub is_full : Setting → Past → Tree → Bool
is_full w past t =
    nat_le w.limits.messages (length past.messages) || nat_lt w.limits.weight (total_weight past + weight t)

-- a session takes a message unless its boxes are full
abbrev pub into_box : Setting → Past → ℕ → Way
into_box w past s = if nat_le w.limits.box (length (box past s)) then refused_for reason.BoxFull else to_session s

-- a session starts unless as many were born as there may be
abbrev pub begins : Setting → Past → Way
begins w past =
    if nat_le w.limits.sessions (length (births w past)) then refused_for reason.RunFull else to_new

-- ---- the sessions

-- the live session whose key in a set has the values of a message, where the type of the request is in the set
abbrev pub named_in : Setting → Past → Asked → List Variable → Option ℕ
named_in w past a set =
    option_and_then (holder w past a.number set) (named_by a.operation.request a.value set)

-- the live session that the values of a message name
abbrev pub named_session : Setting → Past → Asked → Option ℕ
named_session w past a = first (filter_map (named_in w past a) (sets_of a.service))

-- an operation starts a session where the first input of the service's main takes it
abbrev pub is_starting : Asked → Bool
is_starting a = is_among (unwrap_or (first_input a.service.main) []) a.op

-- the one session of a single service, while it lives
abbrev pub to_single : Setting → Past → Option ℕ → Way
to_single w past None = refused_for reason.Correlation
to_single w past (Some s) = if has_ended past s then refused_for reason.Correlation else into_box w past s

-- the session that the values name; where there is none, a starting operation starts one, and any other is refused
abbrev pub to_named : Setting → Past → Asked → Option ℕ → Way
to_named w past a (Some s) = into_box w past s
to_named w past a None = if is_starting a then begins w past else refused_for reason.Correlation

-- the session for a message that conforms
abbrev pub to_one : Setting → Past → Asked → Way
to_one w past a = elim (is_concurrent a.service.execution) [
  | true ↦ to_named w past a (named_session w past a)
  | false ↦ to_single w past (session_of w past a.number (λ s. true))
]

-- the way of a message for which there is room
abbrev pub admitted : Setting → Past → Option Asked → Way
admitted w past None = refused_for reason.UnknownOperation
admitted w past (Some a) = elim (conforms w.parts.types a.value a.operation.request) [
  | false ↦ refused_for reason.NotConforming
  | true ↦ to_one w past a
]

-- the way of a message on what happened so far
abbrev pub route : Setting → Past → Posted → Way
route w past q = elim (is_full w past q.value) [
  | true ↦ refused_for reason.RunFull
  | false ↦ admitted w past (asked_of w q)
]

-- ---- what is answered

-- the answer of a post: the number of the message, or the refusal
abbrev pub post_reply : Past → Way → PostReply
post_reply past (refused_for why) = answer.Refused why
post_reply past way = answer.Accepted (length past.messages)

-- the same of a session's message
abbrev pub send_reply : Past → Way → Placed
send_reply past (refused_for why) = at.Refused why
send_reply past way = at.At (length past.messages)
