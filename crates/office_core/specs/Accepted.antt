-- The messages that a history accepted, each with the session that its way gives on the entries before it.
use Rattle.std.specs.Prelude.{ℕ, ◌++◌, Bool, true, false, List, [], ◌∷◌, length, bytes_eq, if◌then◌else◌, Option}
use Rattle.std.specs.Prelude.{None, Some, option_map, option_and_then, slice_get}
use Rattle.std.specs.List.{list_any, position_from}
use Rattle.jolie_trees.specs.Data.{Tree}
use Rattle.behaviour_tree.specs.Data.{OperationPart, PortPart, ServicePart, ProgramParts}
use Rattle.behaviour_tree.specs.Conforms.{wide}
use Rattle.behaviour_tree.specs.FormedServices.{sent_to}
use Rattle.behaviour_tree.specs.Locations.{is_local}
use Rattle.reqresp_book.specs.declared.origin.Origin.{Origin}
use Rattle.reqresp_book.specs.declared.origin.Origin.TheVariants as origin
use Rattle.office_core.specs.declared.post.Posted.{Posted}
use Rattle.office_core.specs.declared.history.Act.{Act}
use Rattle.office_core.specs.declared.history.Act.TheVariants as act
use Rattle.office_core.specs.declared.history.Entry.{Entry}
use Rattle.office_core.specs.Limits.{Setting}
use Rattle.office_core.specs.Past.{Message, Past, nothing_yet}
use Rattle.office_core.specs.Sessions.{births, service_of}
use Rattle.office_core.specs.Route.{Way, to_session, to_new, refused_for, Asked, asked_of, route}

-- ---- ports

-- the port of a number of a session's service; Console is after them and is none of these
abbrev pub port_of : Setting → Past → ℕ → ℕ → Option PortPart
port_of w past s n =
    option_and_then
    (λ (d : ServicePart). slice_get d.ports n)
    (option_and_then (slice_get w.parts.services) (service_of w past s))

-- whether a service has an input port at a location
abbrev pub is_at : List ℕ → ServicePart → Bool
is_at location d = list_any (λ (p : PortPart). if p.input then bytes_eq p.location location else false) d.ports

-- the service of the program behind a local location
abbrev pub service_behind : ProgramParts → List ℕ → Option ℕ
service_behind parts location = if is_local location then position_from (is_at location) 0 parts.services else None

-- a value that a session sends to an operation of a port, as service d is handed it
abbrev pub passed_to : ProgramParts → PortPart → ℕ → Tree → ℕ → Option Posted
passed_to parts port op value d =
    option_map
    (λ (o : OperationPart). record { service = d; op = o.name; value = value })
    (slice_get (sent_to parts.interfaces port) op)

-- the same, as the service behind the port is handed it
abbrev pub passed_on : ProgramParts → PortPart → ℕ → Tree → Option Posted
passed_on parts port op value =
    option_and_then (passed_to parts port op value) (service_behind parts port.location)

-- ---- messages

-- what a call hands to a service of the program: that of a post, and of a send to a local port
abbrev pub handed_in : Setting → Past → ℕ → Act → Option Posted
handed_in w past s (act.Post posting index q r) = Some q
handed_in w past s (act.Send k port op v wants r) =
    option_and_then (λ p. passed_on w.parts p op v) (port_of w past s port)
handed_in w past s c = None

-- where the message of a call comes from. Only a post and a send hand in one
abbrev pub origin_of : ℕ → Act → Origin
origin_of s (act.Post posting index q r) = origin.Port posting index
origin_of s (act.Send k port op v wants r) = origin.Session s k
origin_of s c = origin.Session s 0

-- the message that goes to a session, its value widened to the type of the request
abbrev pub message_to : Setting → Origin → ℕ → Bool → Asked → Message
message_to w from s starts a = record {
  service = a.number;
  op = a.op;
  value = wide w.parts.types a.value a.operation.request;
  origin = from;
  session = s;
  starts = starts;
}

-- the message that goes a way; a session that it starts has the next number
abbrev pub message_on : Setting → Past → Origin → Asked → Way → Option Message
message_on w past from a (to_session s) = Some (message_to w from s false a)
message_on w past from a to_new = Some (message_to w from (length (births w past)) true a)
message_on w past from a (refused_for why) = None

-- what is handed in as the message that it becomes, where it is accepted
abbrev pub message_of : Setting → Past → Origin → Posted → Option Message
message_of w past from q = option_and_then (λ a. message_on w past from a (route w past q)) (asked_of w q)

-- the message that an entry accepts
abbrev pub accepted_in : Setting → Past → Entry → Option Message
accepted_in w past e = option_and_then (message_of w past (origin_of e.actor e.act)) (handed_in w past e.actor e.act)

-- ---- histories

-- a message more, where there is one
abbrev pub with_message : List Message → Option Message → List Message
with_message ms None = ms
with_message ms (Some m) = ms ++ m ∷ []

-- what happened, with an entry more
abbrev pub then_one : Setting → Past → Entry → Past
then_one w past e = record {
  entries = past.entries ++ e ∷ [];
  messages = with_message past.messages (accepted_in w past e);
}

-- what happened, with some entries more
abbrev pub then_all : Setting → Past → List Entry → Past
then_all w past [] = past
then_all w past (e ∷ es) = then_all w (then_one w past e) es

-- what happened in a history
abbrev pub past_of : Setting → List Entry → Past
past_of w h = then_all w nothing_yet h

-- the accepted messages of a history, by number
abbrev pub accepted : Setting → List Entry → List Message
accepted w h = (past_of w h).messages
