-- What the calls of the office answer on what happened so far.
use Rattle.std.specs.Prelude.{ℕ, Bool, true, false, if◌then◌else◌, List, Option, None, option_map, option_and_then}
use Rattle.std.specs.Prelude.{slice_get}
use Rattle.reqresp_book.specs.declared.origin.Origin.{Origin}
use Rattle.reqresp_book.specs.declared.origin.Origin.TheVariants as origin
use Rattle.office_core.specs.declared.outgoing.Outgoing.{Outgoing}
use Rattle.office_core.specs.declared.outgoing.OutKind.{OutKind}
use Rattle.office_core.specs.declared.post.Birth.{Birth}
use Rattle.office_core.specs.declared.post.Mail.{Mail}
use Rattle.office_core.specs.Limits.{Setting}
use Rattle.office_core.specs.declared.message.Message.{Message}
use Rattle.office_core.specs.Past.{Past}
use Rattle.office_core.specs.Sessions.{service_of, was_adopted}
use Rattle.office_core.specs.Boxes.{queue}
use Rattle.office_core.specs.Keys.{first}
use Rattle.office_core.specs.declared.message.Call.{Call}
use Rattle.office_core.specs.Calls.{outgoing}

-- the birth of a session that was not adopted
abbrev pub birth_of : Setting → Past → ℕ → Option Birth
birth_of w past s =
    if was_adopted past s then None
    else option_map (λ d. record { session = s; service = d }) (service_of w past s)

-- a message as its session takes it
abbrev pub mail_of : ℕ → Message → Mail
mail_of n m = record { message = n; op = m.op; value = m.value }

-- the oldest of the messages that wait for a session and are of one of the operations
abbrev pub next_mail : Past → ℕ → List ℕ → Option Mail
next_mail past s ops =
    option_and_then (λ n. option_map (mail_of n) (slice_get past.messages n)) (first (queue past s ops))

-- a call as it goes out, with the service of its session
abbrev pub going : Call → ℕ → Outgoing
going c d = record {
  session = c.session;
  service = d;
  call = c.number;
  port = c.port;
  op = c.op;
  value = c.value;
  wants = c.wants;
}

-- the oldest call of a kind that goes out and that nobody fetched yet
abbrev pub next_outgoing : Setting → Past → OutKind → Option Outgoing
next_outgoing w past k =
    option_and_then (λ c. option_map (going c) (service_of w past c.session)) (first (outgoing w past k))

-- a message comes in at a port
abbrev pub is_port : Origin → Bool
is_port (origin.Port j i) = true
is_port (origin.Session s k) = false
