-- What the office asks of a session before each of its calls. It is said of the session's own entries and of accepted
-- messages, so that no entry of another actor can break it.
use Rattle.std.specs.Prelude.{ℕ, Bool, true, false, not, ◌&&◌, List, nat_eq, None, Some, is_some, slice_get}
use Rattle.behaviour_tree.specs.declared.words.Need.{Need}
use Rattle.behaviour_tree.specs.declared.words.Need.TheVariants as need
use Rattle.behaviour_tree.specs.Operations.{operation_at}
use Rattle.office_core.specs.declared.history.Act.TheVariants as act
use Rattle.office_core.specs.declared.history.Entry.{Entry}
use Rattle.office_core.specs.Limits.{Setting}
use Rattle.office_core.specs.Past.{Past, some_entry}
use Rattle.office_core.specs.Sessions.{has_ended, service_of, was_adopted}
use Rattle.office_core.specs.Boxes.{took}
use Rattle.office_core.specs.Calls.{next_call}
use Rattle.office_core.specs.Legal.{has_variable, is_wanted}
use Rattle.session_turn.specs.Seen.{Seat, past_at}

-- the session was adopted and did not end
abbrev pub is_at_work : Past → ℕ → Bool
is_at_work past s = was_adopted past s && not (has_ended past s)

-- an entry by which session s answered message n
abbrev pub answers_message : ℕ → ℕ → Entry → Bool
answers_message s n e = elim e.act [ act.Reply m o ↦ nat_eq s e.actor && nat_eq n m | _ ↦ false ]

-- whether an operation of a service has a response
abbrev pub has_response : Setting → ℕ → ℕ → Bool
has_response w service op = elim (operation_at w.parts service op) [ None ↦ false | Some o ↦ is_some o.response ]

-- whether message n is a request to the service of session s
abbrev pub is_request_to : Setting → Past → ℕ → ℕ → Bool
is_request_to w past s n =
    elim (slice_get past.messages n) [
      | None ↦ false
      | Some m ↦ elim (service_of w past s) [ None ↦ false | Some d ↦ has_response w d m.op ]
    ]

-- session s took message n, which is a request, and did not answer it
abbrev pub is_to_answer : Setting → Past → ℕ → ℕ → Bool
is_to_answer w past s n = took past s n && not (some_entry past (answers_message s n)) && is_request_to w past s n

-- what the call asks of session s beside that it is at work
abbrev pub meets : Setting → Past → ℕ → Need → Bool
meets w past s (need.Answer k) = is_wanted past s k
meets w past s (need.Bind v x) = has_variable w past s v
meets w past s (need.Reply n o) = is_to_answer w past s n
meets w past s (need.Send k port op v wants) = nat_eq k (next_call past s)
meets w past s n = true

-- the session may make the call for a need
abbrev pub may_call : Seat → List Entry → Need → Bool
may_call a h n = is_at_work (past_at a h) a.session && meets a.setting (past_at a h) a.session n
