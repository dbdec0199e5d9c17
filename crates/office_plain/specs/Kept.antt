-- What the office keeps of sessions and calls, as the history has it.
use Rattle.std.specs.Prelude.{ℕ, suc, ◌++◌, Bool, ◌&&◌, List, [], ◌∷◌, flat_map, nat_eq, if◌then◌else◌, Option, None}
use Rattle.std.specs.Prelude.{Some, option_map, slice_get, unwrap_or}
use Rattle.std.specs.List.{filter_map}
use Rattle.behaviour_tree.specs.Data.{ServicePart, ProgramParts}
use Rattle.behaviour_tree.specs.declared.words.Outcome.{Outcome}
use Rattle.correlation.specs.declared.session.Written.{Written}
use Rattle.correlation.specs.declared.session.Session.{Session}
use Rattle.correlation.specs.declared.bind_reply.BindReply.TheVariants as reply
use Rattle.office_core.specs.declared.history.Act.TheVariants as act
use Rattle.office_core.specs.declared.history.Entry.{Entry}
use Rattle.office_core.specs.declared.outgoing.OutKind.{OutKind}
use Rattle.office_core.specs.Limits.{Setting}
use Rattle.office_core.specs.Past.{Past}
use Rattle.office_core.specs.Sessions.{births, service_of, has_ended, was_adopted}
use Rattle.office_core.specs.Keys.{first, Variable, sets_of, brought_by}
use Rattle.office_core.specs.declared.message.Call.{Call}
use Rattle.office_core.specs.Calls.{calls, brought_in, is_waiting, kind_of, same_kind}
use Rattle.office_plain.specs.SetNumbers.{numbered_sets}
use Rattle.office_plain.specs.declared.kept.SessionRow.{SessionRow}

-- ---- calls

-- the places of the calls of a kind; the first call has the place n
abbrev pub places_from : (Call → Bool) → ℕ → List Call → List ℕ
places_from is_it n [] = []
places_from is_it n (c ∷ cs) = (if is_it c then n ∷ [] else []) ++ places_from is_it (suc n) cs

-- the places of a session's calls among all
abbrev pub call_places : Past → ℕ → List ℕ
call_places past s = places_from (λ c. nat_eq s c.session) 0 (calls past)

-- the places of the calls of a kind that go out and that nobody fetched yet
abbrev pub unfetched : Setting → Past → OutKind → List ℕ
unfetched w past kind = places_from (λ c. is_waiting past c && same_kind kind (kind_of w past c)) 0 (calls past)

-- the outcome that was brought from outside for a call
abbrev pub brought_for : Past → Call → Option Outcome
brought_for past c = first (filter_map (brought_in c) past.entries)

-- ---- sessions

-- what is kept of a session that was born
abbrev pub row_of : Setting → Past → ℕ → Option SessionRow
row_of w past s =
    option_map
    (λ d. record { service = d; adopted = was_adopted past s; ended = has_ended past s })
    (service_of w past s)

-- the places of the calls of a session that was born
abbrev pub places_of : Setting → Past → ℕ → Option (List ℕ)
places_of w past s = option_map (λ d. call_places past s) (service_of w past s)

-- ---- correlation

-- the variables of a service
abbrev pub variables_of : ProgramParts → ℕ → List Variable
variables_of parts d =
    unwrap_or (option_map (λ (s : ServicePart). flat_map (λ vs. vs) (sets_of s)) (slice_get parts.services d)) []

-- what the message that started a session wrote into a variable
abbrev pub written_first : Setting → Past → ℕ → Variable → Option Written
written_first w past s v =
    option_map (λ x. record { variable = v.number; value = x }) (first (filter_map (brought_by w s v) past.messages))

-- what an entry wrote into a variable of a session
abbrev pub written_in : ℕ → Entry → Option Written
written_in s e = elim e.act [
  | act.Bind v x r ↦ elim r [
    | reply.Bound ↦ (if nat_eq s e.actor then Some (record { variable = v; value = x }) else None)
    | reply.Held t ↦ None
    | reply.Fixed ↦ None
  ]
  | _ ↦ None
]

-- what was written into the variables of session s of service d, in order
abbrev pub values_of : Setting → Past → ℕ → ℕ → List Written
values_of w past s d =
    filter_map (written_first w past s) (variables_of w.parts d) ++ filter_map (written_in s) past.entries

-- what correlation has of session s of service d
abbrev pub keyed : Setting → Past → ℕ → ℕ → Session
keyed w past s d =
    record { number = s; sets = numbered_sets w.parts d; written = values_of w past s d; released = has_ended past s }

-- what correlation has of sessions of these services, the first of which has the number s
abbrev pub keyed_from : Setting → Past → ℕ → List ℕ → List Session
keyed_from w past s [] = []
keyed_from w past s (d ∷ ds) = keyed w past s d ∷ keyed_from w past (suc s) ds

-- what correlation has of all sessions
abbrev pub keyed_sessions : Setting → Past → List Session
keyed_sessions w past = keyed_from w past 0 (births w past)
