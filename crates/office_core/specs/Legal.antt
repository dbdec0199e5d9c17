-- A legal history: each entry meets the condition of its call and has the reply that the entries before it give.
use Rattle.std.specs.Prelude.{◌≡◌, ℕ, Bool, true, false, not, ◌&&◌, ◌||◌, List, [], ◌∷◌, nat_eq, nat_le, Option, None}
use Rattle.std.specs.Prelude.{Some, is_some, option_map, option_and_then, slice_get}
use Rattle.jolie_trees.specs.declared.root.Root.{Root}
use Rattle.correlation.specs.declared.bind_reply.BindReply.{BindReply}
use Rattle.reqresp_book.specs.declared.origin.Origin.TheVariants as origin
use Rattle.office_core.specs.declared.post.PostReply.TheVariants as answer
use Rattle.office_core.specs.declared.post.Posted.{Posted}
use Rattle.office_core.specs.declared.history.Placed.{Placed}
use Rattle.office_core.specs.declared.history.Placed.TheVariants as at
use Rattle.office_core.specs.declared.history.Act.{Act}
use Rattle.office_core.specs.declared.history.Act.TheVariants as act
use Rattle.office_core.specs.declared.history.Entry.{Entry}
use Rattle.office_core.specs.Limits.{Setting, first_worker}
use Rattle.office_core.specs.Past.{Message, Past, nothing_yet, some_entry, is_running, closes}
use Rattle.office_core.specs.Sessions.{service_of, is_live, was_adopted}
use Rattle.office_core.specs.Boxes.{took, queue}
use Rattle.office_core.specs.Keys.{first}
use Rattle.office_core.specs.Route.{route, post_reply, send_reply}
use Rattle.office_core.specs.Accepted.{handed_in, then_one}
use Rattle.office_core.specs.Answers.{answers, is_open}
use Rattle.office_core.specs.Calls.{Call, call, next_call, brings, fetches, result, kind_of, outgoing}
use Rattle.office_core.specs.Bound.{sets_with, bind_reply}

-- ---- the conditions

-- a worker, while the run did not stop
abbrev pub is_at_work : Past → ℕ → Bool
is_at_work past actor = is_running past && nat_le first_worker actor

-- a session that lives and was adopted, while the run did not stop
abbrev pub is_acting : Setting → Past → ℕ → Bool
is_acting w past s = is_running past && is_live w past s && was_adopted past s

-- whether the service of a session has a variable
abbrev pub has_variable : Setting → Past → ℕ → ℕ → Bool
has_variable w past s v =
    is_some (option_and_then (λ d. first (sets_with w d v)) (service_of w past s))

-- an entry by which session s took the answer of its call k
abbrev pub takes_answer : ℕ → ℕ → Entry → Bool
takes_answer s k e = elim e.act [ act.Answer n o ↦ nat_eq s e.actor && nat_eq k n | _ ↦ false ]

-- call k of session s wants an answer, and the session did not take it
abbrev pub is_wanted : Past → ℕ → ℕ → Bool
is_wanted past s k =
    not (some_entry past (takes_answer s k)) && elim (call past s k) [ None ↦ false | Some c ↦ c.wants ]

-- an entry by which the answer of message n was collected
abbrev pub collects : ℕ → Entry → Bool
collects n e = elim e.act [ act.Collect m o ↦ nat_eq n m | _ ↦ false ]

-- the entry by which an actor posted message n
abbrev pub posts_as : ℕ → ℕ → Entry → Bool
posts_as actor n e = elim e.act [ act.Post j i q (answer.Accepted m) ↦ nat_eq actor e.actor && nat_eq n m | _ ↦ false ]

-- a message that came in at a port
abbrev pub is_from_port : Message → Bool
is_from_port m = elim m.origin [ origin.Port posting index ↦ true | origin.Session s k ↦ false ]

-- message n came in at a port and was not collected; while the run did not stop, the actor itself posted it
abbrev pub is_collectable : Past → ℕ → ℕ → Bool
is_collectable past actor n =
    not (some_entry past (collects n))
    && elim (slice_get past.messages n) [ None ↦ false | Some m ↦ is_from_port m ]
    && (not (is_running past) || some_entry past (posts_as actor n))

-- the actor fetched call k of session s, and nobody brought its outcome yet
abbrev pub is_fetched : Past → ℕ → ℕ → ℕ → Bool
is_fetched past actor s k = elim (call past s k) [
  | None ↦ false
  | Some c ↦ some_entry past (λ e. nat_eq actor e.actor && fetches c e) && not (some_entry past (brings c))
]

-- whether an actor may make a call
abbrev pub is_allowed : Setting → Past → ℕ → Act → Bool
is_allowed w past actor (act.Post j i q r) = is_at_work past actor
is_allowed w past s (act.Adopt d) = is_running past && not (was_adopted past s)
is_allowed w past s (act.Take n) = is_acting w past s
is_allowed w past s (act.Bind v x r) = is_acting w past s && has_variable w past s v
is_allowed w past s (act.Reply n o) = is_acting w past s && took past s n && is_open w past n
is_allowed w past s (act.Send k port op v wants r) = is_acting w past s && nat_eq k (next_call past s)
is_allowed w past s (act.Answer k o) = is_acting w past s && is_wanted past s k
is_allowed w past s act.End = is_acting w past s
is_allowed w past actor (act.Collect n o) = nat_le first_worker actor && is_collectable past actor n
is_allowed w past actor (act.Fetch s k) = is_at_work past actor
is_allowed w past actor (act.Answered s k o) = is_at_work past actor && is_fetched past actor s k
is_allowed w past actor act.Close = is_at_work past actor && not (some_entry past closes)
is_allowed w past actor act.Stop = is_at_work past actor

-- ---- the replies

-- the oldest message of the operation of message n that waits for session s
abbrev pub oldest : Past → ℕ → ℕ → Option ℕ
oldest past s n = option_and_then (λ m. first (queue past s (m.op ∷ []))) (slice_get past.messages n)

-- where a session's message goes: out where no service of the program is behind its port, else its way
abbrev pub placed : Setting → Past → Option Posted → Placed
placed w past None = at.Out
placed w past (Some q) = send_reply past (route w past q)

-- the answer of a binding by session s, which was born
abbrev pub bound : Setting → Past → ℕ → ℕ → Root → Option BindReply
bound w past s v x =
    option_map
    (λ d. bind_reply w past (record { session = s; service = d; variable = v; value = x }))
    (service_of w past s)

-- the oldest call that waits to be fetched, of the kind of call k of session s
abbrev pub next_out : Setting → Past → ℕ → ℕ → Option Call
next_out w past s k = option_and_then (λ c. first (outgoing w past (kind_of w past c))) (call past s k)

-- a call with the reply that the office gives, where it gives one
abbrev pub replied : Setting → Past → ℕ → Act → Option Act
replied w past actor (act.Post j i q r) = Some (act.Post j i q (post_reply past (route w past q)))
replied w past s (act.Adopt d) = option_map act.Adopt (service_of w past s)
replied w past s (act.Take n) = option_map act.Take (oldest past s n)
replied w past s (act.Bind v x r) = option_map (act.Bind v x) (bound w past s v x)
replied w past s (act.Reply n o) = Some (act.Reply n o)
replied w past s (act.Send k port op v wants r) =
    Some (act.Send k port op v wants (placed w past (handed_in w past s (act.Send k port op v wants r))))
replied w past s (act.Answer k o) = option_map (act.Answer k) (result w past s k)
replied w past s act.End = Some act.End
replied w past actor (act.Collect n o) = option_map (act.Collect n) (first (answers w past n))
replied w past actor (act.Fetch s k) = option_map (λ c. act.Fetch c.session c.number) (next_out w past s k)
replied w past actor (act.Answered s k o) = Some (act.Answered s k o)
replied w past actor act.Close = Some act.Close
replied w past actor act.Stop = Some act.Stop

-- ---- histories

-- an entry is legal on what happened before it
pub record IsLegalEntry (w : Setting) (past : Past) (e : Entry) : Type 0 where
  pub allowed : is_allowed w past e.actor e.act ≡ true
  pub reply : replied w past e.actor e.act ≡ Some e.act

-- entries are legal, each on what happened before it
abbrev pub AreLegal : Setting → Past → List Entry → Type 0
AreLegal w past [] = Unit {0}
AreLegal w past (e ∷ es) = IsLegalEntry w past e × AreLegal w (then_one w past e) es

-- the history is legal
abbrev pub IsLegal : Setting → List Entry → Type 0
IsLegal w h = AreLegal w nothing_yet h
