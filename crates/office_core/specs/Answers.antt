-- The answers that a history gives a message: at once, by its session, by the end of that, or by the stop of the run.
use Rattle.std.specs.Prelude.{ℕ, Bool, false, not, ◌&&◌, List, [], ◌∷◌, ◌++◌, nat_eq, if◌then◌else◌, Option, None}
use Rattle.std.specs.Prelude.{Some, is_some, slice_get}
use Rattle.std.specs.List.{filter_map}
use Rattle.jolie_trees.specs.Trees.{void_tree}
use Rattle.behaviour_tree.specs.declared.words.Outcome.{Outcome}
use Rattle.behaviour_tree.specs.declared.words.Outcome.TheVariants as outcome
use Rattle.behaviour_tree.specs.declared.words.Reason.TheVariants as reason
use Rattle.behaviour_tree.specs.Operations.{operation_at}
use Rattle.office_core.specs.declared.history.Entry.{Entry}
use Rattle.office_core.specs.declared.history.Act.TheVariants as act
use Rattle.office_core.specs.Limits.{Setting}
use Rattle.office_core.specs.Past.{Message, Past, some_entry, stops}
use Rattle.office_core.specs.Sessions.{has_ended}
use Rattle.office_core.specs.Boxes.{was_taken}

-- a message is a request where its operation has a response
abbrev pub is_request : Setting → Message → Bool
is_request w m = elim (operation_at w.parts m.service m.op) [ None ↦ false | Some o ↦ is_some o.response ]

-- the answer of a message that asks for none: void, from its acceptance
abbrev pub at_once : Setting → Message → List Outcome
at_once w m = if is_request w m then [] else outcome.Value void_tree ∷ []

-- the reply that an entry gives message n
abbrev pub reply_in : ℕ → Entry → Option Outcome
reply_in n e = elim e.act [ act.Reply m o ↦ (if nat_eq n m then Some o else None) | _ ↦ None ]

-- the replies to message n
abbrev pub replies : Past → ℕ → List Outcome
replies past n = filter_map (reply_in n) past.entries

-- a request that its session left in its box when it ended
abbrev pub is_left : Setting → Past → ℕ → Message → Bool
is_left w past n m = is_request w m && has_ended past m.session && not (was_taken past n)

-- the answer that the end of its session gives a request
abbrev pub by_end : Setting → Past → ℕ → Message → List Outcome
by_end w past n m = if is_left w past n m then outcome.Refused reason.SessionEnded ∷ [] else []

-- the answer that the stop of the run gives a request that has no other
abbrev pub by_stop : Setting → Past → Message → List Outcome → List Outcome
by_stop w past m [] = if is_request w m && some_entry past stops then outcome.Refused reason.Stopped ∷ [] else []
by_stop w past m (o ∷ os) = []

-- the answers of a message by its session: replies, or its end
abbrev pub by_session : Setting → Past → ℕ → Message → List Outcome
by_session w past n m = replies past n ++ by_end w past n m

-- the answers of message n, which is m
abbrev pub answers_of : Setting → Past → ℕ → Message → List Outcome
answers_of w past n m = at_once w m ++ by_session w past n m ++ by_stop w past m (by_session w past n m)

-- the answers of message n, none where it was not accepted
abbrev pub answers : Setting → Past → ℕ → List Outcome
answers w past n = elim (slice_get past.messages n) [ None ↦ [] | Some m ↦ answers_of w past n m ]

-- a request without an answer
abbrev pub is_open : Setting → Past → ℕ → Bool
is_open w past n = elim (slice_get past.messages n) [
  | None ↦ false
  | Some m ↦ elim (answers_of w past n m) [ [] ↦ is_request w m | o ∷ os ↦ false ]
]
