-- These definitions serve the proofs of runs: no promise of the program speaks of them.
-- What becomes of the calls of postings: the entries by which they are posted, and their answers collected.
use Rattle.std.specs.Prelude.{ℕ, suc, Bool, true, false, not, List, [], ◌∷◌, ◌++◌, map, flat_map}
use Rattle.std.specs.Prelude.{Option, None, Some}
use Rattle.std.specs.List.{list_all, filter_map}
use Rattle.behaviour_tree.specs.declared.words.Outcome.{Outcome}
use Rattle.behaviour_tree.specs.declared.words.Outcome.TheVariants as outcome
use Rattle.office_core.specs.declared.front.CallIn.{CallIn}
use Rattle.office_core.specs.declared.front.CallIn.TheVariants as call
use Rattle.office_core.specs.declared.history.Act.TheVariants as act
use Rattle.office_core.specs.declared.history.Entry.{Entry}
use Rattle.office_core.specs.declared.post.Posted.{Posted}
use Rattle.office_core.specs.declared.post.PostReply.{PostReply}
use Rattle.office_core.specs.declared.post.PostReply.TheVariants as answer
use Rattle.office_core.specs.Limits.{Setting, first_worker}
use Rattle.office_core.specs.Past.{Past}
use Rattle.office_core.specs.Keys.{first}
use Rattle.office_core.specs.Accepted.{then_all}
use Rattle.office_core.specs.Answers.{answers}
use Rattle.office_core.specs.Route.{route, post_reply}
use Rattle.run_theorem.specs.Exchange.{Told}
use Rattle.run_posts.specs.declared.pending.CallState.{CallState}
use Rattle.run_posts.specs.declared.pending.CallState.TheVariants.{Message, Known}
use Rattle.run_posts.specs.declared.pending.Pending.{Pending}
use Rattle.run_posts.specs.declared.pending.Pendings.{Pendings}

-- a posting that was not answered yet, with what became of its calls
pub record Wait : Type 0 where
  pub place : ℕ
  pub call_states : List CallState

-- a posting that waits, as it stands in memory
abbrev pub wait_of : Pending → Wait
wait_of p = record { place = p.place; call_states = p.call_states.items }

-- those that were not answered yet, in order
abbrev pub waits : Pendings → List Wait
waits p = map wait_of p.waiting.items

-- ---- posting

-- what becomes of a call by the reply to its post
abbrev pub call_state_of : PostReply → CallState
call_state_of (answer.Accepted n) = Message n
call_state_of (answer.Refused why) = Known (outcome.Refused why)

-- the reply to a post
abbrev pub reply_to : Setting → Past → Posted → PostReply
reply_to w past q = post_reply past (route w past q)

-- what call i of posting j adds: its post, unless it was answered before
abbrev pub call_entries : Setting → Past → ℕ × ℕ → CallIn → List Entry
call_entries w past ji (call.Post q) =
    record { actor = first_worker; act = act.Post ji.0 ji.1 q (reply_to w past q) } ∷ []
call_entries w past ji (call.Answered o) = []

-- what becomes of it
abbrev pub state_of_call : Setting → Past → CallIn → CallState
state_of_call w past (call.Post q) = call_state_of (reply_to w past q)
state_of_call w past (call.Answered o) = Known o

-- what calls of posting j add, the first of which has the number i
abbrev pub posted_entries : Setting → Past → ℕ × ℕ → List CallIn → List Entry
posted_entries w past ji [] = []
posted_entries w past ji (c ∷ cs) =
    call_entries w past ji c ++ posted_entries w (then_all w past (call_entries w past ji c)) (ji.0, suc ji.1) cs

-- what becomes of them
abbrev pub call_states_of : Setting → Past → ℕ × ℕ → List CallIn → List CallState
call_states_of w past ji [] = []
call_states_of w past ji (c ∷ cs) =
    state_of_call w past c ∷ call_states_of w (then_all w past (call_entries w past ji c)) (ji.0, suc ji.1) cs

-- ---- collecting

-- the message of a call whose outcome is not known yet
abbrev pub message_in : CallState → Option ℕ
message_in (Message n) = Some n
message_in (Known o) = None

-- those of calls
abbrev pub messages_in : List CallState → List ℕ
messages_in call_states = filter_map message_in call_states

-- those of postings
abbrev pub messages_of : List Wait → List ℕ
messages_of xs = flat_map (λ (x : Wait). messages_in x.call_states) xs

-- the collection of the answer of a message, where there is one
abbrev pub collection : ℕ → Option Outcome → List Entry
collection n None = []
collection n (Some o) = record { actor = first_worker; act = act.Collect n o } ∷ []

-- what a call adds when its answer is collected, if it waits for one that is there
abbrev pub collected : Setting → Past → CallState → List Entry
collected w past (Message n) = collection n (first (answers w past n))
collected w past (Known o) = []

-- what calls add
abbrev pub collected_in : Setting → Past → List CallState → List Entry
collected_in w past call_states = flat_map (collected w past) call_states

-- what postings add
abbrev pub all_collected : Setting → Past → List Wait → List Entry
all_collected w past xs = flat_map (λ (x : Wait). collected_in w past x.call_states) xs

-- a call that waits for an answer, if it is there
abbrev pub settled_by : ℕ → Option Outcome → CallState
settled_by n None = Message n
settled_by n (Some o) = Known o

-- what becomes of a call when its answer is collected
abbrev pub settled : Setting → Past → CallState → CallState
settled w past (Message n) = settled_by n (first (answers w past n))
settled w past (Known o) = Known o

-- the same of a posting
abbrev pub settled_in : Setting → Past → Wait → Wait
settled_in w past x = record { place = x.place; call_states = map (settled w past) x.call_states }

-- ---- telling

-- the outcome of a call, where it is known
abbrev pub outcome_in : CallState → Option Outcome
outcome_in (Message n) = None
outcome_in (Known o) = Some o

-- whether the outcome of a call is known
abbrev pub is_known : CallState → Bool
is_known (Message n) = false
is_known (Known o) = true

-- the outcomes that are known
abbrev pub outcomes_in : List CallState → List Outcome
outcomes_in call_states = filter_map outcome_in call_states

-- the outcome of each call of a posting is known
abbrev pub is_finished : Wait → Bool
is_finished x = list_all is_known x.call_states

-- or not
abbrev pub is_open : Wait → Bool
is_open x = not (is_finished x)

-- what is told of a posting
abbrev pub told_of : Wait → Told
told_of x = record { place = x.place; outcomes = outcomes_in x.call_states }
