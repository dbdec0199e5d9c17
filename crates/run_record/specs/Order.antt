-- In which order postings are answered.
use Rattle.std.specs.Prelude.{◌≡◌, ℕ, zero, suc, ◌-◌, ◌<◌, Bool, false, ◌&&◌, ◌||◌, List, [], ◌∷◌, nat_eq}
use Rattle.std.specs.Prelude.{nat_lt, if◌then◌else◌, Option, None, Some, is_some, slice_get, flat_map}
use Rattle.std.specs.Prelude.{count_by, unwrap_or}
use Rattle.std.specs.List.{list_all, list_any, filter, filter_map}
use Rattle.office_core.specs.declared.post.PostReply.{PostReply}
use Rattle.office_core.specs.declared.post.PostReply.TheVariants as answer
use Rattle.office_core.specs.declared.history.Act.TheVariants as act
use Rattle.office_core.specs.declared.history.Entry.{Entry}
use Rattle.office_core.specs.Limits.{Setting}
use Rattle.office_core.specs.Past.{Past, stops}
use Rattle.office_core.specs.Keys.{first}
use Rattle.office_core.specs.Accepted.{past_of}
use Rattle.office_core.specs.Answers.{answers}

-- the message that a post was accepted as
abbrev pub accepted_as : PostReply → Option ℕ
accepted_as (answer.Accepted n) = Some n
accepted_as (answer.Refused why) = None

-- the message that an entry of an actor accepted for its posting j
abbrev pub message_in : ℕ → ℕ → Entry → Option ℕ
message_in actor j e = elim e.act [
  | act.Post k i q r ↦ (if nat_eq actor e.actor && nat_eq j k then accepted_as r else None)
  | _ ↦ None
]

-- the accepted messages of posting j of an actor
abbrev pub messages_for : Past → ℕ → ℕ → List ℕ
messages_for past actor j = filter_map (message_in actor j) past.entries

-- the numbers from n on, so many
abbrev pub numbers_from : ℕ → ℕ → List ℕ
numbers_from n zero = []
numbers_from n (suc k) = n ∷ numbers_from (suc n) k

-- ---- one worker

-- the entries before the first of a kind
abbrev pub before_first : (Entry → Bool) → List Entry → List Entry
before_first is_it [] = []
before_first is_it (e ∷ es) = if is_it e then [] else e ∷ before_first is_it es

-- a post by an actor for a posting above i
abbrev pub posts_above : ℕ → ℕ → Entry → Bool
posts_above actor i e = elim e.act [ act.Post j k q r ↦ nat_eq actor e.actor && nat_lt i j | _ ↦ false ]

-- what happened before the first post of a posting above i, and before the stop. The messages are those of the whole
-- past
abbrev pub until_posting : Past → ℕ → ℕ → Past
until_posting past actor i = record {
  entries = before_first (λ e. posts_above actor i e || stops e) past.entries;
  messages = past.messages;
}

-- each accepted message of posting j had an answer before the first post of a posting above i
abbrev pub is_finished : Setting → Past → ℕ → ℕ → ℕ → Bool
is_finished w past actor j i =
    list_all (λ n. is_some (first (answers w (until_posting past actor i) n))) (messages_for past actor j)

-- where posting j of so many is finished: at the first posting from its own on before whose end it had its answers;
-- and at the end, which is a number of its own, where the stop alone gave one
abbrev pub finished_at : Setting → Past → ℕ → ℕ → ℕ → ℕ
finished_at w past actor count j =
    unwrap_or (first (filter (is_finished w past actor j) (numbers_from j (count - j)))) count

-- the postings among so many that are finished at i, in order
abbrev pub finished_there : Setting → Past → ℕ → ℕ → ℕ → List ℕ
finished_there w past actor count i =
    filter (λ j. nat_eq i (finished_at w past actor count j)) (numbers_from 0 count)

-- the postings of an actor, so many, in the order in which one worker answers them: by where they are finished, and
-- then by their numbers
abbrev pub order_alone : Setting → List Entry → ℕ → ℕ → List ℕ
order_alone w h actor count = flat_map (finished_there w (past_of w h) actor count) (numbers_from 0 (suc count))

-- ---- more workers

-- an entry by which the answer of one of these messages was collected
abbrev pub collects_any : List ℕ → Entry → Bool
collects_any messages e = elim e.act [ act.Collect n o ↦ list_any (nat_eq n) messages | _ ↦ false ]

-- the place of the last entry of a kind; the first entry has the place n
abbrev pub last_from : (Entry → Bool) → ℕ → List Entry → Option ℕ
last_from is_it n [] = None
last_from is_it n (e ∷ es) = elim (last_from is_it (suc n) es) [
  | Some k ↦ Some k
  | None ↦ if is_it e then Some n else None
]

-- the place of the last collect of a posting of an actor, where one of its answers was collected
abbrev pub last_collect : Setting → List Entry → ℕ → ℕ → Option ℕ
last_collect w h actor j = last_from (collects_any (messages_for (past_of w h) actor j)) 0 h

-- Numbers below a count, each once.
abbrev pub IsEachOnce : ℕ → List ℕ → Type 0
IsEachOnce count order = (j : ℕ) → count_by (nat_eq j) order ≡ (if nat_lt j count then 1 else 0)

-- The postings of an actor, so many, each once; of two that were collected, the one whose last collect came first
-- stands first.
pub record IsOrder (w : Setting) (h : List Entry) (actor count : ℕ) (order : List ℕ) : Type 0 where
  pub each : IsEachOnce count order
  pub collects : (m n i j a b : ℕ) → slice_get order m ≡ Some i → slice_get order n ≡ Some j → m < n
      → last_collect w h actor i ≡ Some a → last_collect w h actor j ≡ Some b → a < b
