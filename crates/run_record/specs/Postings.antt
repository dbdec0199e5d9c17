-- What a front received in, and what it was told.
use Rattle.std.specs.Prelude.{ℕ, suc, ◌&&◌, List, [], ◌∷◌, ◌++◌, nat_eq}
use Rattle.std.specs.Prelude.{if◌then◌else◌, Option, None, Some, option_and_then}
use Rattle.std.specs.List.{filter_map}
use Rattle.behaviour_tree.specs.declared.words.Outcome.{Outcome}
use Rattle.behaviour_tree.specs.declared.words.Outcome.TheVariants as outcome
use Rattle.office_core.specs.declared.post.Posted.{Posted}
use Rattle.office_core.specs.declared.post.PostReply.{PostReply}
use Rattle.office_core.specs.declared.post.PostReply.TheVariants as answer
use Rattle.office_core.specs.declared.front.CallIn.{CallIn}
use Rattle.office_core.specs.declared.front.CallIn.TheVariants as call
use Rattle.office_core.specs.declared.front.Posting.{Posting}
use Rattle.office_core.specs.declared.history.Act.TheVariants as act
use Rattle.office_core.specs.declared.history.Entry.{Entry}
use Rattle.office_core.specs.Limits.{Setting}
use Rattle.office_core.specs.Past.{Past}
use Rattle.office_core.specs.Keys.{first, all_there}
use Rattle.office_core.specs.Answers.{answers}

-- ---- what was posted

-- a post: its posting, its call there, and the message
pub record Post : Type 0 where
  pub posting : ℕ
  pub index : ℕ
  pub posted : Posted

-- the post that an entry of an actor is
abbrev pub post_by : ℕ → Entry → Option Post
post_by actor e = elim e.act [
  | act.Post j i q r ↦ (if nat_eq actor e.actor then Some (record { posting = j; index = i; posted = q }) else None)
  | _ ↦ None
]

-- the posts of an actor, in order
abbrev pub posts_by : ℕ → List Entry → List Post
posts_by actor h = filter_map (post_by actor) h

-- the post that call i of posting j asks for, none where it was refused before
abbrev pub post_for : ℕ → ℕ → CallIn → List Post
post_for j i (call.Post q) = record { posting = j; index = i; posted = q } ∷ []
post_for j i (call.Answered o) = []

-- the posts that calls of posting j ask for, the first of which has the number i
abbrev pub posts_from : ℕ → ℕ → List CallIn → List Post
posts_from j i [] = []
posts_from j i (c ∷ cs) = post_for j i c ++ posts_from j (suc i) cs

-- the posts that postings ask for, the first of which has the number j
abbrev pub posts_of : ℕ → List Posting → List Post
posts_of j [] = []
posts_of j (p ∷ ps) = posts_from j 0 p.calls ++ posts_of (suc j) ps

-- ---- what was answered

-- the reply that an entry of an actor gives call i of posting j
abbrev pub reply_in : ℕ → ℕ → ℕ → Entry → Option PostReply
reply_in actor j i e = elim e.act [
  | act.Post k l q r ↦ (if nat_eq actor e.actor && nat_eq j k && nat_eq i l then Some r else None)
  | _ ↦ None
]

-- the outcome of a post by its reply: the answer of its message, or the refusal
abbrev pub outcome_by : Setting → Past → PostReply → Option Outcome
outcome_by w past (answer.Accepted n) = first (answers w past n)
outcome_by w past (answer.Refused why) = Some (outcome.Refused why)

-- the outcome of call i of posting j of an actor
abbrev pub outcome_of : Setting → Past → ℕ → ℕ × ℕ → CallIn → Option Outcome
outcome_of w past actor ji (call.Answered o) = Some o
outcome_of w past actor ji (call.Post q) =
    option_and_then (outcome_by w past) (first (filter_map (reply_in actor ji.0 ji.1) past.entries))

-- the outcomes of calls of posting j of an actor, the first of which has the number i
abbrev pub outcomes_from : Setting → Past → ℕ → ℕ × ℕ → List CallIn → List (Option Outcome)
outcomes_from w past actor ji [] = []
outcomes_from w past actor ji (c ∷ cs) =
    outcome_of w past actor ji c ∷ outcomes_from w past actor (ji.0, suc ji.1) cs

-- what a front is told of its posting j once each of its calls has an outcome: the outcomes, in order
abbrev pub told : Setting → Past → ℕ → ℕ → Posting → Option (List Outcome)
told w past actor j p = all_there (outcomes_from w past actor (j, 0) p.calls)
