-- The entries that calls of the office add: each is the call with its reply.
use Rattle.std.specs.Prelude.{ℕ, Option, None, Some, option_map}
use Rattle.behaviour_tree.specs.declared.words.Outcome.{Outcome}
use Rattle.reqresp_book.specs.declared.origin.Origin.{Origin}
use Rattle.reqresp_book.specs.declared.origin.Origin.TheVariants as origin
use Rattle.office_core.specs.declared.history.Act.{Act}
use Rattle.office_core.specs.declared.history.Act.TheVariants as act
use Rattle.office_core.specs.declared.history.Entry.{Entry}
use Rattle.office_core.specs.declared.outgoing.Outgoing.{Outgoing}
use Rattle.office_core.specs.declared.post.Birth.{Birth}
use Rattle.office_core.specs.declared.post.Mail.{Mail}
use Rattle.office_core.specs.declared.post.Posted.{Posted}
use Rattle.office_core.specs.declared.post.PostReply.{PostReply}
use Rattle.office_core.specs.Limits.{Setting}
use Rattle.office_core.specs.Past.{Past}
use Rattle.office_core.specs.Legal.{replied}

-- a call by an actor
abbrev pub entry : ℕ → Act → Entry
entry actor act = record { actor = actor; act = act }

-- the adoption of a session, where it gave a birth
abbrev pub adopt_entry : ℕ → Option Birth → Option Entry
adopt_entry s birth = option_map (λ (b : Birth). entry s (act.Adopt b.service)) birth

-- the take of a message, where one was taken
abbrev pub take_entry : ℕ → Option Mail → Option Entry
take_entry s mail = option_map (λ (m : Mail). entry s (act.Take m.message)) mail

-- the take of the answer of a call, where there was one
abbrev pub answer_entry : ℕ → ℕ → Option Outcome → Option Entry
answer_entry s k answer = option_map (λ o. entry s (act.Answer k o)) answer

-- the collection of an answer, where there was one
abbrev pub collect_entry : ℕ → ℕ → Option Outcome → Option Entry
collect_entry actor n answer = option_map (λ o. entry actor (act.Collect n o)) answer

-- the fetch of a call, where one waited
abbrev pub fetch_entry : ℕ → Option Outgoing → Option Entry
fetch_entry actor out = option_map (λ (c : Outgoing). entry actor (act.Fetch c.session c.call)) out

-- the post of a message that comes in at a port
abbrev pub post_entry : ℕ → Origin → Posted → PostReply → Option Entry
post_entry actor (origin.Port j i) q r = Some (entry actor (act.Post j i q r))
post_entry actor (origin.Session s k) q r = None

-- a call by an actor with the reply that the office gives, where it gives one; the reply that it has does not matter
abbrev pub replied_entry : Setting → Past → ℕ → Act → Option Entry
replied_entry w past actor act = option_map (entry actor) (replied w past actor act)
