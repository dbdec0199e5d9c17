-- Which entries bring a session something: a message, or the outcome of a call of it.
use Rattle.std.specs.Prelude.{◌≡◌, ℕ, Bool, true, false, ◌&&◌, List, nat_eq, None, Some, slice_get}
use Rattle.std.specs.List.{list_any}
use Rattle.reqresp_book.specs.declared.origin.Origin.TheVariants as origin
use Rattle.office_core.specs.declared.history.Act.TheVariants as act
use Rattle.office_core.specs.declared.history.Entry.{Entry}
use Rattle.office_core.specs.declared.message.Message.{Message}
use Rattle.office_core.specs.Limits.{Setting}
use Rattle.office_core.specs.Past.{Past}
use Rattle.office_core.specs.Accepted.{accepted_in}

-- session s sent the message
abbrev pub is_sent_by : ℕ → Message → Bool
is_sent_by s m = elim m.origin [ origin.Port j i ↦ false | origin.Session t k ↦ nat_eq s t ]

-- session s sent a message to session t
abbrev pub sent_one : List Message → ℕ → ℕ → Bool
sent_one ms s t = list_any (λ m. nat_eq t m.session && is_sent_by s m) ms

-- an entry may give a call of session s its outcome: it answers a message that s sent, brings an outcome for s, ends a
-- session to which s sent a message, or stops the run
abbrev pub may_answer : List Message → ℕ → Entry → Bool
may_answer ms s e = elim e.act [
  | act.Reply n o ↦ elim (slice_get ms n) [ None ↦ false | Some m ↦ is_sent_by s m ]
  | act.Answered t k o ↦ nat_eq s t
  | act.End ↦ sent_one ms s e.actor
  | act.Stop ↦ true
  | _ ↦ false
]

-- An entry of another, after what happened, brings session s nothing: no message goes to it, and no call of it is
-- answered.
pub record BringsNothing (w : Setting) (past : Past) (s : ℕ) (e : Entry) : Type 0 where
  pub other : nat_eq s e.actor ≡ false
  pub mail : (m : Message) → accepted_in w past e ≡ Some m → nat_eq s m.session ≡ false
  pub answer : may_answer past.messages s e ≡ false
