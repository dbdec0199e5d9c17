-- What a session sees at a desk of the office, and what its looks and calls find there.
use Rattle.std.specs.Prelude.{◌≡◌, ℕ, Bool, true, false, List, [], ◌∷◌, ◌++◌, nat_eq, None, Some, slice_get}
use Rattle.office_core.specs.declared.history.Act.{Act}
use Rattle.office_core.specs.declared.history.Act.TheVariants as act
use Rattle.office_core.specs.declared.history.Entry.{Entry}
use Rattle.office_core.specs.declared.post.Mail.{Mail}
use Rattle.office_core.specs.Limits.{Setting}
use Rattle.office_core.specs.declared.message.Message.{Message}
use Rattle.office_core.specs.Past.{Past}
use Rattle.office_core.specs.Boxes.{queue}
use Rattle.office_core.specs.Keys.{first}
use Rattle.office_core.specs.Accepted.{past_of}
use Rattle.office_core.specs.Calls.{result}
use Rattle.office_core.specs.Legal.{replied}

-- an office, as it is called at a desk: what it works by, and whether nobody calls it elsewhere
pub record Office : Type 0 where
  pub setting : Setting
  pub alone : Bool

-- a session at a desk of an office
pub record Seat : Type 0 where
  pub setting : Setting
  pub alone : Bool
  pub session : ℕ

-- a seat by its office and the number of the session
abbrev pub seat : Office → ℕ → Seat
seat o s = record { setting = o.setting; alone = o.alone; session = s }

-- what happened in a history
abbrev pub past_at : Seat → List Entry → Past
past_at a h = past_of a.setting h

-- a call of the session
abbrev pub by_session : Seat → Act → Entry
by_session a call = record { actor = a.session; act = call }

-- the entries are of others than the session
abbrev pub AreForeign : ℕ → List Entry → Type 0
AreForeign s [] = Unit {0}
AreForeign s (e ∷ es) = (nat_eq s e.actor ≡ false) × AreForeign s es

-- What was seen grew by entries of others; by none where nobody calls the office elsewhere.
pub record Grew (a : Seat) (old new : List Entry) : Type 0 where
  pub others : List Entry
  pub foreign : AreForeign a.session others
  pub quiet : a.alone ≡ true → others ≡ []
  pub is : new ≡ old ++ others

-- The session made this call, after entries of others: the reply is what the office gives on all before it.
pub record Called (a : Seat) (old new : List Entry) (call : Act) : Type 0 where
  pub before : List Entry
  pub grew : Grew a old before
  pub reply : replied a.setting (past_at a before) a.session call ≡ Some call
  pub is : new ≡ before ++ by_session a call ∷ []

-- No message of these operations waits for the session in what it has seen now.
pub record FoundNone (a : Seat) (ops : List ℕ) (old new : List Entry) : Type 0 where
  pub grew : Grew a old new
  pub empty : queue (past_at a new) a.session ops ≡ []

-- The session took a message, the first of these operations that waited.
pub record Took (a : Seat) (ops : List ℕ) (old new : List Entry) (mail : Mail) : Type 0 where
  pub called : Called a old new (act.Take mail.message)
  pub first : Some mail.message ≡ first (queue (past_at a called.before) a.session ops)
  pub message : Message
  pub is : slice_get (past_at a called.before).messages mail.message ≡ Some message
  pub op : mail.op ≡ message.op
  pub value : mail.value ≡ message.value

-- The session's call of this number has no outcome in what the session has seen now.
pub record HasNone (a : Seat) (call : ℕ) (old new : List Entry) : Type 0 where
  pub grew : Grew a old new
  pub none : result a.setting (past_at a new) a.session call ≡ None
