-- What a look at an entry of the history makes of who is awake, and of who sent messages to whom.
use Rattle.std.specs.Prelude.{◌≡◌, ◌⊎◌, ℕ, ◌<◌, Bool, true, false, List, [], nat_eq, None, Some, slice_get, unwrap_or}
use Rattle.std.specs.List.{list_any}
use Rattle.office_core.specs.declared.history.Act.TheVariants as act
use Rattle.office_core.specs.declared.history.Entry.{Entry}
use Rattle.office_core.specs.declared.message.Message.{Message}
use Rattle.office_core.specs.Laws.{number_said}
use Rattle.office_core.specs.Past.{Past}
use Rattle.run_quiet_laws.specs.Brings.{is_sent_by}
use Rattle.run_cells.specs.Awake.{IsOn}

-- who is awake, and the sessions that sent messages to each session
pub record Told : Type 0 where
  pub awake : List ℕ
  pub senders : List (List ℕ)

-- nobody is awake, and no message came
abbrev pub told_nothing : Told
told_nothing = record { awake = []; senders = [] }

-- session s is among those that sent a message to session t
abbrev pub is_sender : List (List ℕ) → ℕ → ℕ → Bool
is_sender senders t s = list_any (nat_eq s) (unwrap_or (slice_get senders t) [])

-- each session that sent a message is noted
abbrev pub KnowSenders : Past → List (List ℕ) → Type 0
KnowSenders past senders =
    (n s : ℕ) (m : Message) → slice_get past.messages n ≡ Some m → is_sent_by s m ≡ true
    → is_sender senders m.session s ≡ true

-- Who was awake is, and others that are are of the first so many sessions.
pub record Widens (count : ℕ) (old new : List ℕ) : Type 0 where
  pub stay : (n : ℕ) → IsOn old n → IsOn new n
  pub below : (n : ℕ) → IsOn new n → IsOn old n ⊎ (n < count)

-- who was noted is
abbrev pub Keeps : List (List ℕ) → List (List ℕ) → Type 0
Keeps old new = (t s : ℕ) → is_sender old t s ≡ true → is_sender new t s ≡ true

-- session s is awake, if it is of the first so many
abbrev pub IsWoken : ℕ → List ℕ → ℕ → Type 0
IsWoken count awake s = s < count → IsOn awake s

-- A message came: its session is awake, and who sent it is noted.
pub record IsReceived (count : ℕ) (m : Message) (told : Told) : Type 0 where
  pub woken : IsWoken count told.awake m.session
  pub noted : (s : ℕ) → is_sent_by s m ≡ true → is_sender told.senders m.session s ≡ true

-- an entry may answer a call of session s, by the messages and by those who are noted
abbrev pub may_reach : List Message → List (List ℕ) → ℕ → Entry → Bool
may_reach ms senders s e = elim e.act [
  | act.Reply n o ↦ elim (slice_get ms n) [ None ↦ false | Some m ↦ is_sent_by s m ]
  | act.Answered t k o ↦ nat_eq s t
  | act.End ↦ is_sender senders e.actor s
  | _ ↦ false
]

-- An entry was looked at: who may have something of it is awake.
pub record IsHeard (ms : List Message) (count : ℕ) (e : Entry) (old new : Told) : Type 0 where
  pub awake : Widens count old.awake new.awake
  pub senders : Keeps old.senders new.senders
  pub mail : (n : ℕ) (m : Message) → number_said e.act ≡ Some n → slice_get ms n ≡ Some m → IsReceived count m new
  pub answer : (s : ℕ) → may_reach ms old.senders s e ≡ true → IsWoken count new.awake s
