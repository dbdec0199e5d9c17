-- What an accepted message makes of what happened, before the entry of its call is added, and of what is kept.
use Rattle.std.specs.Prelude.{◌≡◌, ℕ, suc, ◌+◌, ◌++◌, ◌&&◌, Bool, true, false, not, nat_lt, List, [], ◌∷◌, length, map}
use Rattle.std.specs.Prelude.{is_some, if◌then◌else◌, Option, None, Some, option_map, Result, Ok, Err}
use Rattle.std.specs.List.{filter_map}
use Rattle.jolie_trees.specs.Limits.{in_u64}
use Rattle.jolie_trees.specs.Trees.{void_tree}
use Rattle.jolie_trees.specs.declared.root.Root.{Root}
use Rattle.jolie_trees.specs.Data.{Tree}
use Rattle.behaviour_tree.specs.Data.{OperationPart, ProgramParts, ServicePart, TypeTree}
use Rattle.behaviour_tree.specs.FormedSets.{is_concurrent}
use Rattle.behaviour_tree.specs.declared.words.Outcome.TheVariants as outcome
use Rattle.behaviour_tree.specs.declared.words.Reason.{Reason}
use Rattle.correlation.specs.declared.bind_reply.BindReply.TheVariants as reply
use Rattle.correlation.specs.declared.session.Session.{Session}
use Rattle.correlation.specs.declared.session.Written.{Written}
use Rattle.correlation.specs.Sessions.{changed, newborn, reply_to, write}
use Rattle.correlation.specs.View.{sessions_of}
use Rattle.post_box.specs.Oldest.{waiting}
use Rattle.post_box.specs.View.{box_of, ChangesOnly}
use Rattle.reqresp_book.specs.declared.place.Standing.{Standing}
use Rattle.reqresp_book.specs.declared.place.Standing.TheVariants.{Open, Answered}
use Rattle.reqresp_book.specs.View.{origin_of, ComesFrom, Stands}
use Rattle.office_core.specs.declared.history.Placed.{Placed}
use Rattle.office_core.specs.declared.history.Placed.TheVariants as at
use Rattle.office_core.specs.declared.message.Message.{Message}
use Rattle.office_core.specs.Keys.{Variable, value_of}
use Rattle.office_core.specs.Past.{Past}
use Rattle.office_core.specs.Accepted.{with_message}
use Rattle.office_core.specs.Weights.{weight}
use Rattle.office_plain.specs.SetNumbers.{numbered_sets}
use Rattle.office_plain.specs.declared.kept.Kept.{Kept}
use Rattle.office_plain.specs.declared.kept.SessionRow.{SessionRow}
use Rattle.office_plain.specs.Kept.{variables_of}

-- what happened, with a message more, where there is one, and no entry
abbrev pub with_accepted : Past → Option Message → Past
with_accepted past m = record { entries = past.entries; messages = with_message past.messages m }

-- the number of a message, or why it was refused, as the entry of a send has it
abbrev pub placed_as : Result ℕ Reason → Placed
placed_as (Ok n) = at.At n
placed_as (Err why) = at.Refused why

-- ---- sessions that are born

-- what is kept of a session that is born
abbrev pub newborn_row : ℕ → SessionRow
newborn_row d = record { service = d; adopted = false; ended = false }

-- the places of the calls of a session that is born
abbrev pub no_calls : ℕ → List ℕ
no_calls d = []

-- what correlation has of sessions of these services that are born, the first of which has the number s
abbrev pub newborns_from : ProgramParts → ℕ → List ℕ → List Session
newborns_from parts s [] = []
newborns_from parts s (d ∷ ds) = newborn s (numbered_sets parts d) ∷ newborns_from parts (suc s) ds

-- nothing is kept
pub record IsEmpty (k : Kept) : Type 0 where
  pub messages : k.messages ≡ []
  pub weight : k.weight ≡ 0
  pub sessions : k.sessions ≡ []
  pub places : k.places.items ≡ []
  pub boxes : (s : ℕ) → box_of k.boxes s ≡ []
  pub origins : (n : ℕ) → origin_of k.book n ≡ None
  pub rows : sessions_of k.rows ≡ []
  pub calls : k.calls ≡ []
  pub outcomes : k.outcomes ≡ []
  pub console : k.console ≡ []
  pub remote : k.remote ≡ []

-- whether a service has a session from the start, where so many sessions are there
abbrev pub has_session : ServicePart → ℕ → Bool
has_session d n = not (is_concurrent d.execution) && nat_lt n 4096

-- the session of a number is born, of service d
pub record Opens (parts : ProgramParts) (s d : ℕ) (old new : Kept) : Type 0 where
  pub sessions : new.sessions ≡ old.sessions ++ newborn_row d ∷ []
  pub places : new.places.items ≡ old.places.items ++ [] ∷ []
  pub rows : sessions_of new.rows ≡ sessions_of old.rows ++ newborn s (numbered_sets parts d) ∷ []
  pub others : new ≡ record old { sessions = new.sessions; places = new.places; rows = new.rows }

-- the sessions of these services are born, the first ones
pub record OpensFirst (parts : ProgramParts) (ds : List ℕ) (old new : Kept) : Type 0 where
  pub sessions : new.sessions ≡ map newborn_row ds
  pub places : new.places.items ≡ map no_calls ds
  pub rows : sessions_of new.rows ≡ newborns_from parts 0 ds
  pub others : new ≡ record old { sessions = new.sessions; places = new.places; rows = new.rows }

-- ---- what a message brings

-- a value, where there is one, as it is written into the variable of a number
abbrev pub written_into : ℕ → Option Root → Option Written
written_into n o = option_map (λ x. record { variable = n; value = x }) o

-- what a tree of a type writes into a variable
abbrev pub written_by : TypeTree → Tree → Variable → Option Written
written_by ty t v = written_into v.number (value_of ty t v)

-- what a message of an operation brings of the variables of its service, in order
abbrev pub brought : ProgramParts → OperationPart → Message → List Written
brought parts o m = filter_map (written_by o.request m.value) (variables_of parts m.service)

-- a session with some more written
abbrev pub write_all : List Written → Session → Session
write_all ws s = record { number = s.number; sets = s.sets; written = s.written ++ ws; released = s.released }

-- the session that a message starts, once some values were written
abbrev pub started_with : ProgramParts → Message → List Written → Session
started_with parts m us =
    record { number = m.session; sets = numbered_sets parts m.service; written = us; released = false }

-- the session that a message of an operation starts, with what it brings
abbrev pub started : ProgramParts → OperationPart → Message → Session
started parts o m = started_with parts m (brought parts o m)

-- values can be written into variables of session s one after the other: each is answered Bound
abbrev pub CanWrite : ℕ → List Session → List Written → Type 0
CanWrite s rows [] = Unit {0}
CanWrite s rows (x ∷ xs) =
    (reply_to rows s x.variable x.value ≡ Some reply.Bound)
    × CanWrite s (changed s (write x.variable x.value) rows) xs

-- what a message of an operation brings can be written into the session that it starts, where it starts one
abbrev pub CanStart : ProgramParts → OperationPart → Message → List Session → Type 0
CanStart parts o m rows =
    m.starts ≡ true → CanWrite m.session (rows ++ started_with parts m [] ∷ []) (brought parts o m)

-- a list with one more where a message starts a session
abbrev pub if_starts : {A : Type 0} → Message → A → List A → List A
if_starts m x xs = if m.starts then xs ++ x ∷ [] else xs

-- the session that a message of an operation starts is born, where it starts one
pub record Starts (parts : ProgramParts) (o : OperationPart) (m : Message) (old new : Kept) : Type 0 where
  pub sessions : new.sessions ≡ if_starts m (newborn_row m.service) old.sessions
  pub places : new.places.items ≡ if_starts m [] old.places.items
  pub rows : sessions_of new.rows ≡ if_starts m (started parts o m) (sessions_of old.rows)
  pub others : new ≡ record old { sessions = new.sessions; places = new.places; rows = new.rows }

-- how it stands with a message of an operation from the start: it is open, or asks for no answer
abbrev pub standing_first : Bool → Standing
standing_first request = if request then Open else Answered (outcome.Value void_tree)

-- a message of an operation was accepted: it is among the messages under the next number, it is noted and waits in the
-- box of its session, which is there too where the message starts it; calls and what goes out stay
pub record Accepts (parts : ProgramParts) (o : OperationPart) (m : Message) (old new : Kept) : Type 0 where
  pub messages : new.messages ≡ old.messages ++ m ∷ []
  pub weight : new.weight ≡ in_u64 (old.weight + in_u64 (weight m.value))
  pub sessions : new.sessions ≡ if_starts m (newborn_row m.service) old.sessions
  pub places : new.places.items ≡ if_starts m [] old.places.items
  pub boxes : ChangesOnly m.session
      (box_of old.boxes m.session ++ waiting m.op (length old.messages) ∷ []) old.boxes new.boxes
  pub origins : ComesFrom (length old.messages) m.origin old.book new.book
  pub standings : Stands (length old.messages) (Some (standing_first (is_some o.response))) old.book new.book
  pub rows : sessions_of new.rows ≡ if_starts m (started parts o m) (sessions_of old.rows)
  pub calls : new.calls ≡ old.calls
  pub outcomes : new.outcomes ≡ old.outcomes
  pub console : new.console ≡ old.console
  pub remote : new.remote ≡ old.remote
