-- What is read from what the office keeps of sessions and calls, and what a call makes of it.
use Rattle.std.specs.Prelude.{◌≡◌, ℕ, ◌&&◌, if◌then◌else◌, List, [], ◌∷◌, ◌++◌, Option, None, Some, option_map}
use Rattle.std.specs.Prelude.{option_and_then, slice_get, slice_set}
use Rattle.behaviour_tree.specs.declared.words.Outcome.{Outcome}
use Rattle.behaviour_tree.specs.declared.words.Outcome.TheVariants as outcome
use Rattle.reqresp_book.specs.Standing.{outcome_at}
use Rattle.reqresp_book.specs.View.{standing_of}
use Rattle.office_core.specs.declared.history.Placed.{Placed}
use Rattle.office_core.specs.declared.history.Placed.TheVariants as at
use Rattle.office_core.specs.declared.outgoing.Outgoing.{Outgoing}
use Rattle.office_core.specs.declared.outgoing.OutKind.{OutKind}
use Rattle.office_core.specs.declared.outgoing.OutKind.TheVariants as kind
use Rattle.office_core.specs.Calls.{goes_out, same_kind}
use Rattle.office_core.specs.declared.message.Call.{Call}
use Rattle.office_plain.specs.declared.kept.SessionRow.{SessionRow}
use Rattle.office_plain.specs.declared.kept.Kept.{Kept}
use Rattle.office_plain.specs.Replies.{going}

-- a session that was not adopted
abbrev pub unadopted_in : Option SessionRow → Option SessionRow
unadopted_in None = None
unadopted_in (Some row) = if row.adopted then None else Some row

-- the place among all calls of call k of session s
abbrev pub place_of : Kept → ℕ → ℕ → Option ℕ
place_of kept s k = option_and_then (λ ps. slice_get ps k) (slice_get kept.places.items s)

-- the calls of a kind that go out, by their places
abbrev pub queue_of : Kept → OutKind → List ℕ
queue_of kept kind.Console = kept.console
queue_of kept kind.Remote = kept.remote

-- the call of a place as it goes out, with the service of its session
abbrev pub going_from : Kept → ℕ → Option Outgoing
going_from kept p =
    option_and_then
    (λ (c : Call). option_map (λ (row : SessionRow). going c row.service) (slice_get kept.sessions c.session))
    (slice_get kept.calls p)

-- what was brought for the call of a place
abbrev pub brought_at : List (Option Outcome) → ℕ → Option Outcome
brought_at os p = option_and_then (λ o. o) (slice_get os p)

-- the outcome of the call of a place by where it went
abbrev pub outcome_placed : Kept → ℕ → Placed → Option Outcome
outcome_placed kept p at.Out = brought_at kept.outcomes p
outcome_placed kept p (at.Refused why) = Some (outcome.Refused why)
outcome_placed kept p (at.At n) = outcome_at (standing_of kept.book n)

-- the outcome of the call of a place
abbrev pub outcome_in : Kept → ℕ → Option Outcome
outcome_in kept p = option_and_then (λ (c : Call). outcome_placed kept p c.placed) (slice_get kept.calls p)

-- the outcome of call k of session s
abbrev pub outcome_of : Kept → ℕ → ℕ → Option Outcome
outcome_of kept s k = option_and_then (outcome_in kept) (place_of kept s k)

-- the message that a call became by where it went
abbrev pub message_placed : Placed → Option ℕ
message_placed at.Out = None
message_placed (at.Refused why) = None
message_placed (at.At n) = Some n

-- the message that call k of session s became, where it went to a service of the program
abbrev pub message_of : Kept → ℕ → ℕ → Option ℕ
message_of kept s k =
    option_and_then
    (λ p. option_and_then (λ (c : Call). message_placed c.placed) (slice_get kept.calls p))
    (place_of kept s k)

-- the places of the calls of sessions, with one more of a session
abbrev pub with_place : ℕ → ℕ → List (List ℕ) → List (List ℕ)
with_place s p places = elim (slice_get places s) [ None ↦ places | Some ps ↦ slice_set places s (ps ++ p ∷ []) ]

-- what a call of a kind adds to a queue: its place, where it goes out and the queue is of the kind
abbrev pub queued : OutKind → Call → OutKind → ℕ → List ℕ
queued queue c kind p = if goes_out c && same_kind queue kind then p ∷ [] else []

-- messages, sessions, boxes, answers and correlation stay
pub record KeepsMail (old new : Kept) : Type 0 where
  pub messages : new.messages ≡ old.messages
  pub weight : new.weight ≡ old.weight
  pub sessions : new.sessions ≡ old.sessions
  pub boxes : new.boxes ≡ old.boxes
  pub book : new.book ≡ old.book
  pub rows : new.rows ≡ old.rows
