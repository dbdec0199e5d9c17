-- What the end of a session makes of its row and of what waited for it, and the stop of what is open.
use Rattle.std.specs.Prelude.{ℕ, Bool, true, List, nat_eq, nat_lt, if◌then◌else◌, Option, None, Some, option_map}
use Rattle.std.specs.Prelude.{slice_get, slice_set}
use Rattle.std.specs.List.{list_any}
use Rattle.behaviour_tree.specs.declared.words.Outcome.{Outcome}
use Rattle.behaviour_tree.specs.declared.words.Outcome.TheVariants as outcome
use Rattle.behaviour_tree.specs.declared.words.Reason.TheVariants as reason
use Rattle.post_box.specs.declared.mailbox.Waiting.{Waiting}
use Rattle.reqresp_book.specs.declared.place.Standing.{Standing}
use Rattle.reqresp_book.specs.declared.place.Standing.TheVariants.{Open, Answered, Collected}
use Rattle.office_plain.specs.declared.kept.SessionRow.{SessionRow}

-- ---- sessions

-- a session once it ended
abbrev pub ended_row : SessionRow → SessionRow
ended_row row = record { service = row.service; adopted = row.adopted; ended = true }

-- sessions once one of them ended
abbrev pub ended_in : List SessionRow → ℕ → List SessionRow
ended_in rows s = elim (slice_get rows s) [ None ↦ rows | Some row ↦ slice_set rows s (ended_row row) ]

-- ---- messages

-- an open message has this answer, and any other stays
abbrev pub answered_with : Outcome → Standing → Standing
answered_with o Open = Answered o
answered_with o (Answered p) = Answered p
answered_with o Collected = Collected

-- how it stands with message j once message n was answered, if it was open
abbrev pub answered_at : ℕ → Outcome → ℕ → Option Standing → Option Standing
answered_at n o j s = if nat_eq j n then option_map (answered_with o) s else s

-- whether message n is among those that wait
abbrev pub is_waiting_in : ℕ → List Waiting → Bool
is_waiting_in n box = list_any (λ (w : Waiting). nat_eq n w.message) box

-- how it stands with message n once a session ended whose box this was
abbrev pub ended_at : ℕ → List Waiting → Option Standing → Option Standing
ended_at n box s =
    if is_waiting_in n box then option_map (answered_with (outcome.Refused reason.SessionEnded)) s else s

-- how it stands with message n once each open message below a number was answered by the stop
abbrev pub stopped_at : ℕ → ℕ → Option Standing → Option Standing
stopped_at below n s = if nat_lt n below then option_map (answered_with (outcome.Refused reason.Stopped)) s else s
