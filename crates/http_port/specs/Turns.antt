-- These definitions serve the proofs alone: no promise of a public call speaks of them.
-- What serving does turn by turn.
use Rattle.std.specs.Prelude.{◌≡◌, ℕ, ◌<◌, ◌⊎◌, Bool, true, false, if◌then◌else◌, None, Some, List, [], ◌∷◌}
use Rattle.std.specs.Prelude.{length, take}
use Rattle.http_port.specs.Responses.{interim, response}
use Rattle.http_port.specs.Talk.{answer}
use Rattle.http_port.specs.Serving.{cut_behind}
use Rattle.http_port.specs.declared.head_reader.Fed.{Fed}
use Rattle.http_port.specs.declared.head_reader.Fed.TheVariants.{NotYet, Interim, Request, Refused}
use Rattle.http_port.specs.declared.serve.Said.{Said}
use Rattle.http_port.specs.declared.serve.Said.TheVariants as Says
use Rattle.http_port.specs.declared.serving.WireEnd.TheVariants as Ends
use Rattle.http_port.specs.declared.turn.Turn.{Turn}
use Rattle.http_port.specs.declared.turn.Turn.TheVariants as Turns

-- how a turn goes on behind an answer
abbrev pub turn_behind : Bool → Turn
turn_behind close = if close then Turns.Ends Ends.Closed else Turns.GoesOn

-- the text was written, and the turn is this; or the wire failed behind a front of it that is not all of it
abbrev pub Writes : List ℕ → Turn → List ℕ → Turn → Type 0
Writes text next went turn =
    ((went ≡ text) × (turn ≡ next))
    ⊎ ((count : ℕ) × (count < length text) × (went ≡ take count text) × (turn ≡ Turns.Ends Ends.WriteFailed))

-- what comes of what was said to a request
abbrev pub Answers : Said → Bool → List ℕ → Turn → Type 0
Answers (Says.Text text) close went turn = Writes (answer (Some text) close) (turn_behind close) went turn
Answers Says.Nothing close went turn = Writes (answer None close) (turn_behind close) went turn
Answers Says.Later close went turn = (went ≡ []) × (turn ≡ Turns.Ends (Ends.Later close))

-- what comes of what a reader gave, where this is said
abbrev pub Reacts : Fed → List Said → List ℕ → Turn → Type 0
Reacts NotYet said went turn = (said ≡ []) × (went ≡ []) × (turn ≡ Turns.Waits)
Reacts Interim said went turn = (said ≡ []) × Writes interim Turns.GoesOn went turn
Reacts (Request body close) said went turn = (first : Said) × (said ≡ first ∷ []) × Answers first close went turn
Reacts (Refused status) said went turn =
    (said ≡ []) × Writes (response status [] true) (Turns.Ends Ends.Closed) went turn

-- whether a write of a wire has failed behind a turn, before it was closed, by whether it is closed and one had before
abbrev pub cut_by : Turn → Bool → Bool → Bool
cut_by Turns.GoesOn closed before = before
cut_by Turns.Waits closed before = before
cut_by (Turns.Ends end) closed before = cut_behind end closed before

-- whether serving goes on behind a turn
abbrev pub goes : Turn → Bool
goes Turns.GoesOn = true
goes Turns.Waits = true
goes (Turns.Ends end) = false
