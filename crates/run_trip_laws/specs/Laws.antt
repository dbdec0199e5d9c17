-- What holds of every legal history, where its calls go out one after the other.
use Rattle.std.specs.Prelude.{◌≡◌, ℕ, true, List, [], ◌∷◌, ◌++◌, Option, Some}
use Rattle.outside_links.specs.Trips.{LinkTold}
use Rattle.jolie_trees.specs.Trees.{root_of, void_tree}
use Rattle.behaviour_tree.specs.declared.words.Outcome.{Outcome}
use Rattle.behaviour_tree.specs.declared.words.Outcome.TheVariants as outcome
use Rattle.office_core.specs.declared.history.Entry.{Entry}
use Rattle.office_core.specs.declared.outgoing.Outgoing.{Outgoing}
use Rattle.office_core.specs.declared.outgoing.OutKind.{OutKind}
use Rattle.office_core.specs.declared.outgoing.OutKind.TheVariants as kind
use Rattle.office_core.specs.Limits.{Setting, first_worker}
use Rattle.office_core.specs.Accepted.{past_of}
use Rattle.office_core.specs.Calls.{same_kind}
use Rattle.office_core.specs.Legal.{IsLegal}
use Rattle.office_plain.specs.Replies.{next_outgoing}
use Rattle.outside_traits.specs.Told.{Lists}
use Rattle.outside_links.specs.Trips.{Made}
use Rattle.jsonrpc_calls.specs.Console.{console_line}
use Rattle.run_theorem.specs.Trips.{HasCounted, Travelled, AreVoid}
use Rattle.run_trip_laws.specs.Going.{went_out, AreSettled, NotedSoFar, IsHeard, Completed}

-- Once a call that was next has its outcome, the calls that were fetched have theirs again.
abbrev pub SettlesAgain : Type 0
SettlesAgain =
    (w : Setting) (h : List Entry) (actor : ℕ) (k : OutKind) (out : Outgoing) (o : Outcome)
    → IsLegal w h → next_outgoing w (past_of w h) k ≡ Some out
    → (same_kind kind.Console k ≡ true → o ≡ outcome.Value void_tree)
    → AreSettled w h → AreSettled w (went_out h actor out o)

-- A call to the console is noted by its line.
abbrev pub NotesLine : Type 0
NotesLine =
    (w : Setting) (h : List Entry) (actor : ℕ) (out : Outgoing) (o : Outcome) (noted : List ℕ)
    → IsLegal w h → next_outgoing w (past_of w h) kind.Console ≡ Some out → NotedSoFar w h noted
    → NotedSoFar w (went_out h actor out o) (noted ++ console_line (root_of out.value))

-- A call to a service elsewhere is one trip more.
abbrev pub MakesTrip : Type 0
MakesTrip =
    (w : Setting) (before now later : LinkTold) (h : List Entry) (out : Outgoing) (o : Outcome) (m : Made)
    → IsLegal w (went_out h first_worker out o) → AreSettled w h
    → next_outgoing w (past_of w h) kind.Remote ≡ Some out → IsHeard w.parts out m o
    → Lists now.trips later.trips (m ∷ []) → HasCounted now.faults later.faults (m ∷ [])
    → Completed w h before now → Completed w (went_out h first_worker out o) before later

-- So the trips that were made are those that the calls ask for.
abbrev pub TravelsSo : Type 0
TravelsSo =
    (w : Setting) (h : List Entry) (before now : LinkTold) → Completed w h before now → Travelled w h before now

-- And the calls to the console came to void.
abbrev pub ComesToVoid : Type 0
ComesToVoid = (w : Setting) (h : List Entry) → IsLegal w h → AreSettled w h → AreVoid w (past_of w h)
