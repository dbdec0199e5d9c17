-- A session at its desk: the run of which it is the one session, and what holds of it between two calls.
use Rattle.std.specs.Prelude.{ℕ, List, [], ◌∷◌}
use Rattle.run_cells.specs.RunStates.{AtWork, RunState, Stand, State, run_state_by, stand_by, state_of, with_told}
use Rattle.test_seats.specs.declared.seat.Seat.{Seat}
use Rattle.term_session.specs.Sessions.{config_of, service_of}

-- where the session stands
abbrev pub stand_in : Seat → Stand
stand_in s = stand_by (service_of s.session.session) (config_of s.session.session) s.events

-- the run with these picks left
abbrev pub run_state_in : Seat → List ℕ → RunState
run_state_in s picks =
    with_told (record { awake = 0 ∷ []; senders = [] }) 0
    (run_state_by s.program.now s.office s.budget (stand_in s ∷ []) picks)

-- the state of the run between two calls
abbrev pub state_in : Seat → State
state_in s = state_of (run_state_in s [])

-- the same before a turn with a pick
abbrev pub state_with : Seat → ℕ → State
state_with s pick = state_of (run_state_in s (pick ∷ []))

-- the session is where its events led it, and may call its office
abbrev pub IsSeated : Seat → Type 0
IsSeated s = AtWork (run_state_in s [])
