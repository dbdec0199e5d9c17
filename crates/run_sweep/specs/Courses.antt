-- These definitions serve the proofs of runs: no promise of the program speaks of them.
-- How a run of one worker goes on: rounds of turns, adoptions, and entries of the worker.
use Rattle.std.specs.Prelude.{◌≡◌, Bool, true, List, [], nat_eq}
use Rattle.std.specs.List.{list_all}
use Rattle.office_core.specs.declared.history.Entry.{Entry}
use Rattle.office_core.specs.Limits.{first_worker}
use Rattle.run_record.specs.Quiet.{outstanding}
use Rattle.run_cells.specs.RunStates.{State, Stays, Team, past_in}
use Rattle.run_cells.specs.Turns.{IsAdoption, RoundFrom}

-- an entry of the one worker
abbrev pub is_by_worker : Entry → Bool
is_by_worker e = nat_eq first_worker e.actor

-- How a run goes on: once each call that went out has its outcome, the sessions have a round of turns, each turn with
-- the next pick; or one that was born is adopted, or the worker makes entries of its own, which leave the picks.
pub data Goes (old : State) : State → Type 0 where
  stays : Goes old old
  round : (mid new : State) (moved : Bool) → Goes old mid → Team mid → outstanding (past_in mid) ≡ []
      → RoundFrom 0 mid new moved
      → Goes old new
  adopts : (mid new : State) → Goes old mid → IsAdoption mid new → Goes old new
  works : (mid new : State) (more : List Entry) → Goes old mid → Stays mid new more
      → list_all is_by_worker more ≡ true
      → Goes old new
