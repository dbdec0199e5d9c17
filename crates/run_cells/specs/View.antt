-- What clauses see of the sessions of a run: their run state, and the state of the run.
use Rattle.std.specs.Prelude.{map}
use Rattle.session_turn.specs.declared.session.Session.{Ghosts}
use Rattle.run_cells.specs.declared.cells.Cell.{Cell}
use Rattle.run_cells.specs.declared.cells.Cells.{Cells}
use Rattle.run_cells.specs.declared.news.News.{News}
use Rattle.run_cells.specs.News.{Told}
use Rattle.run_cells.specs.RunStates.{RunState, Stand, State, stand_by, state_of}

-- where the session of a cell stands, by what its type tells of it
abbrev pub stand_in : {S : Type 0} → Ghosts S → Cell S → Stand
stand_in told d = stand_by (told.service_of d.session) (told.config_of d.session) d.events

-- what was told
abbrev pub told_in : News → Told
told_in n = record { awake = n.awake; senders = n.senders.items }

-- the run state of cells, by what the type of their sessions tells
abbrev pub run_state : {S : Type 0} → Ghosts S → Cells S → RunState
run_state told c = record {
  program = c.program;
  office = c.office;
  budget = c.budget;
  stands = map (stand_in told) c.cells.items;
  picks = c.picks.now;
  told = told_in c.news;
  heard = c.news.heard;
}

-- the state of the run of cells
abbrev pub state : {S : Type 0} → Ghosts S → Cells S → State
state told c = state_of (run_state told c)
