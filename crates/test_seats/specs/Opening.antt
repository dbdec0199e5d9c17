-- The run before its one session is adopted.
use Rattle.std.specs.Prelude.{ℕ, List, [], Option, None, Some}
use Rattle.behaviour_tree.specs.declared.program.Program.{Program}
use Rattle.behaviour_tree.specs.PartsView.{parts_of}
use Rattle.reqresp_book.specs.declared.origin.Origin.TheVariants as origin
use Rattle.office_core.specs.declared.history.Entry.{Entry}
use Rattle.office_core.specs.declared.post.Posted.{Posted}
use Rattle.office_core.specs.Accepted.{past_of}
use Rattle.office_core.specs.Limits.{Setting, first_worker, run_of}
use Rattle.office_core.specs.Route.{post_reply, route}
use Rattle.office_plain.specs.Entries.{post_entry}
use Rattle.office_plain.specs.declared.office.Office.{Office}
use Rattle.run_cells.specs.RunStates.{AtWork, RunState, State, run_state_by, list_of}

-- the post of a message before all others, with its reply
abbrev pub first_entries : Setting → Option Posted → List Entry
first_entries w None = []
first_entries w (Some q) =
    list_of (post_entry first_worker (origin.Port 0 0) q (post_reply (past_of w []) (route w (past_of w []) q)))

-- the run of a program in which at most one message came in, and nobody was adopted yet
abbrev pub state_before : Program → ℕ → Option Posted → State
state_before program budget first = record {
  setting = run_of (parts_of program);
  budget = budget;
  history = first_entries (run_of (parts_of program)) first;
  stands = [];
  picks = [];
}

-- the office of a program, of which no session is at hand
abbrev pub run_state_before : Program → Office → ℕ → RunState
run_state_before program office budget = run_state_by program office budget [] []

-- the office is at work, and no session was adopted
abbrev pub IsOpened : Program → Office → Type 0
IsOpened program office = AtWork (run_state_before program office 0)
