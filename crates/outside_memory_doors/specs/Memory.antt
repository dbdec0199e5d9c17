-- What a contract sees of the doors in memory.
use Rattle.std.specs.Prelude.{◌≡◌, ◌==◌, ◌-◌, ℕ, false, if◌then◌else◌}
use Rattle.std.specs.Prelude.{List, [], ◌∷◌, Option, Some, None, Result, Ok, IsErr}
use Rattle.outside_polling.specs.Early.{Hasty}
use Rattle.outside_polling.specs.Polls.{PollTold}
use Rattle.outside_doors.specs.Counts.{DoorTold, untried}
use Rattle.outside_doors.specs.Returns.{DoorsTold, Placed, placed, told_at}
use Rattle.outside_doors.specs.declared.traits.Accept.{Accept}
use Rattle.outside_doors.specs.declared.traits.Accept.TheVariants.{Came, NotYet, Closed}
use Rattle.outside_memory_doors.specs.declared.visit.Visit.{Visit}
use Rattle.outside_memory_doors.specs.declared.visit.Visit.TheVariants.{Comes, Nobody, Fails}
use Rattle.outside_traits.specs.Memory.{plan_of}
use Rattle.outside_traits.specs.Wires.{UnfailingLine, ScriptedLine, readable}
use Rattle.outside_traits.specs.Told.{WireTold}

-- a door that never fails: the wires that are to come, for how many tries then nobody comes, and what it tells
pub record UnfailingEntry : Type 0 where
  pub coming : List (Hasty UnfailingLine)
  pub quiet : ℕ
  pub told : DoorTold

-- a door that follows a script: what its next tries come to, and what it tells
pub record ScriptedEntry : Type 0 where
  pub visits : List Visit
  pub told : DoorTold

-- doors that never fail to open: those that are to be opened in order, and what they tell
pub record UnfailingHouse : Type 0 where
  pub coming : List UnfailingEntry
  pub book : DoorsTold

-- doors that follow a script: those that are to be opened in order, none of one that fails, and what they tell
pub record ScriptedHouse : Type 0 where
  pub coming : List (Option ScriptedEntry)
  pub book : DoorsTold

-- an unfailed wire that was not used yet, on which these bytes come in, and for so many that go out there is room
abbrev pub unfailed_line : List ℕ → ℕ → UnfailingLine
unfailed_line bytes room = record {
  tape = record { given = []; left = bytes };
  shelf = record { taken = []; room = room };
  calls = Some [];
  cut = false;
  closed = false;
  ended = false;
}

-- a scripted one: its calls of these numbers fail, and each gives and takes at most so many bytes
abbrev pub scripted_line : List ℕ → ℕ → List ℕ → ℕ → ScriptedLine
scripted_line failing piece bytes room = record {
  script = plan_of failing;
  tape = record { given = []; left = bytes };
  shelf = record { taken = []; room = room };
  calls = Some [];
  piece = piece;
  lost = false;
  cut = false;
  closed = false;
  ended = false;
}

-- what an unfailed wire tells
abbrev pub told_by_unfailed : UnfailingLine → WireTold
told_by_unfailed line = record {
  read = Some line.tape.given;
  unread = Some (readable line.closed line.tape);
  written = Some line.shelf.taken;
  calls = line.calls;
  read_failed = false;
  write_failed = line.cut;
  ended = line.ended;
  closed = line.closed;
  door = None;
}

-- the same of a scripted one
abbrev pub told_by_scripted : ScriptedLine → WireTold
told_by_scripted line = record {
  read = Some line.tape.given;
  unread = Some (readable line.closed line.tape);
  written = Some line.shelf.taken;
  calls = line.calls;
  read_failed = line.lost;
  write_failed = line.cut;
  ended = line.ended;
  closed = line.closed;
  door = None;
}

-- what a wire tells of which some calls come too early: what the wire in it tells, and how many of these there were
abbrev pub polled : {W : Type 0} → (W → WireTold) → Hasty W → PollTold
polled told line =
    record { wire = told line.wire; waits = line.waits; in_a_row = line.in_a_row; longest = line.longest }

-- the same of one that came at a door, which it tells
abbrev pub told_of : {W : Type 0} → (W → WireTold) → Placed (Hasty W) → PollTold
told_of told came = told_at (Some came.door) (polled told came.wire)

-- what comes of a try at a door in memory, of whose wires some calls come too early
abbrev pub Tried : Type 0 → Type 0 → Type 0
Tried W E = Result (Accept (Placed (Hasty W))) E

-- what an unfailed door answers: its wires in order, then for so many tries that nobody has come yet, then that nobody
-- comes any more
abbrev pub UnfailinglyAnswersBy : {E : Type 0} → ℕ → List (Hasty UnfailingLine) → ℕ → Tried UnfailingLine E → Type 0
UnfailinglyAnswersBy place (wire ∷ rest) quiet result = result ≡ Ok (Came (placed place wire))
UnfailinglyAnswersBy place [] quiet result = result ≡ Ok (if quiet == 0 then Closed else NotYet)

-- the same by what is seen of the door
abbrev pub UnfailinglyAnswers : {E : Type 0} → UnfailingEntry → Tried UnfailingLine E → Type 0
UnfailinglyAnswers door result = UnfailinglyAnswersBy door.told.place door.coming door.quiet result

-- for how many tries nobody comes behind a try at an unfailed door: one fewer, where no wire was left
abbrev pub quiet_after : List (Hasty UnfailingLine) → ℕ → ℕ
quiet_after [] quiet = quiet - 1
quiet_after (wire ∷ rest) quiet = quiet

-- what a scripted door answers: what its next visit is, and behind the last of them that nobody comes any more
abbrev pub AnswersBy : {E : Type 0} → ℕ → List Visit → Tried ScriptedLine E → Type 0
AnswersBy place [] result = result ≡ Ok Closed
AnswersBy place (Comes wire ∷ rest) result = result ≡ Ok (Came (placed place wire))
AnswersBy place (Nobody ∷ rest) result = result ≡ Ok NotYet
AnswersBy place (Fails ∷ rest) result = IsErr result

-- the same by what is seen of the door
abbrev pub Answers : {E : Type 0} → ScriptedEntry → Tried ScriptedLine E → Type 0
Answers door result = AnswersBy door.told.place door.visits result

-- the unfailed door of this place that is opened next: the first that is to be, and behind the last of them one at which
-- nobody comes
abbrev pub next_entry : ℕ → List UnfailingEntry → UnfailingEntry
next_entry place [] = record { coming = []; quiet = 0; told = untried place }
next_entry place (door ∷ rest) = record door { told = untried place }

-- the same of scripted doors, where one that is none fails
abbrev pub Opens : {E : Type 0} → ℕ → List (Option ScriptedEntry) → Result ScriptedEntry E → Type 0
Opens place [] result = result ≡ Ok (record { visits = []; told = untried place })
Opens place (None ∷ rest) result = IsErr result
Opens place (Some door ∷ rest) result = result ≡ Ok (record door { told = untried place })
