-- What is told of the tries to open a door and of the wires that came back, and what doors keep of these and of the
-- doors that came back.
use Rattle.std.specs.Prelude.{ℕ, Bool, List, [], Option, Some}
use Rattle.outside_polling.specs.Polls.{PollTold}
use Rattle.outside_doors.specs.Counts.{DoorTold, Tally, no_tally}

-- a try to open a door: where, and whether it was opened
pub record TryTold : Type 0 where
  pub location : List ℕ
  pub opened : Bool

-- the same by its parts
abbrev pub try_told : List ℕ → Bool → TryTold
try_told location opened = record { location = location; opened = opened }

-- a wire that came at the door of a place
pub record Placed (W : Type 0) : Type 0 where
  pub wire : W
  pub door : ℕ

-- a wire, as it came at the door of this place
abbrev pub placed : {W : Type 0} → ℕ → W → Placed W
placed door wire = record { wire = wire; door = door }

-- what a wire tells, with the door at which it came
abbrev pub told_at : Option ℕ → PollTold → PollTold
told_at door told = record told { wire = record (told.wire) { door = door } }

-- What doors tell: a number that rises where a door fails to open or one comes back that had failed, and stands else;
-- what is counted of what was opened and of what came back; and, where they are told, the tries to open a door in order,
-- the wires that came back in order, closed, and what each door told that came back, in order.
pub record DoorsTold : Type 0 where
  pub faults : ℕ
  pub tally : Tally
  pub tries : Option (List TryTold)
  pub returned : Option (List PollTold)
  pub returned_doors : Option (List DoorTold)

-- before anything was opened
abbrev pub none_told : DoorsTold
none_told = record {
  faults = 0;
  tally = no_tally;
  tries = Some [];
  returned = Some [];
  returned_doors = Some [];
}
