-- What doors count.
use Rattle.std.specs.Prelude.{ℕ, ◌+◌, ◌-◌, ◌^◌, min, Bool, false, not, ◌||◌, ◌==◌, if◌then◌else◌}
use Rattle.outside_polling.specs.Polls.{PollTold}

-- a count to which so many are added; it stops at the last value of its type
abbrev pub added : ℕ → ℕ → ℕ
added before more = min (before + more) (2 ^ 64 - 1)

-- a count to which one is added where the test is true
abbrev pub added_if : Bool → ℕ → ℕ
added_if test before = if test then added before 1 else before

-- what a door tells of itself
pub record DoorTold : Type 0 where
  -- how many doors had been opened before it
  pub place : ℕ
  -- how often a try at it has failed
  pub faults : ℕ
  -- how many wires it gave
  pub wires : ℕ
  -- how often it answered that nobody has come yet
  pub waits : ℕ
  -- how often it was rested at
  pub rests : ℕ
  -- how often it has answered that nobody has come yet since it gave a wire last
  pub waits_in_a_row : ℕ
  -- how often it was rested at since then
  pub rests_in_a_row : ℕ
  -- whether it has answered that nobody comes any more
  pub closed : Bool

-- a door of this place that was not tried yet
abbrev pub untried : ℕ → DoorTold
untried place = record {
  place = place;
  faults = 0;
  wires = 0;
  waits = 0;
  rests = 0;
  waits_in_a_row = 0;
  rests_in_a_row = 0;
  closed = false;
}

-- a door that was rested at once more
abbrev pub rested : DoorTold → DoorTold
rested door = record door { rests = added door.rests 1; rests_in_a_row = added door.rests_in_a_row 1 }

-- whether a door has ended: it has answered that nobody comes any more, or a try at it has failed
abbrev pub has_ended : DoorTold → Bool
has_ended door = door.closed || not (door.faults == 0)

-- what doors count of what they opened and of what came back to them
pub record Tally : Type 0 where
  -- the doors that were opened
  pub opened : ℕ
  -- the doors that came back
  pub doors_back : ℕ
  -- those of them that had ended
  pub doors_ended : ℕ
  -- the wires that the doors which came back had given
  pub wires_given : ℕ
  -- the wires that came back
  pub wires_back : ℕ
  -- those of them of which a read had failed
  pub wires_lost : ℕ
  -- those of them of which a write had failed before they were closed
  pub wires_cut : ℕ
  -- those of them of which a read had told the end of what comes in
  pub wires_ended : ℕ
  -- the waits of all doors and wires that came back: how often they answered that nobody has come yet, or that they can
  -- move nothing yet
  pub waits : ℕ

-- before anything was opened
abbrev pub no_tally : Tally
no_tally = record {
  opened = 0;
  doors_back = 0;
  doors_ended = 0;
  wires_given = 0;
  wires_back = 0;
  wires_lost = 0;
  wires_cut = 0;
  wires_ended = 0;
  waits = 0;
}

-- a door was opened
abbrev pub with_opened : Tally → Tally
with_opened tally = record tally { opened = added tally.opened 1 }

-- a door came back
abbrev pub with_door : DoorTold → Tally → Tally
with_door door tally = record tally {
  doors_back = added tally.doors_back 1;
  doors_ended = added_if (has_ended door) tally.doors_ended;
  wires_given = added tally.wires_given door.wires;
  waits = added tally.waits door.waits;
}

-- a wire came back; a read of it had failed or not, a write had or not, it had ended or not, and it had waited so often
abbrev pub with_return : Bool → Bool → Bool → ℕ → Tally → Tally
with_return read_failed write_failed ended waits tally = record tally {
  wires_back = added tally.wires_back 1;
  wires_lost = added_if read_failed tally.wires_lost;
  wires_cut = added_if write_failed tally.wires_cut;
  wires_ended = added_if ended tally.wires_ended;
  waits = added tally.waits waits;
}

-- a wire came back that told this
abbrev pub with_wire : PollTold → Tally → Tally
with_wire told tally = with_return told.wire.read_failed told.wire.write_failed told.wire.ended told.waits tally
