-- What a contract sees of the connections over sockets that do not wait, which tell no bytes.
use Rattle.std.specs.Prelude.{ℕ, Bool, false, Some, None, Result, Ok, Err}
use Rattle.outside_polling.specs.Polls.{PollTold}
use Rattle.outside_polling.specs.declared.traits.Ready.{Ready}
use Rattle.outside_polling.specs.declared.traits.Ready.TheVariants.{Done, NotYet}

-- a connection over a socket: whether a read of it has failed, whether a write has before it was closed, whether a read
-- told the end, whether it is closed, how often it could move nothing yet, in a row up to now and in the longest row
-- that a write has come to, and at which door it came
pub record LineTold : Type 0 where
  pub read_failed : Bool
  pub write_failed : Bool
  pub ended : Bool
  pub closed : Bool
  pub waits : ℕ
  pub in_a_row : ℕ
  pub longest : ℕ
  pub door : ℕ

-- what it tells as a wire: none of its bytes and calls
abbrev pub told_by_line : LineTold → PollTold
told_by_line line = record {
  wire = record {
    read = None;
    unread = None;
    written = None;
    calls = None;
    read_failed = line.read_failed;
    write_failed = line.write_failed;
    ended = line.ended;
    closed = line.closed;
    door = Some line.door;
  };
  waits = line.waits;
  in_a_row = line.in_a_row;
  longest = line.longest;
}

-- a new connection, which came at this door
abbrev pub new_wire : ℕ → LineTold
new_wire door =
    record {
      read_failed = false;
      write_failed = false;
      ended = false;
      closed = false;
      waits = 0;
      in_a_row = 0;
      longest = 0;
      door = door;
    }

-- P of the number of bytes that a call moved, where it moved some or all there was
abbrev pub IfDone : {E : Type 0} → Result Ready E → (ℕ → Type 0) → Type 0
IfDone (Ok (Done count)) P = P count
IfDone (Ok NotYet) P = Unit {0}
IfDone (Err cause) P = Unit {0}
