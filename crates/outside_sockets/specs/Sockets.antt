-- What a contract sees of sockets, which tell no bytes.
use Rattle.std.specs.Prelude.{ℕ, Bool, false, None, Option}
use Rattle.outside_traits.specs.Told.{WireTold}
use Rattle.outside_dials.specs.Dials.{WireTraffic, traffic}

-- a connection over a socket: whether a read of it has failed, whether a write has before it was closed, whether a read
-- told the end of what comes in, whether it is closed, and at which door it came
pub record SocketTold : Type 0 where
  pub read_failed : Bool
  pub write_failed : Bool
  pub ended : Bool
  pub closed : Bool
  pub door : Option ℕ

-- what it tells as a wire: none of its bytes and calls
abbrev pub told_by_socket : SocketTold → WireTold
told_by_socket socket = record {
  read = None;
  unread = None;
  written = None;
  calls = None;
  read_failed = socket.read_failed;
  write_failed = socket.write_failed;
  ended = socket.ended;
  closed = socket.closed;
  door = socket.door;
}

-- what was done with it, as far as it is told
abbrev pub socket_traffic : SocketTold → WireTraffic
socket_traffic socket = traffic (told_by_socket socket)

-- a new connection, which came at this door
abbrev pub new_socket : Option ℕ → SocketTold
new_socket door =
    record { read_failed = false; write_failed = false; ended = false; closed = false; door = door }

-- a dialler over sockets: the last connection that came back, and its count of faults
pub record SocketSwitch : Type 0 where
  pub last : Option SocketTold
  pub faults : ℕ
