-- What an accept says of who has come.
use Rattle.std.specs.Prelude.{◌≡◌, ℕ, ℤ, Bool, true, false, ◌||◌, ◌==◌, if◌then◌else◌, unsigned_abs}
use Rattle.std.specs.Prelude.{Option, Some, None, Result, Ok, Err, IsErr}
use Rattle.std.specs.IoError.{error_kind, raw_os_error}
use Rattle.std.specs.declared.io.Error.{Error}
use Rattle.std.specs.declared.io.ErrorKind.{ErrorKind}
use Rattle.std.specs.declared.io.ErrorKind.TheVariants.{WouldBlock, Interrupted, ConnectionAborted, ConnectionReset}
use Rattle.std.specs.declared.io.ErrorKind.TheVariants.{NetworkDown, NetworkUnreachable, HostUnreachable, TimedOut}
use Rattle.outside_doors.specs.declared.traits.Accept.{Accept}
use Rattle.outside_doors.specs.declared.traits.Accept.TheVariants.{Came, NotYet, Closed}
use Rattle.outside_socket_doors.specs.declared.obstacle.Obstacle.{Obstacle}
use Rattle.outside_socket_doors.specs.declared.obstacle.Obstacle.TheVariants.{Nobody, Want, Fault}

-- whether an error of this kind says that nobody is there: nobody waits, a signal came first, or who came is gone
abbrev pub is_absence : ErrorKind → Bool
is_absence WouldBlock = true
is_absence Interrupted = true
is_absence ConnectionAborted = true
is_absence ConnectionReset = true
is_absence NetworkDown = true
is_absence NetworkUnreachable = true
is_absence HostUnreachable = true
is_absence TimedOut = true
is_absence _ = false

-- the number that the system gives an error, and 0 for an error that it gave none
abbrev pub number_in : Option ℤ → ℕ
number_in (Some code) = unsigned_abs code
number_in None = 0

-- the number of an error
abbrev pub number_of : Error → ℕ
number_of error = number_in (raw_os_error error)

-- whether an error of this number says that who came is gone, though it is of no such kind: ENONET, EPROTO,
-- ENOPROTOOPT, EOPNOTSUPP and EHOSTDOWN of Linux, which an accept passes on from a connection
abbrev pub is_lost : ℕ → Bool
is_lost number = number == 64 || number == 71 || number == 92 || number == 95 || number == 112

-- whether an error of this number says that who waits can't be let in now: EPERM, where a rule of the system forbids
-- it, or ENOMEM, ENFILE, EMFILE and ENOBUFS, where there is no memory or no file left
abbrev pub is_want : ℕ → Bool
is_want number = number == 1 || number == 12 || number == 23 || number == 24 || number == 105

-- what stands in the way of an accept that came to an error
abbrev pub obstacle_of : Error → Obstacle
obstacle_of error = if is_absence (error_kind error) || is_lost (number_of error) then Nobody
    else if is_want (number_of error) then Want else Fault

-- whether an error of this kind says that a call would have had to wait
abbrev pub is_wait : ErrorKind → Bool
is_wait WouldBlock = true
is_wait _ = false

-- what is known to have been reported to a call that came to an error: all where it would have had to wait, so that the
-- next report is awaited; else nothing
abbrev pub mark_of : Error → ℕ → Option ℕ
mark_of error rings = if is_wait (error_kind error) then Some rings else None

-- a try at a door gave a connection
abbrev pub GivesWire : {W E : Type 0} → Result (Accept W) E → Type 0
GivesWire (Ok (Came wire)) = Unit {0}
GivesWire (Ok NotYet) = ⊥
GivesWire (Ok Closed) = ⊥
GivesWire (Err cause) = ⊥

-- what a try at a door gives where this stood in the way of an accept: only a fault is a failure
abbrev pub Meets : {W E : Type 0} → Obstacle → Result (Accept W) E → Type 0
Meets Nobody result = result ≡ Ok NotYet
Meets Want result = result ≡ Ok NotYet
Meets Fault result = IsErr result
