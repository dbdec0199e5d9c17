-- How long a connection is waited for.
use Rattle.std.specs.Prelude.{ℕ, ◌-◌, ◌/◌, min, ◌==◌, Bool, true, false, nat_le, if◌then◌else◌}
use Rattle.std.specs.Duration.{as_nanos}
use Rattle.outside_socket_doors.specs.declared.patience.Patience.{Patience}
use Rattle.outside_socket_doors.specs.declared.patience.Turn.{Turn}
use Rattle.outside_socket_doors.specs.declared.patience.Turn.TheVariants.{Idle, Request, Answer}

-- whether a turn has lasted so long at a nanosecond that it is waited for no more
abbrev pub is_over : Patience → Turn → ℕ → Bool
is_over patience (Idle start) now = nat_le (as_nanos patience.idle) (now - start)
is_over patience (Request start) now = nat_le (as_nanos patience.request) (now - start)
is_over patience (Answer start) now = nat_le (as_nanos patience.answer) (now - start)

-- whether nothing of a next request has come
abbrev pub is_idle : Turn → Bool
is_idle (Idle start) = true
is_idle (Request start) = false
is_idle (Answer start) = false

-- whose turn it is in a read that begins at a nanosecond: after an answer the next request is waited for
abbrev pub turn_at_read : Turn → ℕ → Turn
turn_at_read (Idle start) now = Idle start
turn_at_read (Request start) now = Request start
turn_at_read (Answer start) now = Idle now

-- and after a read that gave so many bytes: a request begins with the first of them
abbrev pub turn_by_read : Turn → ℕ → ℕ → Turn
turn_by_read (Request start) count now = Request start
turn_by_read (Idle start) count now = if count == 0 then Idle start else Request now
turn_by_read (Answer start) count now = if count == 0 then Answer start else Request now

-- and in a write that begins at a nanosecond: an answer begins with the first one
abbrev pub turn_at_write : Turn → ℕ → Turn
turn_at_write (Answer start) now = Answer start
turn_at_write (Idle start) now = Answer now
turn_at_write (Request start) now = Answer now

-- how many milliseconds a rest lasts at most
abbrev pub rest_milliseconds : Patience → ℕ
rest_milliseconds patience = min (as_nanos patience.rest / 1_000_000) 1_000
