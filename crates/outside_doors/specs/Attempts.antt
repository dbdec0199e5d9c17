-- What a try at a door answers, and what a door tells then.
use Rattle.std.specs.Prelude.{◌≡◌, ℕ, Bool, true, false, [], Some, IfSome, Result, Ok, Err}
use Rattle.outside_doors.specs.Counts.{added}
use Rattle.outside_doors.specs.declared.traits.Accept.{Accept}
use Rattle.outside_doors.specs.declared.traits.Accept.TheVariants.{Came, NotYet, Closed}
use Rattle.outside_traits.specs.Told.{WireTold}
use Rattle.outside_polling.specs.Polls.{PollTold}

-- P of the connection that came, where one came
abbrev pub IfCame : {W E : Type 0} → Result (Accept W) E → (W → Type 0) → Type 0
IfCame (Ok (Came wire)) P = P wire
IfCame (Ok NotYet) P = Unit {0}
IfCame (Ok Closed) P = Unit {0}
IfCame (Err cause) P = Unit {0}

-- how many wires a door has given then, where it had given so many
abbrev pub wires_after : {W E : Type 0} → Result (Accept W) E → ℕ → ℕ
wires_after (Ok (Came wire)) before = added before 1
wires_after (Ok NotYet) before = before
wires_after (Ok Closed) before = before
wires_after (Err cause) before = before

-- how often a door has answered then that nobody has come yet
abbrev pub waits_after : {W E : Type 0} → Result (Accept W) E → ℕ → ℕ
waits_after (Ok (Came wire)) before = before
waits_after (Ok NotYet) before = added before 1
waits_after (Ok Closed) before = before
waits_after (Err cause) before = before

-- how often a door has answered so then since it gave a wire last, where it had so often
abbrev pub waits_in_a_row_after : {W E : Type 0} → Result (Accept W) E → ℕ → ℕ
waits_in_a_row_after (Ok (Came wire)) before = 0
waits_in_a_row_after (Ok NotYet) before = added before 1
waits_in_a_row_after (Ok Closed) before = before
waits_in_a_row_after (Err cause) before = before

-- how often it was rested at since it gave a wire last, where it was so often
abbrev pub rests_in_a_row_after : {W E : Type 0} → Result (Accept W) E → ℕ → ℕ
rests_in_a_row_after (Ok (Came wire)) before = 0
rests_in_a_row_after (Ok NotYet) before = before
rests_in_a_row_after (Ok Closed) before = before
rests_in_a_row_after (Err cause) before = before

-- whether a door has answered then that nobody comes any more
abbrev pub closed_after : {W E : Type 0} → Result (Accept W) E → Bool → Bool
closed_after (Ok (Came wire)) before = before
closed_after (Ok NotYet) before = before
closed_after (Ok Closed) before = true
closed_after (Err cause) before = before

-- A connection as it comes: as far as it tells nothing was read or written on it, nor any call made; none has failed,
-- no read has told an end, and it is open.
pub record IsFresh (wire : WireTold) : Type 0 where
  pub nothing_read : IfSome wire.read (λ bytes. bytes ≡ [])
  pub unwritten : IfSome wire.written (λ bytes. bytes ≡ [])
  pub uncalled : IfSome wire.calls (λ made. made ≡ [])
  pub read_unfailed : wire.read_failed ≡ false
  pub write_unfailed : wire.write_failed ≡ false
  pub unended : wire.ended ≡ false
  pub is_open : wire.closed ≡ false

-- A connection as it comes at the door of this place, which it tells. It has not answered yet that it can move nothing.
pub record ComesAt (place : ℕ) (told : PollTold) : Type 0 where
  pub fresh : IsFresh told.wire
  pub unwaited : told.waits ≡ 0
  pub no_row : told.in_a_row ≡ 0
  pub no_longest : told.longest ≡ 0
  pub door : told.wire.door ≡ Some place
