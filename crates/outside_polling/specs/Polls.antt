-- What is told of a wire that does not wait, and what its calls do.
use Rattle.std.specs.Prelude.{◌≡◌, ◌<◌, ◌≤◌, ◌||◌, ◌+◌, ◌-◌, ◌^◌, min, not, ℕ, Bool, true, false, List, [], ◌∷◌, length}
use Rattle.std.specs.Prelude.{nat_lt, if◌then◌else◌}
use Rattle.std.specs.Prelude.{Result, Ok, Err, IsTrue, IsErr, IfOk, MatchResult}
use Rattle.std.specs.Io.KnownBytes.{ReadConsumes, WriteAppends}
use Rattle.outside_traits.specs.Calls.{moved, tells_end}
use Rattle.outside_traits.specs.Told.{Lists, WireTold, shut}
use Rattle.outside_traits.specs.declared.calls.WireCall.TheVariants.{Read, Wrote}
use Rattle.outside_polling.specs.declared.traits.Ready.{Ready}
use Rattle.outside_polling.specs.declared.traits.Ready.TheVariants.{Done, NotYet}

-- What is told of a wire that does not wait: what every wire tells, how often it has answered that it can move nothing
-- yet, how often in a row up to now, and how often in the longest row that a write has come to. An answer of that kind is
-- none of its reads and writes.
pub record PollTold : Type 0 where
  pub wire : WireTold
  pub waits : ℕ
  pub in_a_row : ℕ
  pub longest : ℕ

-- a count one higher; it stops at the last value of its type
abbrev pub once_more : ℕ → ℕ
once_more before = min (before + 1) (2 ^ 64 - 1)

-- the greater of two counts
abbrev pub greater : ℕ → ℕ → ℕ
greater a b = if nat_lt a b then b else a

-- the wire answered once more that it can move nothing yet, and did nothing else; its longest row is this by now
abbrev pub waited : PollTold → ℕ → PollTold
waited wire longest =
    record wire { waits = once_more wire.waits; in_a_row = once_more wire.in_a_row; longest = longest }

-- how often in the longest row that a write has come to, after an answer to a write, where it was so long and the row up
-- to now so long
abbrev pub longest_after : {E : Type 0} → Result Ready E → ℕ → ℕ → ℕ
longest_after (Ok (Done count)) longest before = longest
longest_after (Ok NotYet) longest before = greater longest (once_more before)
longest_after (Err cause) longest before = longest

-- how often in a row it has answered so after an answer, where it had so often before: any other answer ends the row
abbrev pub row_after : {E : Type 0} → Result Ready E → ℕ → ℕ
row_after (Ok (Done count)) before = 0
row_after (Ok NotYet) before = once_more before
row_after (Err cause) before = 0

-- a wire that was closed, which drops what is left to read
abbrev pub shut_so : PollTold → PollTold
shut_so told = record told { wire = shut told.wire }

-- what an answer comes to as one of a wire that waits: nothing was moved yet where it says so
abbrev pub done : {E : Type 0} → Result Ready E → Result ℕ E
done (Ok (Done count)) = Ok count
done (Ok NotYet) = Ok 0
done (Err cause) = Err cause

-- What a call did, by its answer. That it can move nothing yet only an open wire answers, and does nothing then; else
-- it did this, and waited no more often than before.
abbrev pub Polls : {E : Type 0} → Result Ready E → PollTold → PollTold
    → (Result ℕ E → WireTold → WireTold → Type 0) → Type 0
Polls (Ok (Done count)) before now Does = Does (Ok count) before.wire now.wire × (now.waits ≡ before.waits)
Polls (Ok NotYet) before now Does = (before.wire.closed ≡ false) × (now ≡ waited before now.longest)
Polls (Err cause) before now Does = Does (Err cause) before.wire now.wire × (now.waits ≡ before.waits)

-- What a read did that had so much room, and left this in its buffer. Where there was room, 0 comes at the end of input
-- and only there.
pub record ReadsWire {E : Type 0} (room : ℕ) (buffer : List ℕ) (result : Result ℕ E) (before now : WireTold) : Type 0 where
  pub bytes : ReadConsumes before.unread now.unread result buffer
  -- what was read grows by the bytes that this call gave
  pub read : WriteAppends before.read now.read result buffer
  pub written : now.written ≡ before.written
  pub calls : Lists before.calls now.calls (Read (moved result) ∷ [])
  pub closed : now.closed ≡ before.closed
  pub ended : now.ended ≡ (before.ended || tells_end before.closed room result)
  pub shut : IsTrue before.closed → result ≡ Ok 0
  pub read_failed : MatchResult result (λ _. now.read_failed ≡ before.read_failed) (λ _. now.read_failed ≡ true)
  pub write_failed : now.write_failed ≡ before.write_failed
  pub door : now.door ≡ before.door

-- What a write of these bytes did. Where there were some, it took one at least.
pub record WritesWire {E : Type 0} (bytes : List ℕ) (result : Result ℕ E) (before now : WireTold) : Type 0 where
  pub some : IfOk result (λ count. 0 < length bytes → 0 < count)
  -- what was written grows by the bytes that this call took
  pub written : WriteAppends before.written now.written result bytes
  pub read : now.read ≡ before.read
  pub unread : now.unread ≡ before.unread
  pub calls : Lists before.calls now.calls (Wrote (moved result) ∷ [])
  pub closed : now.closed ≡ before.closed
  pub ended : now.ended ≡ before.ended
  pub shut : IsTrue before.closed → IsErr result
  pub read_failed : now.read_failed ≡ before.read_failed
  pub write_failed : MatchResult result
      (λ _. now.write_failed ≡ before.write_failed)
      (λ _. now.write_failed ≡ (before.write_failed || not before.closed))
  pub door : now.door ≡ before.door
