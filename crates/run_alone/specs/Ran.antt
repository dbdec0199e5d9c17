-- What one worker that runs a program alone leaves: the record, and what its front was told.
use Rattle.std.specs.Prelude.{◌≡◌, ◌↔◌, ℕ, ◌-◌, Bool, true, false, List, [], ◌∷◌, ◌++◌, length, map, take}
use Rattle.std.specs.Prelude.{Some, Contains, slice_get}
use Rattle.std.specs.List.{list_all}
use Rattle.office_core.specs.declared.front.Posting.{Posting}
use Rattle.office_core.specs.declared.history.Entry.{Entry}
use Rattle.office_core.specs.Limits.{Setting, first_worker}
use Rattle.office_core.specs.Past.{Past}
use Rattle.office_core.specs.Accepted.{past_of}
use Rattle.run_record.specs.Postings.{posts_by, posts_of, told}
use Rattle.run_record.specs.Order.{order_alone}
use Rattle.run_record.specs.Quiet.{begins_posting}
use Rattle.run_record.specs.Collected.{was_collected}
use Rattle.run_record.specs.Outside.{notes}
use Rattle.run_record.specs.Run.{alone, IsRun, IsSpent}
use Rattle.run_theorem.specs.Lines.{is_by_first, finished_before, noted_before, IsPrefix}
pub use Rattle.run_theorem.specs.Lines.{finished_early}
use Rattle.run_theorem.specs.Exchange.{Told, Exchange}
pub use Rattle.run_theorem.specs.Trips.{AreVoid, Travelled}
pub use Rattle.run_theorem.specs.Picks.{Rules}
pub use Rattle.run_alone.specs.Overs.{IsOver, LeavesNone, GaveNone, most_waits, most_moves}
use Rattle.run_alone.specs.declared.worker.Finished.{Finished}

-- ---- the front

-- what the front was told of a place is what the calls of its posting came to
abbrev pub IsTold : Setting → Past → List Posting → Told → Type 0
IsTold w past given t =
    (p : Posting) × (slice_get given t.place ≡ Some p) × (told w past first_worker t.place p ≡ Some t.outcomes)

-- What was noted is what the history notes; where a note failed it is the front of that.
abbrev pub AreNotes : Bool → List ℕ → List ℕ → Type 0
AreNotes notes_failed noted all = IsPrefix noted all × (notes_failed ≡ false → noted ≡ all)

-- When posting j was asked for, the front had been told of the postings that are finished at an earlier one, in order,
-- and of no other.
abbrev pub ToldBefore : Setting → List Entry → Exchange → Type 0
ToldBefore w h d = (j n : ℕ) → slice_get d.received.seens j ≡ Some n
    → map (λ (t : Told). t.place) (take n d.sent.told) ≡ finished_before w h (length d.received.given) j

-- When the front was asked last it had been told of the postings that are finished before the end, and of no other.
abbrev pub SawFinished : Setting → List Entry → Exchange → Type 0
SawFinished w h d =
    map (λ (t : Told). t.place) (take d.received.seen d.sent.told) ≡ finished_early w h (length d.received.given)

-- When the front was asked last, all had been noted to it that the history notes before the last posting.
abbrev pub NotedBefore : Setting → List Entry → Exchange → Type 0
NotedBefore w h d = IsPrefix (noted_before w h (length d.received.given - 1)) d.received.noted

-- the answers of all calls of what was told were collected
abbrev pub AllCollected : Past → List Told → Type 0
AllCollected past ts = list_all (λ (t : Told). was_collected past first_worker t.place) ts ≡ true

-- What the front had been told when posting j was asked for had been collected before that was posted.
abbrev pub CollectedBefore : Setting → List Entry → Exchange → Type 0
CollectedBefore w h d =
    (j : ℕ) (before later : List Entry) (e : Entry) → h ≡ before ++ e ∷ later → begins_posting j before e ≡ true
    → (n : ℕ) → slice_get d.received.seens j ≡ Some n → AllCollected (past_of w before) (take n d.sent.told)

-- What passed between a run of this history and its front since that was new: each posting that was given was posted,
-- in order, and was answered once, in order, with what its calls came to; and what the history notes was noted. When a
-- posting was asked for, the front had been told of what is finished before that one, and this was collected by then;
-- and where it gave none when it was asked last, it had been told by then of what is finished before the end. By then
-- what the history notes before the last posting had been noted. A front that tells what is left has none left, but for
-- the reasons of `LeavesNone`.
pub record Exchanged (w : Setting) (h : List Entry) (new d : Exchange) : Type 0 where
  pub posted : posts_by first_worker h ≡ posts_of 0 d.received.given
  pub posters : list_all is_by_first h ≡ true
  pub order : map (λ (t : Told). t.place) d.sent.told ≡ order_alone w h first_worker (length d.received.given)
  pub told : (t : Told) → Contains d.sent.told t → IsTold w (past_of w h) d.received.given t
  pub noted : AreNotes d.sent.notes_failed d.sent.noted (notes w h)
  pub over : IsOver d
  pub left : LeavesNone new d
  pub asked : length d.received.seens ≡ length d.received.given
  pub told_before : ToldBefore w h d
  pub collected : CollectedBefore w h d
  pub seen : GaveNone d → SawFinished w h d
  pub noted_then : NotedBefore w h d

-- ---- the run

-- A run of one worker that works alone: its record is that of a run, of this text; its front was exchanged with as the
-- history says, its console calls came to void; and it tells whether a session used its whole budget and could act all
-- the same.
pub record Ran (r : Rules) (text : List ℕ) (new d : Exchange) (finished : Finished) : Type 0 where
  pub run : IsRun r.setting r.budget alone d.sent.notes_failed finished.report
  pub program : finished.report.program ≡ text
  pub traffic : finished.report.traffic ≡ []
  pub exchanged : Exchanged r.setting finished.report.history.entries.items new d
  pub consoles : AreVoid r.setting (past_of r.setting finished.report.history.entries.items)
  pub spent : (finished.spent ≡ true) ↔ IsSpent r.setting r.budget finished.report
