-- These definitions serve the proofs alone: no promise speaks of them.
-- Where a run stands between two postings.
use Rattle.std.specs.Prelude.{◌≡◌, ◌≤◌, ◌<◌, ℕ, suc, ◌-◌, Bool, true, false, List, []}
use Rattle.std.specs.Prelude.{◌∷◌, ◌++◌, length, take, None, Some, nat_eq, slice_get}
use Rattle.std.specs.List.{list_all, list_any}
use Rattle.office_core.specs.declared.front.Posting.{Posting}
use Rattle.office_core.specs.declared.history.Entry.{Entry}
use Rattle.office_core.specs.Limits.{Setting, first_worker}
use Rattle.office_core.specs.Past.{closes}
use Rattle.office_core.specs.Keys.{first}
use Rattle.office_core.specs.Accepted.{past_of}
use Rattle.office_core.specs.Answers.{answers}
use Rattle.office_core.specs.Legal.{IsLegal, collects, posts_as}
use Rattle.run_theorem.specs.Exchange.{Exchange, Told}
use Rattle.run_record.specs.declared.record.Record.{Record}
use Rattle.run_record.specs.Quiet.{MayBegin, before_stop}
use Rattle.run_record.specs.Collected.{CollectsFirst}
use Rattle.run_sweep.specs.Courses.{Goes}
use Rattle.run_cells.specs.RunStates.{State, events_of}
use Rattle.run_cells.specs.Rounds.{IsQuietAt, IsStillAt}
use Rattle.run_posts.specs.CallStates.{Wait, messages_of}
use Rattle.run_posts.specs.Open.{IsOpen, StandsInOrder, told_places}
use Rattle.run_sweep.specs.Swept.{StaysQuiet, is_swept}
use Rattle.run_trip_laws.specs.Going.{AreSettled, NotedSoFar}
use Rattle.run_alone.specs.Overs.{IsOver, GaveNone}
use Rattle.run_alone.specs.declared.worker.Finished.{Finished}
use Rattle.run_alone.specs.Ran.{AllCollected, CollectedBefore}
use Rattle.run_theorem.specs.Lines.{finished_before, noted_before, IsPrefix}

-- what was posted and not collected waits
abbrev pub AllWait : List Entry → List Wait → Type 0
AllWait h xs =
    (n : ℕ) → list_any (posts_as first_worker n) h ≡ true → list_any (collects n) h ≡ false
    → list_any (nat_eq n) (messages_of xs) ≡ true

-- no message that waits has an answer
abbrev pub NoneIsAnswered : Setting → List Entry → List Wait → Type 0
NoneIsAnswered w h xs =
    (n : ℕ) → list_any (nat_eq n) (messages_of xs) ≡ true → first (answers w (past_of w h) n) ≡ None

-- Between two postings the input is open, each posting began after collects, and what is not collected waits and has
-- no answer.
pub record IsGathered (w : Setting) (h : List Entry) (xs : List Wait) : Type 0 where
  pub unclosed : list_any closes h ≡ false
  pub begun : CollectsFirst w h
  pub waiting : AllWait h xs
  pub unanswered : NoneIsAnswered w h xs

-- posting n may begin
abbrev pub MayBeginAt : ℕ → State → Type 0
MayBeginAt n s = MayBegin s.setting s.budget n s.history (events_of s.stands)

-- Between two postings, so many of which were taken in: how it stands with the calls that went out, with postings that
-- wait and that were told, and with collects; that each posting began where it may; and if it is unfailed, that the next
-- one may begin.
pub record Between (s : State) (xs : List Wait) (n : ℕ) (unfailed : Bool) : Type 0 where
  pub settled : AreSettled s.setting s.history
  pub still : IsStillAt s
  pub all : List Posting
  pub sent : List Told
  pub opens : IsOpen s.setting s.history all sent xs
  pub order : StandsInOrder s.setting s.history n sent xs
  pub count : length all ≡ n
  pub gathered : IsGathered s.setting s.history xs
  pub quiet : unfailed ≡ true → MayBeginAt n s

-- Of what was told the first k are the postings, among so many, that are finished before posting j.
pub record WasTold (s : State) (n : ℕ) (told : List Told) (j k : ℕ) : Type 0 where
  pub within : k ≤ length told
  pub are : told_places (take k told) ≡ finished_before s.setting s.history n j

-- what was told when each posting was asked for are those that are finished before it
abbrev pub WereTold : State → ℕ → Exchange → Type 0
WereTold s n d = (j k : ℕ) → slice_get d.received.seens j ≡ Some k → WasTold s n d.sent.told j k

-- What passed with a front until then: what it was told was collected; what is noted before the last posting had been
-- noted when it was asked last; it halted only where a posting was taken in, and no note failed unless it halted.
pub record Passed (s : State) (xs : List Wait) (n : ℕ) (d : Exchange) : Type 0 where
  pub opens : IsOpen s.setting s.history d.received.given d.sent.told xs
  pub order : StandsInOrder s.setting s.history n d.sent.told xs
  pub count : length d.received.given ≡ n
  pub asked : length d.received.seens ≡ n
  pub earlier : WereTold s n d
  pub collected : AllCollected (past_of s.setting s.history) d.sent.told
  pub collected_before : CollectedBefore s.setting s.history d
  pub noted : NotedSoFar s.setting s.history d.sent.noted
  pub noted_then : IsPrefix (noted_before s.setting s.history (n - 1)) d.received.noted
  pub noted_since : IsPrefix d.received.noted d.sent.noted
  pub some : d.sent.halted ≡ true → 0 < n
  pub mutes : d.sent.halted ≡ false → d.sent.notes_failed ≡ false

-- The same, and then it gave a posting that was not taken in yet; no answer halted it.
pub record Brings (s : State) (xs : List Wait) (n : ℕ) (p : Posting) (d : Exchange) : Type 0 where
  pub all : List Posting
  pub given : d.received.given ≡ all ++ p ∷ []
  pub opens : IsOpen s.setting s.history all d.sent.told xs
  pub order : StandsInOrder s.setting s.history n d.sent.told xs
  pub count : length all ≡ n
  pub asked : length d.received.seens ≡ suc n
  pub earlier : WereTold s n d
  pub collected : AllCollected (past_of s.setting s.history) d.sent.told
  pub collected_before : CollectedBefore s.setting s.history d
  pub noted : NotedSoFar s.setting s.history d.sent.noted
  pub noted_now : d.received.noted ≡ d.sent.noted
  pub mutes : d.sent.notes_failed ≡ d.sent.halted

-- Something more passed with a front: nothing was received, and it halted no less.
pub record SentMore (before now : Exchange) : Type 0 where
  pub received : now.received ≡ before.received
  pub halted : now.sent.halted ≡ false → before.sent.halted ≡ false

-- What was left to do was done, unless the front halted: entries of sessions came, and errands; and nothing where
-- nothing was left to do, or where it was not unfailed.
pub record Rested (unfailed : Bool) (old new : State) : Type 0 where
  pub setting : new.setting ≡ old.setting
  pub budget : new.budget ≡ old.budget
  pub more : List Entry
  pub history : new.history ≡ old.history ++ more
  pub each : list_all is_swept more ≡ true
  pub settled : AreSettled new.setting new.history
  pub still : IsStillAt old → IsStillAt new
  pub quiet : StaysQuiet old new
  pub stopped : unfailed ≡ false → new.history ≡ old.history
  pub goes : Goes old new

-- A run goes on from there to what its record has before the stop.
pub record GoesTo (begin : State) (run : Record) : Type 0 where
  pub last : State
  pub goes : Goes begin last
  pub history : last.history ≡ before_stop run.history.entries.items
  pub sessions : events_of last.stands ≡ run.sessions

-- The texts that were noted are those of the history now, where they were those of the history before, and nothing else
-- passed.
pub record NotedOn (old new : State) (before now : Exchange) : Type 0 where
  pub told : now.sent.told ≡ before.sent.told
  pub sent : SentMore before now
  pub noted : NotedSoFar old.setting old.history before.sent.noted → NotedSoFar new.setting new.history now.sent.noted

-- What passed with a front while a posting was taken in; if that did not end unfailed, a note failed.
pub record Answered (s : State) (xs : List Wait) (n : ℕ) (unfailed : Bool) (before now : Exchange) : Type 0 where
  pub passed : Passed s xs n now
  pub sent : SentMore before now
  pub notes_failed : unfailed ≡ false → now.sent.notes_failed ≡ true

-- What passed with a front when no posting is asked for any more.
pub record Closed (s : State) (xs : List Wait) (n : ℕ) (unfailed : Bool) (now : Exchange) : Type 0 where
  pub passed : Passed s xs n now
  pub over : IsOver now
  pub notes_failed : unfailed ≡ false → now.sent.notes_failed ≡ true
  pub seen : GaveNone now → now.received.seen ≡ length now.sent.told

-- What passed with a front when what was left to do was done: unless a note failed nothing is left.
pub record LeftQuiet (old new : State) (before now : Exchange) : Type 0 where
  pub noted : NotedOn old new before now
  pub quiet : now.sent.notes_failed ≡ false → IsQuietAt new

-- What a run leaves of the state to which it came, for a program of this text: its history and the events of its
-- sessions, and whether a session was spent.
pub record IsLeft (text : List ℕ) (was_spent : Bool) (s : State) (finished : Finished) : Type 0 where
  pub program : finished.report.program ≡ text
  pub history : finished.report.history.entries.items ≡ s.history
  pub sessions : finished.report.sessions ≡ events_of s.stands
  pub traffic : finished.report.traffic ≡ []
  pub spent : finished.spent ≡ was_spent
  pub legal : IsLegal s.setting s.history
