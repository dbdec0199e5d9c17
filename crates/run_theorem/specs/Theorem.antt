-- The theorem: what a run of a program leaves. `RanProgram` says what every run leaves, `IsLined` what one over lines
-- adds, and `IsDoored` what one over connections adds.
use Rattle.std.specs.Prelude.{◌≡◌, ◌⊎◌, ◌↔◌, ℕ, suc, ◌-◌, ◌^◌, ◌<◌, ◌≤◌, Bool, true, false, ◌&&◌, List, [], ◌∷◌, length, map}
use Rattle.std.specs.Prelude.{count_by}
use Rattle.std.specs.List.{list_all, items_where_true, AllZip}
use Rattle.std.specs.Io.KnownBytes.{Appends, Consumes}
use Rattle.behaviour_tree.specs.Data.{ProgramParts}
use Rattle.office_core.specs.declared.history.Entry.{Entry}
use Rattle.office_core.specs.Limits.{Setting, run_of, first_worker}
use Rattle.office_core.specs.Accepted.{past_of}
use Rattle.run_record.specs.declared.record.Traffic.{Traffic}
use Rattle.run_record.specs.Postings.{posts_by, posts_of}
use Rattle.run_record.specs.Outside.{notes}
use Rattle.run_record.specs.Run.{alone, IsRun, IsSpent}
use Rattle.outside_traits.specs.Told.{SinkTold, SourceTold, WireTold}
use Rattle.run_theorem.specs.declared.ended.Ended.{Ended}
use Rattle.run_theorem.specs.Texts.{Came, posting_of}
use Rattle.run_theorem.specs.Lines.{most_postings, is_by_first, noted_before, IsPrefix, IsProperPrefix}
use Rattle.run_theorem.specs.Lines.{CameIn, AreDue, IsWritten, WroteEarly}
use Rattle.run_theorem.specs.Statuses.{Causes, status_of, Failed}
use Rattle.run_theorem.specs.Picks.{Rules, TookPicks}
use Rattle.outside_links.specs.Trips.{LinkTold}
use Rattle.run_theorem.specs.Trips.{AreVoid, Travelled}
use Rattle.run_theorem.specs.Ports.{doors_of}
use Rattle.run_theorem.specs.RunConnections.{RunConnection}
use Rattle.run_theorem.specs.Served.{IsServed}
use Rattle.outside_doors.specs.Returns.{DoorsTold}
use Rattle.run_theorem.specs.Used.{Used, leads_by, came_at_door, leads_to, wires_to, IsUsed, AreWires, IsWrittenOut}
use Rattle.run_theorem.specs.Through.{HadNoAnswer, IsThrough, rests_at}

-- ---- what is run, and what it meets

-- a program and its text, how many events a session may have, and the picks of the turns of sessions
pub record Task : Type 0 where
  pub parts : ProgramParts
  pub text : List ℕ
  pub budget : ℕ
  pub picks : List ℕ

-- what its run is under
abbrev pub rules_of : Task → Rules
rules_of t = record { setting = run_of t.parts; budget = t.budget }

-- What the outside of a run tells at a moment: the source of lines, the sinks of answers and of notes, the doors, and
-- the link by which calls go to services elsewhere.
pub record Outside : Type 0 where
  pub source : SourceTold
  pub output : SinkTold
  pub notes : SinkTold
  pub doors : DoorsTold
  pub link : LinkTold

-- the outside before a run and after it
pub record Around : Type 0 where
  pub before : Outside
  pub now : Outside

-- the history of a run that ended
abbrev pub history_of : Ended → List Entry
history_of ended = ended.report.history.entries.items

-- ---- every run

-- The status is that of the first of its causes, each of which came or did not as the outside tells; a session could
-- still act, or none could.
pub record HasStatus (a : Around) (IsMore : Type 0) (status : ℕ) : Type 0 where
  pub causes : Causes
  pub source : Failed causes.source a.before.source.faults a.now.source.faults
  pub output : Failed causes.output a.before.output.faults a.now.output.faults
  pub notes : Failed causes.notes a.before.notes.faults a.now.notes.faults
  pub doors : Failed causes.doors a.before.doors.faults a.now.doors.faults
  pub spent : (causes.spent ≡ true) ↔ IsMore
  pub is : status ≡ status_of causes

-- All that the history notes was noted; where a note failed, not all of it.
pub record AreNoted (w : Setting) (h : List Entry) (failed : Bool) (before now : SinkTold) : Type 0 where
  pub noted : List ℕ
  pub written : Appends before.written now.written noted
  pub entire : failed ≡ false → noted ≡ notes w h
  pub in_part : failed ≡ true → IsProperPrefix noted (notes w h)

-- What every run leaves.
pub record RanProgram (t : Task) (a : Around) (ended : Ended) : Type 0 where
  -- its status has its causes
  pub status : HasStatus a (IsSpent (run_of t.parts) t.budget ended.report) ended.status
  -- its record is that of a run of one worker: a legal history, the sessions that agree with it, and one answer for
  -- each message
  pub run : IsRun (run_of t.parts) t.budget alone status.causes.notes ended.report
  -- it is of the text
  pub program : ended.report.program ≡ t.text
  -- what came in was posted, in order, and by the worker alone
  pub came : List Came
  pub posted : posts_by first_worker (history_of ended) ≡ posts_of 0 (map posting_of came)
  pub posters : list_all is_by_first (history_of ended) ≡ true
  -- each turn of a session took the next pick
  pub picks : TookPicks (rules_of t) t.picks ended.report
  -- calls to the console come to void, and they were noted: those before the last posting was asked for in each case
  pub consoles : AreVoid (run_of t.parts) (past_of (run_of t.parts) (history_of ended))
  pub noted : AreNoted (run_of t.parts) (history_of ended) status.causes.notes a.before.notes a.now.notes
  pub noted_early : (j : ℕ) → length came ≡ suc j → IsPrefix (noted_before (run_of t.parts) (history_of ended) j) noted.noted
  -- each call to a service elsewhere was one trip of the link
  pub trips : Travelled (run_of t.parts) (history_of ended) a.before.link a.now.link

-- ---- over lines

-- What a run over lines adds.
pub record IsLined (t : Task) (a : Around) (ended : Ended) : Type 0 where
  pub ran : RanProgram t a ended
  -- it has no doors, and nothing is written after a write that failed
  pub doors : a.now.doors ≡ a.before.doors
  pub no_doors : ran.status.causes.doors ≡ false
  pub once : (ran.status.causes.output && ran.status.causes.notes) ≡ false
  -- its traffic is what the source gave and what the output took
  pub traffic : Traffic
  pub one : ended.report.traffic ≡ traffic ∷ []
  pub read : Consumes a.before.source.unread a.now.source.unread traffic.read
  pub written : Appends a.before.output.written a.now.output.written traffic.written
  -- the lines that were read came in
  pub came_in : CameIn ran.status.causes a.before.source a.now.source traffic.read ran.came
  -- and were answered, each once
  pub due : List ℕ
  pub answers : AreDue alone (run_of t.parts) (history_of ended) ran.came due
  pub answered : IsWritten ran.status.causes due traffic.written
  pub answered_early : WroteEarly (run_of t.parts) (history_of ended) ran.came traffic.written

-- ---- over connections

-- Doors were opened where the program has them, and all that was opened and accepted came back. Each connection leads
-- to the service of the door at which its wire tells that it came, to each service as many as its doors gave; and its
-- wire, which was made so, tells its bytes.
pub record HasDoors (IsMade : WireTold → Type 0) (parts : ProgramParts) (a : Around) (connections : List RunConnection)
    (traffic : List Traffic) : Type 0 where
  pub used : Used
  pub uses : IsUsed (doors_of parts) a.before.doors a.now.doors used
  pub came : list_all (came_at_door (leads_by (items_where_true used.opened (doors_of parts)) used.doors)) connections ≡ true
  pub led : (n : ℕ)
      → wires_to n (items_where_true used.opened (doors_of parts)) used.doors ≡ count_by (leads_to n) connections
  pub wires : AreWires IsMade connections traffic used.wires

-- What a run over connections adds, of which it accepts so many at most.
pub record IsDoored (IsMade : WireTold → Type 0) (most : ℕ) (t : Task) (a : Around) (ended : Ended) : Type 0 where
  pub ran : RanProgram t a ended
  -- it has no source of lines and no output
  pub source : a.now.source ≡ a.before.source
  pub output : a.now.output ≡ a.before.output
  pub no_lines : (ran.status.causes.source ≡ false) × (ran.status.causes.output ≡ false)
  -- its traffic is that of the connections that were accepted: their requests came in and were answered
  pub served : IsServed (run_of t.parts) (history_of ended) ran.status.causes.notes ended.report.traffic
  pub same : served.all.came ≡ ran.came
  pub accepted : length served.connections ≤ most
  -- they came at the doors of the program
  pub doors : HasDoors IsMade t.parts a served.connections ended.report.traffic
  -- unless a note failed all that was due on them was written, or it had rested as often in all as is counted
  pub written : ran.status.causes.notes ≡ false
      → AllZip IsWrittenOut served.connections doors.used.wires ⊎ (2 ^ 64 - 1 ≤ rests_at doors.used.doors)
  -- unless a note failed or there were the most postings it went on until no more could come, or none came for too long
  pub through : ran.status.causes.notes ≡ false → length ran.came < most_postings
      → IsThrough (HadNoAnswer (run_of t.parts) (history_of ended) served.all.asked) most served.connections doors.used
