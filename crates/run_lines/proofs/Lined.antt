-- A run over lines by what its front and its worker say.
use Rattle.std.proofs.Common.{◌≡◌, ◌≢◌, refl, sym, ap, subst, ◌∙◌, ℕ, zero, suc, ◌+◌, ◌-◌, ◌<◌, ◌≤◌, Bool, true, false, ◌&&◌, ◌||◌, arith, List, [], ◌∷◌, length, map, take, drop}
use Rattle.std.proofs.Common.{inl, inr, true≢false, Contains, get_or, Option, Some, slice_get, MatchBool}
use Rattle.std.proofs.lemmas.List.{length-map, take-append-drop}
use Rattle.std.proofs.lemmas.List.Elements.{Contains-append_left}
use Rattle.std.proofs.lemmas.Option.{slice_get-get_or}
use Rattle.std.specs.Io.KnownBytes.{IsAtEnd}
use Rattle.outside_traits.specs.Causes.{Rose}
use Rattle.office_core.specs.declared.front.Posting.{Posting}
use Rattle.office_core.specs.declared.history.Entry.{Entry}
use Rattle.office_core.specs.Limits.{Setting, run_of, first_worker}
use Rattle.office_core.specs.Accepted.{past_of}
use Rattle.run_record.specs.declared.record.Record.{Record}
use Rattle.run_record.specs.declared.record.Traffic.{Traffic}
use Rattle.run_record.specs.Postings.{posts_by, posts_of}
use Rattle.run_record.specs.Order.{order_alone}
use Rattle.run_record.specs.Outside.{notes}
use Rattle.run_record.specs.Run.{Hands, alone, IsRun, IsSpent}
use Rattle.run_theorem.specs.declared.ended.Ended.{Ended}
use Rattle.run_theorem.specs.Split.{whole_lines, all_lines, sent_lines}
use Rattle.run_theorem.specs.Texts.{Came, posting_of}
use Rattle.run_theorem.specs.Lines.{come_in, finished_before, noted_before, lines_in, most_postings, IsPrefix, IsProperPrefix, IsWritten, CameIn}
use Rattle.run_theorem.specs.Lines.{whole as came_whole, cut as came_cut, halted as came_halted, halted_at_end as came_at_end}
use Rattle.run_theorem.specs.Statuses.{Causes, Failed, halts}
use Rattle.run_theorem.specs.Picks.{TookPicks}
use Rattle.outside_links.specs.Trips.{LinkTold}
use Rattle.run_theorem.specs.Trips.{Travelled}
use Rattle.outside_doors.specs.Returns.{DoorsTold}
use Rattle.run_theorem.specs.Theorem.{Task, rules_of, Outside, Around, HasStatus, AreNoted, RanProgram, IsLined}
use Rattle.run_theorem.specs.Exchange.{Told, Exchange}
use Rattle.run_lines.specs.Passing.{read_in}
use Rattle.run_lines.specs.Reading.{Input, came_by, came_in, Fails, HasPassed, some, last, whole, full, cut}
use Rattle.outside_traits.specs.Told.{SinkTold, SourceTold}
use Rattle.run_lines.specs.Writing.{Output as Written, Due, HasWritten, entire, in_lines, in_notes}
use Rattle.run_lines.specs.Told.{lines_told}
use Rattle.run_lines.specs.Exchanged.{Sides, HasExchanged}
use Rattle.run_alone.specs.declared.worker.Finished.{Finished}
use Rattle.run_alone.specs.Ran.{IsOver, IsTold, AreNotes, Exchanged, Ran, most_waits}
use Rattle.run_lines.specs.Steps.{with_traffic, status_of}
use Rattle.run_lines.proofs.Answers.{lines_told-of}
use Rattle.run_lines.proofs.Fronts.{IsPrefix-all, IsPrefix-trans, IsProperPrefix-trans, whole_front, all_full, all_most}

-- a source failed or did not
failed_so : (failed : Bool) (before now : ℕ) → Fails failed before now → Failed failed before now
failed_so true before now h = h
failed_so false before now h = h

-- ---- the record with its traffic

module _ (w : Setting) (budget : ℕ) (run : Record) (t : Traffic) where
  -- what a run is does not speak of its traffic
  run_with : (hands : Hands) (notes_failed : Bool) → IsRun w budget hands notes_failed run → IsRun w budget hands notes_failed (with_traffic run t)
  run_with hands notes_failed k = record {
    legal = k.legal;
    stopped = k.stopped;
    closed = k.closed;
    actors = k.actors;
    posted = k.posted;
    sessions = k.sessions;
    within = k.within;
    answered = k.answered;
    quiet = k.quiet;
    still = k.still;
    collected = k.collected;
  }

  -- nor is whether a session could still act
  spent_with : IsSpent w budget run → IsSpent w budget (with_traffic run t)
  spent_with k = record { session = k.session; events = k.events; there = k.there; used = k.used; more = k.more }

  spent_without : IsSpent w budget (with_traffic run t) → IsSpent w budget run
  spent_without k = record { session = k.session; events = k.events; there = k.there; used = k.used; more = k.more }

-- ---- what was written

-- what stands among the first of a list stands in it
first_contains : (n : ℕ) (ts : List Told) (x : Told) → Contains (take n ts) x → Contains ts x
first_contains n ts x k =
    subst (λ (l : List Told). Contains l x) (take-append-drop n ts) (Contains-append_left (take n ts) (drop n ts) x k)

below_next : (m n j : ℕ) → m ≡ n → n ≡ suc j → j < m
below_next m n j e h = omega (arith, e, h)

one_before : (m j : ℕ) → m ≡ suc j → j ≡ m - 1
one_before m j e = omega (arith, e)

-- the outside of a front over lines, with the doors, which it leaves alone, and the link
abbrev pub outside_of : DoorsTold → Sides → LinkTold → Outside
outside_of doors s link = record {
  source = record { unread = s.input.left; faults = s.input.faults };
  output = s.output.lines;
  notes = s.output.notes;
  doors = doors;
  link = link;
}

module _ {new : Exchange} (t : Task) (first now : Sides) (d : Exchange) (finished : Finished)
    (ran : Ran (rules_of t) t.text new d finished) (f : HasExchanged t.parts first now d) where
  -- the history
  abbrev h : List Entry
  h = finished.report.history.entries.items

  -- what came in
  abbrev came : List Came
  came = came_in now.input

  -- the order in which it was answered
  abbrev order : List ℕ
  order = order_alone (run_of t.parts) h first_worker (length came)

  -- what came in was posted
  posted_so : posts_by first_worker h ≡ posts_of 0 (map posting_of came)
  posted_so = ran.exchanged.posted ∙ ap (posts_of 0) f.received.given

  -- the places that were told of are in order
  in_order : map (λ (x : Told). x.place) d.sent.told ≡ order
  in_order =
      ran.exchanged.order
      ∙ ap (order_alone (run_of t.parts) h first_worker) (ap length f.received.given ∙ length-map came posting_of)

  -- the lines that were told are the answers
  answers : lines_told t.parts came d.sent.told ≡ lines_in (run_of t.parts) h came order
  answers =
      lines_told-of (run_of t.parts) (past_of (run_of t.parts) h) came d.sent.told
      (λ x k. subst (λ ps. IsTold (run_of t.parts) (past_of (run_of t.parts) h) ps x) f.received.given (ran.exchanged.told x k))
      ∙ ap (lines_in (run_of t.parts) h came) in_order

  -- ---- what was written by the last posting

  given_long : length d.received.given ≡ length came
  given_long = ap length f.received.given ∙ length-map came posting_of

  -- the answers of what is finished before a posting
  abbrev answers_before : ℕ → List ℕ
  answers_before j = lines_in (run_of t.parts) h came (finished_before (run_of t.parts) h (length came) j)

  -- what was finished before the last posting was written
  before_last : (j : ℕ) → length came ≡ suc j → IsPrefix (answers_before j) now.output.written
  before_last j long =
      let n : ℕ = get_or d.received.seens j 0 in
      let at : slice_get d.received.seens j ≡ Some n =
      slice_get-get_or d.received.seens j 0 (below_next (length d.received.seens) (length came) j (ran.exchanged.asked ∙ given_long) long) in
      let lines : lines_told t.parts came (take n d.sent.told) ≡ answers_before j =
      lines_told-of (run_of t.parts) (past_of (run_of t.parts) h) came (take n d.sent.told)
      (λ x k. subst (λ ps. IsTold (run_of t.parts) (past_of (run_of t.parts) h) ps x) f.received.given
      (ran.exchanged.told x (first_contains n d.sent.told x k)))
      ∙ ap (lines_in (run_of t.parts) h came)
      (ran.exchanged.told_before j n at ∙ ap (λ c. finished_before (run_of t.parts) h c j) given_long) in
      subst (λ (l : List ℕ). IsPrefix l now.output.written) lines (f.by_then j n at).1

  -- what is noted before the last posting was noted
  noted_early_so : (j : ℕ) → length came ≡ suc j → IsPrefix (noted_before (run_of t.parts) h j) f.sent.notes
  noted_early_so j long =
      IsPrefix-trans (noted_before (run_of t.parts) h j) d.received.noted f.sent.notes
      (subst (λ (k : ℕ). IsPrefix (noted_before (run_of t.parts) h k) d.received.noted)
      (sym (one_before (length d.received.given) j (given_long ∙ long))) ran.exchanged.noted_then)
      f.noted_by_then

  -- the lines that are due
  abbrev due : List ℕ
  due = lines_in (run_of t.parts) h came order

  -- ---- what became of the sinks

  -- whether the output failed, with the notes that did or did not: nothing is written behind the first that did
  record WereWritten : Type 0 where
    output : Bool
    lines : Failed output first.output.lines.faults now.output.lines.faults
    noting : Failed d.sent.notes_failed first.output.notes.faults now.output.notes.faults
    halted : d.sent.halted ≡ (output || d.sent.notes_failed)
    once : (output && d.sent.notes_failed) ≡ false
    written : MatchBool output (IsProperPrefix now.output.written due)
        (MatchBool d.sent.notes_failed (IsPrefix now.output.written due) (now.output.written ≡ due))
    entire : d.sent.notes_failed ≡ false → f.sent.notes ≡ notes (run_of t.parts) h
    in_part : d.sent.notes_failed ≡ true → IsProperPrefix f.sent.notes (notes (run_of t.parts) h)

  written_so : HasWritten first.output now.output d.sent.notes_failed f.sent.notes (record { lines = lines_told t.parts came d.sent.told; notes = d.sent.noted })
      → WereWritten
  written_so (entire running notes_unfailed lines_unfailed notes_silent written noted) = record {
    output = false;
    lines = lines_unfailed;
    noting = subst (λ m. Failed m first.output.notes.faults now.output.notes.faults) (sym notes_unfailed) notes_silent;
    halted = f.sent.halted ∙ running ∙ sym notes_unfailed;
    once = refl;
    written = subst (λ m. MatchBool m (IsPrefix now.output.written due) (now.output.written ≡ due)) (sym notes_unfailed) (written ∙ answers);
    entire = λ is. noted ∙ ran.exchanged.noted.1 notes_unfailed;
    in_part = λ is. absurd (true≢false (sym is ∙ notes_unfailed));
  }
  written_so (in_lines stopped notes_unfailed rose notes_silent noted part) = record {
    output = true;
    lines = rose;
    noting = subst (λ m. Failed m first.output.notes.faults now.output.notes.faults) (sym notes_unfailed) notes_silent;
    halted = f.sent.halted ∙ stopped;
    once = notes_unfailed;
    written = subst (IsProperPrefix now.output.written) answers part;
    entire = λ is. noted ∙ ran.exchanged.noted.1 notes_unfailed;
    in_part = λ is. absurd (true≢false (sym is ∙ notes_unfailed));
  }
  written_so (in_notes stopped notes_failed rose lines_unfailed written part) = record {
    output = false;
    lines = lines_unfailed;
    noting = subst (λ m. Failed m first.output.notes.faults now.output.notes.faults) (sym notes_failed) rose;
    halted = f.sent.halted ∙ stopped ∙ sym notes_failed;
    once = refl;
    written = subst (λ m. MatchBool m (IsPrefix now.output.written due) (now.output.written ≡ due)) (sym notes_failed)
        (subst (IsPrefix now.output.written) answers written);
    entire = λ is. absurd (true≢false (sym notes_failed ∙ is));
    in_part = λ is. IsProperPrefix-trans f.sent.notes d.sent.noted (notes (run_of t.parts) h) part ran.exchanged.noted.0;
  }

  -- the bytes that were read and written
  abbrev pub traffic : Traffic
  traffic = record { read = read_in now.input.passing; written = now.output.written }

  -- ---- which lines came in

  module _ (c : Causes) (before after : LinkTold) (doors : DoorsTold) where
    -- they did
    abbrev CameSo : Type 0
    CameSo = CameIn c (outside_of doors first before).source (outside_of doors now after).source traffic.read came

    module _ (is_running : d.sent.halted ≡ false) (running : halts c ≡ false) where
      -- there were the most lines
      full_so : now.input.faults ≡ first.input.faults → most_postings ≤ length came
          → came ≡ come_in (sent_lines (whole_lines now.input.passing.passed)) → CameSo
      full_so same many is =
          let most : most_postings ≤ length (come_in (sent_lines (whole_lines now.input.passing.passed))) =
          subst (λ (c : List Came). most_postings ≤ length c) is many in
          came_whole same running (inr (all_most now.input.passing most)) (is ∙ sym (all_full now.input.passing most))

      -- no posting was asked for any more, though there were more
      stopped_so : now.input.faults ≡ first.input.faults → d.received.ended ≡ false
          → came ≡ come_in (sent_lines (whole_lines now.input.passing.passed)) → IsOver d → CameSo
      stopped_so same open_yet is (inl ended) = absurd (true≢false (sym ended ∙ open_yet))
      stopped_so same open_yet is (inr (inl halted)) = absurd (true≢false (sym halted ∙ is_running))
      stopped_so same open_yet is (inr (inr (inl waits))) = absurd (let none : d.received.waits ≡ 0 = f.received.waits in omega arith)
      stopped_so same open_yet is (inr (inr (inr (inl moves)))) = absurd (let none : d.received.moves ≡ 0 = f.received.moves in omega arith)
      stopped_so same open_yet is (inr (inr (inr (inr many)))) =
          full_so same (subst (λ n. most_postings ≤ n) (ap length f.received.given ∙ length-map came posting_of) many) is

      whole_so : HasPassed first.input now.input d.received.ended → CameSo
      whole_so (some open_yet reading same is) = stopped_so same open_yet is ran.exchanged.over
      whole_so (last open_yet over same at_end is) = came_whole same running (inl at_end) is
      whole_so (whole over same at_end is) = came_whole same running (inl at_end) is
      whole_so (full over same many is) = full_so same (subst (λ n. most_postings ≤ n) (sym (length-map now.input.reads came_by)) many) is
      whole_so (cut over rose is) = came_cut rose running is

    module _ (stopped : halts c ≡ true) where
      -- those that were passed are the first of those that have their end
      passed_so : came ≡ come_in (sent_lines (whole_lines now.input.passing.passed)) → CameSo
      passed_so is =
          came_halted stopped
          (subst (λ c. IsPrefix c (come_in (sent_lines (whole_lines (read_in now.input.passing))))) (sym is) (whole_front now.input.passing))

      halted_so : HasPassed first.input now.input d.received.ended → CameSo
      halted_so (some open_yet reading same is) = passed_so is
      halted_so (last open_yet over same at_end is) = came_at_end stopped same at_end (subst (IsPrefix came) is (IsPrefix-all came))
      halted_so (whole over same at_end is) = came_at_end stopped same at_end (subst (IsPrefix came) is (IsPrefix-all came))
      halted_so (full over same many is) = passed_so is
      halted_so (cut over rose is) = came_halted stopped (subst (IsPrefix came) is (IsPrefix-all came))

    came_so : (b : Bool) → d.sent.halted ≡ b → halts c ≡ b → CameSo
    came_so true is has = halted_so has f.received.passed
    came_so false is has = whole_so is has f.received.passed

  -- ---- the run

  module _ (picked : TookPicks (rules_of t) t.picks finished.report) (failed : Bool) (fails : Fails failed first.input.faults now.input.faults)
      (before after : LinkTold) (travelled : Travelled (run_of t.parts) h before after) (doors : DoorsTold) where
    -- the status of the run, and its record
    abbrev pub ended : Ended
    ended = record { status = status_of failed d.sent.halted finished.spent; report = with_traffic finished.report traffic }

    -- the outside before and after
    abbrev pub a : Around
    a = record { before = outside_of doors first before; now = outside_of doors now after }

    module _ (k : WereWritten) where
      abbrev causes : Causes
      causes = record { source = failed; output = k.output; notes = d.sent.notes_failed; doors = false; spent = finished.spent }

      abbrev status_so : HasStatus a (IsSpent (run_of t.parts) t.budget ended.report) ended.status
      status_so = record {
        causes = causes;
        source = failed_so failed first.input.faults now.input.faults fails;
        output = k.lines;
        notes = k.noting;
        doors = refl;
        spent = (
          λ is. spent_with (run_of t.parts) t.budget finished.report traffic (ran.spent.0 is),
          λ more. ran.spent.1 (spent_without (run_of t.parts) t.budget finished.report traffic more),
        );
        is = ap (λ b. status_of failed b finished.spent) k.halted;
      }

      abbrev ran_so : RanProgram t a ended
      ran_so = record {
        status = status_so;
        run = run_with (run_of t.parts) t.budget finished.report traffic alone d.sent.notes_failed ran.run;
        program = ran.program;
        came = came;
        posted = posted_so;
        posters = ran.exchanged.posters;
        picks = picked;
        consoles = ran.consoles;
        noted = record { noted = f.sent.notes; written = f.sent.noted; entire = k.entire; in_part = k.in_part };
        noted_early = noted_early_so;
        trips = travelled;
      }

      by_writing : IsLined t a ended
      by_writing = record {
        ran = ran_so;
        doors = refl;
        no_doors = refl;
        once = k.once;
        traffic = traffic;
        one = refl;
        read = f.received.read;
        written = f.sent.written;
        came_in = came_so causes before after doors d.sent.halted refl (sym k.halted);
        due = due;
        answers = record { order = order; in_order = refl; lines = refl };
        answered = k.written;
        answered_early = before_last;
      }

    -- A run over lines leaves what it is to leave.
    pub lined_so : IsLined t a ended
    lined_so = by_writing (written_so f.sent.wrote)

-- ---- by other words

-- the outside by what tells it
abbrev pub read_from : {I K N : Type 0} (source : I → SourceTold) (output : K → SinkTold) (notes : N → SinkTold)
    → DoorsTold → LinkTold → I → K → N → Outside
read_from source output notes doors link i k n = record {
  source = source i;
  output = output k;
  notes = notes n;
  doors = doors;
  link = link;
}

-- a source that did not fail since it was what it is
pub fails_never : (failed : Bool) (count : ℕ) → failed ≡ false → Fails failed count count
fails_never failed count is = subst (λ b. Fails b count count) (sym is) refl

-- the end of a run by its parts
pub ended_by : (it : Ended) (n : ℕ) (run : Record) → it.status ≡ n → it.report ≡ run → record { status = n; report = run } ≡ it
ended_by it n run s r =
    ap (λ m. record { status = m; report = run }) (sym s) ∙ ap (λ x. record { status = it.status; report = x }) (sym r)

-- the record by the bytes of its traffic
pub with_traffic-by : (run : Record) (t : Traffic) (read written : List ℕ) → t.read ≡ read → t.written ≡ written
    → with_traffic run t ≡ with_traffic run (record { read = read; written = written })
with_traffic-by run t read written r w =
    ap (λ x. with_traffic run (record { read = x; written = t.written })) r
    ∙ ap (λ x. with_traffic run (record { read = read; written = x })) w

-- a run over lines by other names of its outside and its end
lined-as : (t : Task) (before first now later : Outside) (a b : Ended) → before ≡ first → now ≡ later → a ≡ b
    → IsLined t (record { before = before; now = now }) a → IsLined t (record { before = first; now = later }) b
lined-as t before first now later a b f l i k =
    subst (λ x. IsLined t (record { before = first; now = later }) x) i
    (subst (λ x. IsLined t (record { before = first; now = x }) a) l (subst (λ x. IsLined t (record { before = x; now = now }) a) f k))

-- a status by what it is of
pub status_by : (a b c d e : Bool) → a ≡ b → c ≡ d → status_of a c e ≡ status_of b d e
status_by a b c d e f h = ap (λ x. status_of x c e) f ∙ ap (λ x. status_of b x e) h

-- the whole by its parts
pub lined-by : {new : Exchange} (t : Task) (first now : Sides) (d : Exchange) (finished : Finished)
    (ran : Ran (rules_of t) t.text new d finished) (f : HasExchanged t.parts first now d)
    (picked : TookPicks (rules_of t) t.picks finished.report) (failed : Bool) (fails : Fails failed first.input.faults now.input.faults)
    (was is : LinkTold) (travelled : Travelled (run_of t.parts) finished.report.history.entries.items was is) (doors : DoorsTold)
    (before later : Outside) (it : Ended) (failing halting : Bool) (bytes : Traffic)
    → outside_of doors first was ≡ before → outside_of doors now is ≡ later → it.status ≡ status_of failing halting finished.spent
    → failing ≡ failed → halting ≡ d.sent.halted → it.report ≡ with_traffic finished.report bytes
    → bytes.read ≡ read_in now.input.passing → bytes.written ≡ now.output.written
    → IsLined t (record { before = before; now = later }) it
lined-by t first now d finished ran f picked failed fails was is travelled doors before later it failing halting bytes b l s failing_is halting_is r read written =
    lined-as t (outside_of doors first was) before (outside_of doors now is) later
    (record {
      status = status_of failed d.sent.halted finished.spent;
      report = with_traffic finished.report (record { read = read_in now.input.passing; written = now.output.written });
    }) it b l
    (ended_by it (status_of failed d.sent.halted finished.spent)
    (with_traffic finished.report (record { read = read_in now.input.passing; written = now.output.written }))
    (s ∙ status_by failing failed halting d.sent.halted finished.spent failing_is halting_is)
    (r ∙ with_traffic-by finished.report bytes (read_in now.input.passing) now.output.written read written))
    (lined_so t first now d finished ran f picked failed fails was is travelled doors)

-- the outside by other names of what tells it
pub outside_by : {I K N : Type 0} (source : I → SourceTold) (output : K → SinkTold) (notes : N → SinkTold) (doors : DoorsTold)
    (link : LinkTold) (a b : I) (k l : K) (m n : N)
    → a ≡ b → k ≡ l → m ≡ n → read_from source output notes doors link a k m ≡ read_from source output notes doors link b l n
outside_by source output notes doors link a b k l m n i j h =
    ap (λ x. read_from source output notes doors link x k m) i
    ∙ ap (λ x. read_from source output notes doors link b x m) j
    ∙ ap (λ x. read_from source output notes doors link b l x) h
