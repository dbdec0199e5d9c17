-- Why a run over doors asked for no posting any more, and what of its notes was written.
use Rattle.std.proofs.Common.{◌≡◌, ◌<◌, ◌≤◌, ◌+◌, ◌-◌, ◌^◌, min, ℕ, suc, Bool, true, false, ◌||◌, List, [], ◌∷◌, length, map, take}
use Rattle.std.proofs.Common.{refl, sym, ap, subst, ◌∙◌, arith, ◌⊎◌, inl, inr, ⊎_elim, true≢false, nat_eq, nat_le, count_by, slice_get}
use Rattle.std.specs.List.{list_all, list_any}
use Rattle.std.specs.Io.KnownBytes.{Appends}
use Rattle.std.proofs.lemmas.List.Sums.{sum_by-cons}
use Rattle.outside_traits.specs.Causes.{Rose}
use Rattle.outside_doors.specs.Counts.{DoorTold, has_ended}
use Rattle.behaviour_tree.specs.Data.{ProgramParts}
use Rattle.office_core.specs.declared.history.Entry.{Entry}
use Rattle.office_core.specs.Limits.{Setting, run_of}
use Rattle.run_record.specs.Outside.{notes}
use Rattle.run_theorem.specs.Exchange.{Told, Sent, Exchange}
use Rattle.run_theorem.specs.Calls.{most_postings, is_of}
use Rattle.run_theorem.specs.Lines.{IsProperPrefix}
use Rattle.run_theorem.specs.Statuses.{Failed}
use Rattle.run_alone.specs.Ran.{Exchanged, AreNotes, IsOver, GaveNone, finished_early, most_waits, most_moves}
use Rattle.run_theorem.specs.RunConnections.{RunConnection}
use Rattle.outside_traits.specs.Told.{SinkTold, WireTold}
use Rattle.conn_future.specs.declared.stage.Stage.{Stage}
use Rattle.conn_future.specs.Stages.{IsOver as IsOverAt}
use Rattle.run_door_front.specs.Keeping.{ListenerTold, ClientTold, Keeping, no_more as no_more_kept, rests_at as rests_kept, stage_at, is_open_at}
use Rattle.run_door_front.specs.Keeping.{rests_in_a_row_at as rows_kept, is_quiet as is_quiet_kept}
use Rattle.run_door_front.specs.Exchanged.{Sides, AreClients, HasExchanged, HasNoted, entire, in_part, HadNone, PausedSo, row_of, is_full as is_full_kept}
use Rattle.run_door_front.specs.Exchanged.{HadNoAnswer as HadNoneYet, WerePaused as WerePausedThen}
use Rattle.run_doors.specs.Steps.{door_of, wire_of}
use Rattle.run_theorem.specs.Through.{HadNoAnswer, WerePaused, Pause, for_answer, for_wire, for_room, at_end, is_for_wire, is_unended, most_open}
use Rattle.run_theorem.specs.Through.{no_more, is_full, is_quiet, rests_at, rests_in_a_row_at, IsThrough, ended, quiet, most_rests}
use Rattle.run_theorem.specs.Used.{Used}
use Rattle.run_theorem.specs.Theorem.{AreNoted}
use Rattle.run_doors.proofs.Covered.{is_in}
use Rattle.run_doors.proofs.Lists.{any_map, all_map, proper_front}
use Rattle.run_doors.proofs.Serving.{as_many, given_long}

-- ---- notes

module _ (w : Setting) (h : List Entry) (first now : SinkTold) (s : Sent) (written : List ℕ) where
  -- where it did not halt, all of them
  pub entire_so : HasNoted first now s written → AreNotes s.halted s.noted (notes w h) → s.halted ≡ false
      → (written ≡ notes w h) × (now.faults ≡ first.faults)
  entire_so (entire running same is) all unfailed = (is ∙ all.1 unfailed, same)
  entire_so (in_part halted rose part) all unfailed = absurd (true≢false (sym halted ∙ unfailed))

  -- else a front of them
  pub part_so : HasNoted first now s written → AreNotes s.halted s.noted (notes w h) → s.halted ≡ true
      → IsProperPrefix written (notes w h) × Rose first.faults now.faults
  part_so (entire running same is) all stopped = absurd (true≢false (sym stopped ∙ running))
  part_so (in_part halted rose part) all stopped = (proper_front written s.noted (notes w h) part all.0, rose)

  abbrev pub noted_so : Appends first.written now.written written → HasNoted first now s written
      → AreNotes s.halted s.noted (notes w h) → AreNoted w h s.halted first now
  noted_so appends k all = record {
    noted = written;
    written = appends;
    entire = λ unfailed. (entire_so k all unfailed).0;
    in_part = λ halted. (part_so k all halted).0;
  }

  -- it halted exactly where their sink failed
  pub notes_failed_so : HasNoted first now s written → Failed s.halted first.faults now.faults
  notes_failed_so (entire running same is) = subst (λ b. Failed b first.faults now.faults) (sym running) same
  notes_failed_so (in_part halted rose part) = subst (λ b. Failed b first.faults now.faults) (sym halted) rose

-- ---- doors

-- whether no connection can come any more, by what the doors tell
no_more_is : (kept : Keeping) (connections : List RunConnection) (most : ℕ) → kept.most ≡ most → length kept.connections ≡ length connections
    → no_more_kept kept ≡ no_more most connections (map door_of kept.doors)
no_more_is kept connections most is long =
    ap (λ m. nat_le m (length kept.connections) || list_all (λ (p : ListenerTold). has_ended p.door) kept.doors) is
    ∙ ap (λ n. nat_le most n || list_all (λ (p : ListenerTold). has_ended p.door) kept.doors) long
    ∙ ap (λ b. nat_le most (length connections) || b) (sym (all_map has_ended door_of kept.doors))

-- whether nobody was let in, by the connections
full_is : (kept : Keeping) (connections : List RunConnection) (pauses : List Pause) (most : ℕ) → kept.most ≡ most
    → length kept.connections ≡ length connections → is_full_kept kept pauses ≡ is_full most connections pauses
full_is kept connections pauses most is long =
    ap (λ m. nat_le m (length kept.connections) || nat_le most_open (count_by is_unended pauses)) is
    ∙ ap (λ n. nat_le most n || nat_le most_open (count_by is_unended pauses)) long

-- so often in a row as a run looks
row_is : (n : ℕ) → n ≡ most_waits → min n (2 ^ 64 - 1) ≡ most_waits
row_is n is = omega (arith, is)

-- how often was rested, by what the doors tell
pub rests_by : (ports : List ListenerTold) → rests_at (map door_of ports) ≡ rests_kept ports
rests_by [] = refl
rests_by (p ∷ ps) =
    sum_by-cons (λ (door : DoorTold). door.rests) p.door (map door_of ps)
    ∙ ap (λ n. p.door.rests + n) (rests_by ps)
    ∙ sym (sum_by-cons (λ (q : ListenerTold). q.door.rests) p ps)

-- the same since somebody came last
rows_by : (ports : List ListenerTold) → rests_in_a_row_at (map door_of ports) ≡ rows_kept ports
rows_by [] = refl
rows_by (p ∷ ps) =
    sum_by-cons (λ (door : DoorTold). door.rests_in_a_row) p.door (map door_of ps)
    ∙ ap (λ n. p.door.rests_in_a_row + n) (rows_by ps)
    ∙ sym (sum_by-cons (λ (q : ListenerTold). q.door.rests_in_a_row) p ps)

-- so many are as many as are counted
all_rests : (moves rests : ℕ) → moves ≡ most_moves → min moves (2 ^ 64 - 1) ≤ rests → 2 ^ 64 - 1 ≤ rests
all_rests moves rests is least = omega (arith, is, least)

-- ---- connections

-- one that is open is not over
open_unended : (s : Stage) → is_open_at s ≡ true → IsOverAt s → ⊥
open_unended s yet (inl e) = true≢false (sym yet ∙ ap is_open_at e)
open_unended s yet (inr (inl e)) = true≢false (sym yet ∙ ap is_open_at e)
open_unended s yet (inr (inr (inl e))) = true≢false (sym yet ∙ ap is_open_at e)
open_unended s yet (inr (inr (inr e))) = true≢false (sym yet ∙ ap is_open_at e)

module _ {new : Exchange} (IsMade : WireTold → Type 0) (parts : ProgramParts) (h : List Entry) (first now : Sides) (d : Exchange)
    (f : HasExchanged IsMade parts first now d) (k : Exchanged (run_of parts) h new d) where
  -- the last request of a connection had no answer, by the history
  waited_for : GaveNone d → (n : ℕ) → HadNoneYet d n → HadNoAnswer (run_of parts) h f.all.asked n
  waited_for none n yet = record {
    place = yet.place;
    whose = yet.asked;
    there = ap (λ l. slice_get l yet.place) f.asked ∙ yet.there;
    traffic = yet.traffic;
    last = yet.last ∙ ap (count_by (is_of n)) (sym f.asked);
    unfinished =
        ap (λ c. is_in yet.place (finished_early (run_of parts) h c)) (sym (given_long IsMade parts h first now d f k))
        ∙ ap (is_in yet.place) (sym (k.seen none))
        ∙ any_map (nat_eq yet.place) (λ (t : Told). t.place) (take d.received.seen d.sent.told)
        ∙ yet.untold;
  }

  -- each connection paused so where nothing came any more
  quiet_so : GaveNone d → row_of d ≡ most_waits → (n : ℕ) (pauses : List Pause) (ls : List ClientTold) (vs : List RunConnection)
      → AreClients IsMade ls vs → WerePausedThen true d n pauses ls
      → WerePaused (HadNoAnswer (run_of parts) h f.all.asked) n pauses vs (map wire_of ls)
  quiet_so none row n [] [] [] a b = tt
  quiet_so none row n [] [] (v ∷ vs) a b = absurd a
  quiet_so none row n [] (l ∷ ls) vs a b = absurd b
  quiet_so none row n (x ∷ xs) [] vs a b = absurd b
  quiet_so none row n (x ∷ xs) (l ∷ ls) [] a b = absurd a
  quiet_so none row n (for_answer ∷ xs) (l ∷ ls) (v ∷ vs) a b = (waited_for none n b.0, quiet_so none row (suc n) xs ls vs a.1 b.1)
  quiet_so none row n (for_wire ∷ xs) (l ∷ ls) (v ∷ vs) a b = (
    (λ over. open_unended (stage_at l) b.0.0 (subst IsOverAt a.0.stage over), subst (λ m. m ≤ l.waits) row b.0.1, subst (λ m. m ≤ l.in_a_row) row b.0.2),
    quiet_so none row (suc n) xs ls vs a.1 b.1,
  )
  quiet_so none row n (for_room ∷ xs) (l ∷ ls) (v ∷ vs) a b =
      ((subst (λ m. m ≤ l.waits) row b.0.1, subst (λ m. m ≤ l.longest) row b.0.2), quiet_so none row (suc n) xs ls vs a.1 b.1)
  quiet_so none row n (at_end ∷ xs) (l ∷ ls) (v ∷ vs) a b = (subst IsOverAt (sym a.0.stage) b.0, quiet_so none row (suc n) xs ls vs a.1 b.1)

  -- each paused so where none paused for its wire
  ended_so : GaveNone d → (n : ℕ) (pauses : List Pause) (ls : List ClientTold) (vs : List RunConnection)
      → AreClients IsMade ls vs → list_any is_for_wire pauses ≡ false → WerePausedThen true d n pauses ls
      → WerePaused (HadNoAnswer (run_of parts) h f.all.asked) n pauses vs (map wire_of ls)
  ended_so none n [] [] [] a e b = tt
  ended_so none n [] [] (v ∷ vs) a e b = absurd a
  ended_so none n [] (l ∷ ls) vs a e b = absurd b
  ended_so none n (x ∷ xs) [] vs a e b = absurd b
  ended_so none n (x ∷ xs) (l ∷ ls) [] a e b = absurd a
  ended_so none n (for_answer ∷ xs) (l ∷ ls) (v ∷ vs) a e b = (waited_for none n b.0, ended_so none (suc n) xs ls vs a.1 e b.1)
  ended_so none n (for_wire ∷ xs) (l ∷ ls) (v ∷ vs) a e b = absurd (true≢false e)
  ended_so none n (for_room ∷ xs) (l ∷ ls) (v ∷ vs) a e b = absurd (true≢false e)
  ended_so none n (at_end ∷ xs) (l ∷ ls) (v ∷ vs) a e b = (subst IsOverAt (sym a.0.stage) b.0, ended_so none (suc n) xs ls vs a.1 e b.1)

  module _ (opened : List Bool) (most : ℕ) (is_most : now.kept.most ≡ most) (paused : PausedSo true now.kept d) where
    -- what was done with doors and wires
    abbrev used : Used
    used = record { opened = opened; doors = map door_of now.kept.doors; wires = map wire_of now.kept.connections }

    many : length now.kept.connections ≡ length f.connections
    many = as_many IsMade now.kept.connections f.connections f.clients

    -- the front had none any more
    by_end : d.received.ended ≡ true → HadNone true now.kept d
        → IsThrough (HadNoAnswer (run_of parts) h f.all.asked) most f.connections used
    by_end is n =
        let over = n.over is in
        ended (record {
          pauses = n.pauses;
          each = ended_so (inl is) 0 n.pauses now.kept.connections f.connections f.clients over.1 n.each;
          closed = sym (no_more_is now.kept f.connections most is_most many) ∙ over.0;
          none_for_wire = over.1;
        })

    some_waits : (n : ℕ) → n ≡ most_waits → 0 < n
    some_waits n is = omega (arith, is)

    -- it found nothing as often in a row as a run looks
    by_quiet : d.received.waits ≡ most_waits → HadNone true now.kept d
        → IsThrough (HadNoAnswer (run_of parts) h f.all.asked) most f.connections used
    by_quiet waits n =
        let row : row_of d ≡ most_waits = row_is d.received.waits waits in
        quiet (record {
          pauses = n.pauses;
          each = quiet_so (inr (some_waits d.received.waits waits)) row 0 n.pauses now.kept.connections f.connections f.clients n.each;
          rests = subst (λ r. most_waits ≤ r) (sym (rows_by now.kept.doors)) (subst (λ m. m ≤ rows_kept now.kept.doors) row n.rested);
          doors =
              ⊎_elim (λ full. inl (sym (full_is now.kept f.connections n.pauses most is_most many) ∙ full))
              (λ still. inr (all_map is_quiet door_of now.kept.doors ∙ subst (λ m. list_all (is_quiet_kept m) now.kept.doors ≡ true) row still))
              n.quiet;
        })

    -- there were the most looks at which something moved
    by_moves : d.received.moves ≡ most_moves → IsThrough (HadNoAnswer (run_of parts) h f.all.asked) most f.connections used
    by_moves moves =
        most_rests (subst (λ r. 2 ^ 64 - 1 ≤ r) (sym (rests_by now.kept.doors)) (all_rests d.received.moves (rests_kept now.kept.doors) moves f.moved))

    too_many : (n : ℕ) → length d.received.given ≡ n → n < most_postings → most_postings ≤ length d.received.given → ⊥
    too_many n is below full = omega (arith, is, below, full)

    -- Unless the front halted or there were the most postings, it went on until no more could come or nothing came.
    pub through_so : d.sent.halted ≡ false → length f.all.asked < most_postings
        → IsThrough (HadNoAnswer (run_of parts) h f.all.asked) most f.connections used
    through_so running below = by k.over
      where
        fewer : most_postings ≤ length d.received.given → ⊥
        fewer = too_many (length f.all.asked) (given_long IsMade parts h first now d f k) below

        with_none : GaveNone d → (HadNone true now.kept d → IsThrough (HadNoAnswer (run_of parts) h f.all.asked) most f.connections used)
            → IsThrough (HadNoAnswer (run_of parts) h f.all.asked) most f.connections used
        with_none none so = ⊎_elim so (λ full. absurd (fewer full)) (paused running none)

        by : IsOver d → IsThrough (HadNoAnswer (run_of parts) h f.all.asked) most f.connections used
        by (inl is) = with_none (inl is) (by_end is)
        by (inr (inl halted)) = absurd (true≢false (sym halted ∙ running))
        by (inr (inr (inl waits))) = with_none (inr (some_waits d.received.waits waits)) (by_quiet waits)
        by (inr (inr (inr (inl moves)))) = by_moves moves
        by (inr (inr (inr (inr full)))) = absurd (fewer full)
