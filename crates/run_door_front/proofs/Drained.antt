-- What is due is written.
use Rattle.std.proofs.Common.{◌≡◌, ◌≢◌, refl, sym, ap, ap₂, ◌∙◌, subst, arith, ℕ, zero, suc, ◌+◌, ◌-◌, ◌^◌, ◌<◌, ◌≤◌, min, Bool, true, false, not, cond, ◌&&◌, ◌||◌, ◌⊎◌, inl, inr, List, [], ◌∷◌, ◌++◌, length, take, drop, set, get_or, nat_eq, nat_lt}
use Rattle.std.specs.List.{list_all}
use Rattle.std.proofs.lemmas.Bool.{ltb-true, ltb-false, true≢false}
use Rattle.std.proofs.lemmas.List.{length-drop, take_more, take_more_set, take_all, drop_more, drop-drop, drop-set-lt}
use Rattle.std.proofs.lemmas.List.Folds.{list_any-append}
use Rattle.outside_doors.specs.Counts.{added, has_ended}
use Rattle.run_theorem.specs.Lines.{most_waits}
use Rattle.conn_future.specs.declared.stage.Stage.{Stage}
use Rattle.conn_future.specs.declared.stage.Stage.TheVariants as Stages
use Rattle.conn_future.specs.Stages.{IsOver, IsUnanswered}
use Rattle.run_door_front.specs.Keeping.{ListenerTold, ClientTold, Keeping, stage_at, rests_at}
use Rattle.run_door_front.specs.NextSteps.{ClientsGoOn, IsPolled, rested_at, rested_first, rested_open, after_rest}
use Rattle.run_door_front.specs.Moving.{has_moved, any_moved, HasWaited}
use Rattle.run_door_front.specs.Draining.{writes_at, is_writing, any_writing, WritesOn, AreWritten, HasDrained, HaveDrained, HaveStayed, AreRested, most_rests, Drains}
use Rattle.run_door_front.proofs.Entries.{nat_eq_same, nat_eq_is}
use Rattle.run_door_front.proofs.Doors.{not_fallen, not_fallen-added, fallen_further}
use Rattle.run_door_front.proofs.Links.{client-same, clients-same, clients-further}
use Rattle.run_door_front.proofs.Moving.{or_further}
use Rattle.run_door_front.proofs.Resting.{rests-rested}

pub writes_is : (s : Stage) → writes_at s ≡ true → s ≡ Stages.Writes
writes_is Stages.Reads e = absurd (true≢false (sym e))
writes_is Stages.Asks e = absurd (true≢false (sym e))
writes_is Stages.Owes e = absurd (true≢false (sym e))
writes_is Stages.Writes e = refl
writes_is Stages.Ended e = absurd (true≢false (sym e))
writes_is Stages.Closed e = absurd (true≢false (sym e))
writes_is Stages.ReadFailed e = absurd (true≢false (sym e))
writes_is Stages.WriteFailed e = absurd (true≢false (sym e))
writes_is Stages.Spent e = absurd (true≢false (sym e))

writes_not : (s : Stage) → writes_at s ≡ false → s ≢ Stages.Writes
writes_not s e is = true≢false (sym (ap writes_at is) ∙ e)

-- ---- one connection

-- one on which no text goes out stays
pub writes-same : (l : ClientTold) → is_writing l ≡ false → WritesOn l l
writes-same l e = record {
  goes = client-same l;
  idle = λ _. refl;
  wrote = λ w. w;
  waits = λ w. absurd (true≢false (sym w ∙ e));
  row = λ w still. absurd (true≢false (sym w ∙ e));
}

-- one that was polled and writes could move nothing
pub writes-polled : (l m : ClientTold) → is_writing l ≡ true → IsPolled l m → HasWaited l m → WritesOn l m
writes-polled l m writes p waited = record {
  goes = p.goes;
  idle = λ still. absurd (true≢false (sym writes ∙ still));
  wrote = λ w. writes;
  waits = λ w. one_more (added l.waits 1 ≤ m.waits) (writes_is (stage_at m) w) p.paused;
  row = λ w still. (one_more ((added l.waits 1 ≤ m.waits) × (added l.in_a_row 1 ≤ m.in_a_row)) (writes_is (stage_at m) w) (waited still)).1;
}
  where
    one_more : (More : Type 0) → stage_at m ≡ Stages.Writes → IsUnanswered (stage_at m) ⊎ (IsOver (stage_at m) ⊎ More) → More
    one_more More e (inl (inl asks)) = absurd (let clash : Stages.Writes ≡ Stages.Asks = sym e ∙ asks in cc)
    one_more More e (inl (inr owes)) = absurd (let clash : Stages.Writes ≡ Stages.Owes = sym e ∙ owes in cc)
    one_more More e (inr (inl (inl ended))) = absurd (let clash : Stages.Writes ≡ Stages.Ended = sym e ∙ ended in cc)
    one_more More e (inr (inl (inr (inl closed)))) = absurd (let clash : Stages.Writes ≡ Stages.Closed = sym e ∙ closed in cc)
    one_more More e (inr (inl (inr (inr (inl failed))))) = absurd (let clash : Stages.Writes ≡ Stages.ReadFailed = sym e ∙ failed in cc)
    one_more More e (inr (inl (inr (inr (inr failed))))) = absurd (let clash : Stages.Writes ≡ Stages.WriteFailed = sym e ∙ failed in cc)
    one_more More e (inr (inr more)) = more

-- ---- all connections

neither : (a b : Bool) → a || b ≡ false → (a ≡ false) × (b ≡ false)
neither true b e = absurd (true≢false e)
neither false b e = (refl, e)

written_go : (ms ns : List ClientTold) → AreWritten ms ns → ClientsGoOn ms ns
written_go [] [] w = tt
written_go [] (n ∷ ns) w = absurd w
written_go (m ∷ ms) [] w = absurd w
written_go (m ∷ ms) (n ∷ ns) w = (w.0.goes, written_go ms ns w.1)

-- those on which no text went out stay
pub stayed-same : (ls : List ClientTold) → HaveStayed ls ls
stayed-same [] = tt
stayed-same (l ∷ ls) = (λ _. refl, stayed-same ls)

stayed_further : (ls ms ns : List ClientTold) → HaveStayed ls ms → AreWritten ms ns → HaveStayed ls ns
stayed_further [] [] [] s w = tt
stayed_further [] [] (n ∷ ns) s w = w
stayed_further [] (m ∷ ms) ns s w = absurd s
stayed_further (l ∷ ls) [] ns s w = absurd s
stayed_further (l ∷ ls) (m ∷ ms) [] s w = w
stayed_further (l ∷ ls) (m ∷ ms) (n ∷ ns) s w =
    (λ still. w.0.idle (ap is_writing (s.0 still) ∙ still) ∙ s.0 still, stayed_further ls ms ns s.1 w.1)

none_stays : (ls ms : List ClientTold) → HaveStayed ls ms → any_writing ls ≡ false → any_writing ms ≡ false
none_stays [] [] s e = refl
none_stays [] (m ∷ ms) s e = absurd s
none_stays (l ∷ ls) [] s e = refl
none_stays (l ∷ ls) (m ∷ ms) s e =
    let both = neither (is_writing l) (any_writing ls) e in
    ap₂ (λ a b. a || b) (ap is_writing (s.0 both.0) ∙ both.0) (none_stays ls ms s.1 both.1)

-- where a text still goes out the wire could move nothing so often since, and so often in a row
abbrev pub HasRows : ℕ → ClientTold → ClientTold → Type 0
HasRows still l m = is_writing m ≡ true → (added l.waits still ≤ m.waits) × (still ≤ m.in_a_row)

-- the same of each
abbrev pub AllRows : ℕ → List ClientTold → List ClientTold → Type 0
AllRows still [] [] = Unit {0}
AllRows still [] (m ∷ ms) = ⊥
AllRows still (l ∷ ls) [] = ⊥
AllRows still (l ∷ ls) (m ∷ ms) = HasRows still l m × AllRows still ls ms

-- with any last value of their type
none_since : (a b cap : ℕ) → min a cap ≤ b → min (a + 0) cap ≤ b
none_since a b cap h = omega arith

rows_none : (ls ms : List ClientTold) → ClientsGoOn ls ms → AllRows 0 ls ms
rows_none [] [] g = tt
rows_none [] (m ∷ ms) g = g
rows_none (l ∷ ls) [] g = g
rows_none (l ∷ ls) (m ∷ ms) g = (λ w. (none_since l.waits m.waits (2 ^ 64 - 1) g.0.waits, omega arith), rows_none ls ms g.1)

-- with any last value of their type
row_more : (still row now most cap : ℕ) → still ≤ row → min (row + 1) cap ≤ now → suc still ≤ most → most ≤ cap → suc still ≤ now
row_more still row now most cap h k l m = omega arith

waits_more : (still was waits now cap : ℕ) → min (was + still) cap ≤ waits → min (waits + 1) cap ≤ now → min (was + suc still) cap ≤ now
waits_more still was waits now cap h k = omega arith

rows_more : (still most : ℕ) (ls ms ns : List ClientTold) → suc still ≤ most → most ≤ 2 ^ 64 - 1 → AllRows still ls ms → AreWritten ms ns
    → any_moved ms ns ≡ false → AllRows (suc still) ls ns
rows_more still most [] [] [] few small r w none = tt
rows_more still most [] [] (n ∷ ns) few small r w none = w
rows_more still most [] (m ∷ ms) ns few small r w none = absurd r
rows_more still most (l ∷ ls) [] ns few small r w none = absurd r
rows_more still most (l ∷ ls) (m ∷ ms) [] few small r w none = w
rows_more still most (l ∷ ls) (m ∷ ms) (n ∷ ns) few small r w none =
    let both = neither (has_moved m n) (any_moved ms ns) none in (
      λ e. let had = r.0 (w.0.wrote e) in (
        waits_more still l.waits m.waits n.waits (2 ^ 64 - 1) had.0 (w.0.waits e),
        row_more still m.in_a_row n.in_a_row most (2 ^ 64 - 1) had.1 (w.0.row e both.0) few small,
      ),
      rows_more still most ls ms ns few small r.1 w.1 both.1,
    )

-- no text goes out
none_writes : (ls ms : List ClientTold) → ClientsGoOn ls ms → any_writing ms ≡ false → HaveDrained ls ms
none_writes [] [] g e = tt
none_writes [] (m ∷ ms) g e = g
none_writes (l ∷ ls) [] g e = g
none_writes (l ∷ ls) (m ∷ ms) g e =
    let both = neither (is_writing m) (any_writing ms) e in
    (inl (writes_not (stage_at m) both.0), none_writes ls ms g.1 both.1)

-- or nothing moved for too long
all_still : (ls ms : List ClientTold) → AllRows most_waits ls ms → HaveDrained ls ms
all_still [] [] r = tt
all_still [] (m ∷ ms) r = r
all_still (l ∷ ls) [] r = r
all_still (l ∷ ls) (m ∷ ms) r = (at (is_writing m) refl, all_still ls ms r.1)
  where
    at : (b : Bool) → is_writing m ≡ b → HasDrained l m
    at true is = inr (r.0 is)
    at false is = inl (writes_not (stage_at m) is)

-- with any last value of their type
fewer_row : (still row now most cap : ℕ) → still ≡ most → still ≤ row → min (row + 1) cap ≤ now → most ≤ cap → most ≤ now
fewer_row still row now most cap e h k m = omega arith

fewer_waits : (still was waits now most cap : ℕ) → still ≡ most → min (was + still) cap ≤ waits → min (waits + 1) cap ≤ now → min (was + most) cap ≤ now
fewer_waits still was waits now most cap e h k = omega arith

rows_still : (still : ℕ) (ls ms ns : List ClientTold) → still ≡ most_waits → most_waits ≤ 2 ^ 64 - 1 → AllRows still ls ms → AreWritten ms ns
    → any_moved ms ns ≡ false → AllRows most_waits ls ns
rows_still still [] [] [] is small r w none = tt
rows_still still [] [] (n ∷ ns) is small r w none = w
rows_still still [] (m ∷ ms) ns is small r w none = absurd r
rows_still still (l ∷ ls) [] ns is small r w none = absurd r
rows_still still (l ∷ ls) (m ∷ ms) [] is small r w none = w
rows_still still (l ∷ ls) (m ∷ ms) (n ∷ ns) is small r w none =
    let both = neither (has_moved m n) (any_moved ms ns) none in (
      λ e. let had = r.0 (w.0.wrote e) in (
        fewer_waits still l.waits m.waits n.waits most_waits (2 ^ 64 - 1) is had.0 (w.0.waits e),
        fewer_row still m.in_a_row n.in_a_row most_waits (2 ^ 64 - 1) is had.1 (w.0.row e both.0) small,
      ),
      rows_still still ls ms ns is small r.1 w.1 both.1,
    )

-- ---- doors that are rested at

pub rested-same : (ps : List ListenerTold) → AreRested ps ps
rested-same [] = tt
rested-same (p ∷ ps) = (refl, not_fallen p.door.rests (2 ^ 64 - 1), not_fallen p.door.rests_in_a_row (2 ^ 64 - 1), rested-same ps)

rested_further : (ps qs rs : List ListenerTold) → AreRested ps qs → AreRested qs rs → AreRested ps rs
rested_further [] [] [] g h = tt
rested_further [] [] (r ∷ rs) g h = h
rested_further [] (q ∷ qs) rs g h = absurd g
rested_further (p ∷ ps) [] rs g h = absurd g
rested_further (p ∷ ps) (q ∷ qs) [] g h = h
rested_further (p ∷ ps) (q ∷ qs) (r ∷ rs) g h = (
  h.0 ∙ ap (λ (x : ListenerTold). record x { door = record x.door { rests = r.door.rests; rests_in_a_row = r.door.rests_in_a_row } }) g.0,
  fallen_further p.door.rests q.door.rests r.door.rests (2 ^ 64 - 1) g.1 h.1,
  fallen_further p.door.rests_in_a_row q.door.rests_in_a_row r.door.rests_in_a_row (2 ^ 64 - 1) g.2 h.2,
  rested_further ps qs rs g.3 h.3,
)

rested_one : (p : ListenerTold) (ps : List ListenerTold) → AreRested (p ∷ ps) (rested_at p ∷ ps)
rested_one p ps = (
  refl,
  not_fallen-added p.door.rests (added p.door.rests 1) refl,
  not_fallen-added p.door.rests_in_a_row (added p.door.rests_in_a_row 1) refl,
  rested-same ps,
)

rested_by_first : (ps : List ListenerTold) → AreRested ps (rested_first ps)
rested_by_first [] = tt
rested_by_first (p ∷ ps) = rested_one p ps

rested_by_open : (ps : List ListenerTold) → AreRested ps (rested_open ps)
rested_by_open [] = tt
rested_by_open (p ∷ ps) = at (rested_by_open ps) (has_ended p.door)
  where
    at : AreRested ps (rested_open ps) → (b : Bool) → AreRested (p ∷ ps) (cond b (p ∷ rested_open ps) (rested_at p ∷ ps))
    at rest true = (refl, not_fallen p.door.rests (2 ^ 64 - 1), not_fallen p.door.rests_in_a_row (2 ^ 64 - 1), rest)
    at rest false = rested_one p ps

rested_after : (ps : List ListenerTold) → AreRested ps (after_rest ps)
rested_after ps = at (list_all (λ (p : ListenerTold). has_ended p.door) ps)
  where
    at : (b : Bool) → AreRested ps (cond b (rested_first ps) (rested_open ps))
    at true = rested_by_first ps
    at false = rested_by_open ps

-- a door is left where there was one
rested_some : (ps qs : List ListenerTold) → AreRested ps qs → 0 < length ps → 0 < length qs
rested_some [] [] g some = some
rested_some [] (q ∷ qs) g some = absurd g
rested_some (p ∷ ps) [] g some = absurd g
rested_some (p ∷ ps) (q ∷ qs) g some = omega arith

-- ---- the loop

-- a count to which nothing was added
none_added : (w cap : ℕ) → min (w + 0) cap ≤ w
none_added w cap = omega arith

-- one more was added to a count
one_added : (n w m cap k : ℕ) → min (w + n) cap ≤ m → min (m + 1) cap ≤ k → min (w + suc n) cap ≤ k
one_added n w m cap k h more = omega arith

-- as many were added to a count as may be, or more
all_added : (n most w cap m : ℕ) → most ≤ n → min (w + n) cap ≤ m → min (w + most) cap ≤ m
all_added n most w cap m h more = omega arith

-- as many were added as are counted
cap_added : (n w cap m : ℕ) → n ≡ cap → min (w + n) cap ≤ m → cap ≤ m
cap_added n w cap m e h = omega arith

-- So many rests may still be made, of those that were made so many came in a row at the end, after each of which nothing
-- moved.
pub record Draining (left still : ℕ) (first doors : List ListenerTold) (ls ms : List ClientTold) : Type 0 where
  pub rests : ℕ
  pub counted : rests + left ≡ most_rests
  pub within : still ≤ rests
  pub bound : still ≤ most_waits
  pub rested : AreRested first doors
  pub since : 0 < length first → added (rests_at first) rests ≤ rests_at doors
  pub goes : ClientsGoOn ls ms
  pub stayed : HaveStayed ls ms
  pub idle : any_writing ls ≡ false → doors ≡ first
  pub rows : AllRows still ls ms

pub draining-none : (left : ℕ) (doors : List ListenerTold) (ls : List ClientTold) → left ≡ most_rests → Draining left 0 doors doors ls ls
draining-none left doors ls all = record {
  rests = 0;
  counted = zero_plus left ∙ all;
  within = omega arith;
  bound = omega arith;
  rested = rested-same doors;
  since = λ some. none_added (rests_at doors) (2 ^ 64 - 1);
  goes = clients-same ls;
  stayed = stayed-same ls;
  idle = λ _. refl;
  rows = rows_none ls ls (clients-same ls);
}
  where
    zero_plus : (n : ℕ) → 0 + n ≡ n
    zero_plus n = omega arith

-- the most rests are counted
small : most_waits ≤ 2 ^ 64 - 1
small = omega arith

counted-more : (rests left cap : ℕ) → rests + left ≡ cap → (left ≡ 0 → ⊥) → suc rests + (left - 1) ≡ cap
counted-more rests zero cap e some = absurd (some refl)
counted-more rests (suc left) cap e some = omega (arith, e)

counted-all : (rests left cap : ℕ) → rests + left ≡ cap → left ≡ 0 → rests ≡ cap
counted-all rests left cap e none = omega (arith, e, none)

module _ (left still : ℕ) (first doors : List ListenerTold) (ls ms ns : List ClientTold) (d : Draining left still first doors ls ms) (w : AreWritten ms ns)
    (moved : Bool) (is_moved : moved ≡ any_moved ms ns) where
  goes_now : ClientsGoOn ls ns
  goes_now = clients-further ls ms ns d.goes (written_go ms ns w)

  stayed_now : HaveStayed ls ns
  stayed_now = stayed_further ls ms ns d.stayed w

  -- a rest more
  pub draining-more : (quiet : Bool) → quiet ≡ (not moved && nat_eq still most_waits) → quiet ≡ false → (left ≡ 0 → ⊥) → (writes : Bool)
      → writes ≡ any_writing ns → writes ≡ true → (later : List ListenerTold) → later ≡ after_rest doors → (after : ℕ) → after ≡ cond moved 0 (suc still) → Draining (left - 1) after first later ls ns
  draining-more quiet is_quiet loud some_left writes is_writing some_writes later is after is_after =
      subst (λ n. Draining (left - 1) n first later ls ns) (sym is_after) (by_moved moved is_moved (sym is_quiet ∙ loud))
    where
      since_now : 0 < length first → added (rests_at first) (suc d.rests) ≤ rests_at later
      since_now some = one_added d.rests (rests_at first) (rests_at doors) (2 ^ 64 - 1) (rests_at later) (d.since some)
          (subst (λ ps. added (rests_at doors) 1 ≤ rests_at ps) (sym is) (rests-rested doors (rested_some first doors d.rested some)))

      idle_now : any_writing ls ≡ false → later ≡ first
      idle_now none = absurd (true≢false (sym some_writes ∙ is_writing ∙ none_stays ls ns stayed_now none))

      rested_now : AreRested first later
      rested_now = rested_further first doors later d.rested (subst (AreRested doors) (sym is) (rested_after doors))

      fewer : (a b : ℕ) → a ≤ b → nat_eq a b ≡ false → suc a ≤ b
      fewer a b h e = by_less (nat_lt a b) refl
        where
          same : (a b : ℕ) → a ≤ b → b ≤ a → a ≡ b
          same a b h k = omega arith

          by_less : (t : Bool) → nat_lt a b ≡ t → suc a ≤ b
          by_less true is = let less = ltb-true a b is in omega (arith, less)
          by_less false is =
              absurd (true≢false (sym (ap (nat_eq a) (sym (same a b h (ltb-false a b is))) ∙ nat_eq_same a) ∙ e))

      at_least : (a b : ℕ) → a ≤ b → suc a ≤ suc b
      at_least a b h = omega arith

      by_moved : (b : Bool) → b ≡ any_moved ms ns → not b && nat_eq still most_waits ≡ false → Draining (left - 1) (cond b 0 (suc still)) first later ls ns
      by_moved true so loud = record {
        rests = suc d.rests;
        counted = counted-more d.rests left most_rests d.counted some_left;
        within = omega arith;
        bound = omega arith;
        rested = rested_now;
        since = since_now;
        goes = goes_now;
        stayed = stayed_now;
        idle = idle_now;
        rows = rows_none ls ns goes_now;
      }
      by_moved false so loud =
          let few : suc still ≤ most_waits = fewer still most_waits d.bound loud in
          record {
            rests = suc d.rests;
            counted = counted-more d.rests left most_rests d.counted some_left;
            within = at_least still d.rests d.within;
            bound = few;
            rested = rested_now;
            since = since_now;
            goes = goes_now;
            stayed = stayed_now;
            idle = idle_now;
            rows = rows_more still most_waits ls ms ns few small d.rows w (sym so);
          }

  module _ (halted : Bool) (running : halted ≡ false) where
    -- no text goes out any more
    pub draining-written : (writes : Bool) → writes ≡ any_writing ns → writes ≡ false → Drains halted first doors ls ns
    draining-written writes is none = record {
      doors = d.rested;
      connections = goes_now;
      stayed = stayed_now;
      drained = λ _. inl (none_writes ls ns goes_now (sym is ∙ none));
      rests = λ _ writing. absurd (true≢false (sym writing ∙ sym is ∙ none));
      idle = λ _. d.idle;
      undone = λ stopped. absurd (true≢false (sym stopped ∙ running));
    }

    -- or it went on for too long
    pub draining-through : (left ≡ 0) ⊎ (not moved && nat_eq still most_waits ≡ true) → Drains halted first doors ls ns
    draining-through why = record {
      doors = d.rested;
      connections = goes_now;
      stayed = stayed_now;
      drained = λ _. drained_by why;
      rests = λ _ writing some. all_added d.rests most_waits (rests_at first) (2 ^ 64 - 1) (rests_at doors) (rests_by why) (d.since some);
      idle = λ _. d.idle;
      undone = λ stopped. absurd (true≢false (sym stopped ∙ running));
    }
      where
        both : (a b : Bool) → not a && b ≡ true → (a ≡ false) × (b ≡ true)
        both true b e = absurd (true≢false (sym e))
        both false b e = (refl, e)

        drained_by : (left ≡ 0) ⊎ (not moved && nat_eq still most_waits ≡ true) → HaveDrained ls ns ⊎ (0 < length first → most_rests ≤ rests_at doors)
        drained_by (inl none) = inr (λ some.
            cap_added d.rests (rests_at first) (2 ^ 64 - 1) (rests_at doors) (counted-all d.rests left most_rests d.counted none) (d.since some))
        drained_by (inr quiet) =
            let h = both moved (nat_eq still most_waits) quiet in
            inl (all_still ls ns (rows_still still ls ms ns (nat_eq_is still most_waits h.1) small d.rows w (sym is_moved ∙ h.0)))

        rests_by : (left ≡ 0) ⊎ (not moved && nat_eq still most_waits ≡ true) → most_waits ≤ d.rests
        rests_by (inl none) = let all = counted-all d.rests left most_rests d.counted none in most_before d.rests (2 ^ 64 - 1) all small
          where
            most_before : (a b : ℕ) → a ≡ b → most_waits ≤ b → most_waits ≤ a
            most_before a b e h = subst (λ n. most_waits ≤ n) (sym e) h
        rests_by (inr quiet) =
            subst (λ n. n ≤ d.rests) (nat_eq_is still most_waits (both moved (nat_eq still most_waits) quiet).1) d.within

-- a front that halted
pub draining-halted : (doors : List ListenerTold) (ls : List ClientTold) (halted : Bool) → halted ≡ true → Drains halted doors doors ls ls
draining-halted doors ls halted is = record {
  doors = rested-same doors;
  connections = clients-same ls;
  stayed = stayed-same ls;
  drained = λ running. absurd (true≢false (sym is ∙ running));
  rests = λ running. absurd (true≢false (sym is ∙ running));
  idle = λ running. absurd (true≢false (sym is ∙ running));
  undone = λ _. (refl, refl);
}

-- ---- what is lent and comes back

-- the doors and the connections that come back are those that were lent
pub drains-back : (before told : Keeping) (lent later back : List ListenerTold) (given now kept : List ClientTold) → told ≡ before → lent ≡ told.doors
    → given ≡ told.connections → back ≡ later → kept ≡ now → Drains told.halted lent later given now
    → Drains before.halted before.doors back before.connections kept
drains-back before told lent later back given now kept same lent_is given_is back_is kept_is drains =
    subst (λ (k : Keeping). Drains k.halted k.doors back k.connections kept) same
    (subst (λ ps. Drains told.halted ps back told.connections kept) lent_is
    (subst (λ ls. Drains told.halted lent back ls kept) given_is
    (subst (λ ps. Drains told.halted lent ps given kept) (sym back_is)
    (subst (λ ls. Drains told.halted lent later given ls) (sym kept_is) drains))))

-- ---- a loop over the connections

pub written-more : (ls ms : List ClientTold) (l m : ClientTold) → AreWritten ls ms → WritesOn l m → AreWritten (ls ++ l ∷ []) (ms ++ m ∷ [])
written-more [] [] l m a w = (w, tt)
written-more [] (y ∷ ms) l m a w = absurd a
written-more (x ∷ ls) [] l m a w = absurd a
written-more (x ∷ ls) (y ∷ ms) l m a w = (a.0, written-more ls ms l m a.1 w)

-- the same by the place of the connection
pub written-step : (ls ms : List ClientTold) (i : ℕ) (x m : ClientTold) → i < length ls → drop i ms ≡ drop i ls → AreWritten (take i ls) (take i ms)
    → WritesOn (get_or ms i x) m → AreWritten (take (i + 1) ls) (take (i + 1) (set ms i m))
written-step ls ms i x m inside rest a w =
    let long = ap length rest in
    let same : length ms ≡ length ls = as_long (length ms) (length ls) i (sym (length-drop i ms) ∙ long ∙ length-drop i ls) inside in
    let lt : i < length ms = subst (λ n. i < n) (sym same) inside in
    let ends : get_or ms i x ∷ drop (i + 1) ms ≡ get_or ls i x ∷ drop (i + 1) ls = sym (drop_more ms i x lt) ∙ rest ∙ drop_more ls i x inside in
    let here : get_or ms i x ≡ get_or ls i x = head_same (get_or ms i x) (get_or ls i x) (drop (i + 1) ms) (drop (i + 1) ls) ends in
    subst (λ xs. AreWritten xs (take (i + 1) (set ms i m))) (sym (take_more ls i x inside))
    (subst (λ ys. AreWritten (take i ls ++ get_or ls i x ∷ []) ys) (sym (take_more_set ms i m lt))
    (written-more (take i ls) (take i ms) (get_or ls i x) m a (subst (λ l. WritesOn l m) here w)))
  where
    as_long : (a b i : ℕ) → a - i ≡ b - i → i < b → a ≡ b
    as_long a b i e h = omega arith

    head_same : (x y : ClientTold) (xs ys : List ClientTold) → x ∷ xs ≡ y ∷ ys → x ≡ y
    head_same x y xs ys e = cc

pub left_as_was : (ls ms : List ClientTold) (i : ℕ) (m : ClientTold) → drop i ms ≡ drop i ls → drop (i + 1) (set ms i m) ≡ drop (i + 1) ls
left_as_was ls ms i m rest =
    let one : i < i + 1 = omega arith in
    drop-set-lt (i + 1) ms i m one ∙ sym (drop-drop 1 i ms) ∙ ap (drop 1) rest ∙ drop-drop 1 i ls

pub writing-step : (ls ms : List ClientTold) (i : ℕ) (m : ClientTold) (before one : Bool) → i < length ls → drop i ms ≡ drop i ls → before ≡ any_writing (take i ms)
    → one ≡ is_writing m → before || one ≡ any_writing (take (i + 1) (set ms i m))
writing-step ls ms i m before one inside rest was is =
    let long = ap length rest in
    let lt : i < length ms = within (length ms) (length ls) i (sym (length-drop i ms) ∙ long ∙ length-drop i ls) inside in
    ap₂ (λ a b. a || b) was (is ∙ or_false (is_writing m)) ∙ sym (list_any-append is_writing (take i ms) (m ∷ []))
    ∙ ap any_writing (sym (take_more_set ms i m lt))
  where
    within : (a b i : ℕ) → a - i ≡ b - i → i < b → i < a
    within a b i e h = omega arith

    or_false : (a : Bool) → a ≡ a || false
    or_false true = refl
    or_false false = refl

-- whether bytes moved on one more
any_push : (ls ms : List ClientTold) (l m : ClientTold) → AreWritten ls ms → any_moved (ls ++ l ∷ []) (ms ++ m ∷ []) ≡ (any_moved ls ms || has_moved l m)
any_push [] [] l m w = or_false (has_moved l m)
  where
    or_false : (a : Bool) → a || false ≡ a
    or_false true = refl
    or_false false = refl
any_push [] (y ∷ ms) l m w = absurd w
any_push (x ∷ ls) [] l m w = absurd w
any_push (x ∷ ls) (y ∷ ms) l m w = ap (λ b. has_moved x y || b) (any_push ls ms l m w.1) ∙ or_further (has_moved x y) (any_moved ls ms) (has_moved l m)

pub moving-step : (ls ms : List ClientTold) (i : ℕ) (x m : ClientTold) (before one : Bool) → i < length ls → drop i ms ≡ drop i ls
    → AreWritten (take i ls) (take i ms) → before ≡ any_moved (take i ls) (take i ms) → one ≡ has_moved (get_or ms i x) m
    → before || one ≡ any_moved (take (i + 1) ls) (take (i + 1) (set ms i m))
moving-step ls ms i x m before one inside rest a was is =
    let long = ap length rest in
    let same : length ms ≡ length ls = as_long (length ms) (length ls) i (sym (length-drop i ms) ∙ long ∙ length-drop i ls) inside in
    let lt : i < length ms = subst (λ n. i < n) (sym same) inside in
    let ends : get_or ms i x ∷ drop (i + 1) ms ≡ get_or ls i x ∷ drop (i + 1) ls = sym (drop_more ms i x lt) ∙ rest ∙ drop_more ls i x inside in
    let here : get_or ms i x ≡ get_or ls i x = head_same (get_or ms i x) (get_or ls i x) (drop (i + 1) ms) (drop (i + 1) ls) ends in
    ap₂ (λ a b. a || b) was (is ∙ ap (λ l. has_moved l m) here) ∙ sym (any_push (take i ls) (take i ms) (get_or ls i x) m a)
    ∙ ap₂ any_moved (sym (take_more ls i x inside)) (sym (take_more_set ms i m lt))
  where
    as_long : (a b i : ℕ) → a - i ≡ b - i → i < b → a ≡ b
    as_long a b i e h = omega arith

    head_same : (x y : ClientTold) (xs ys : List ClientTold) → x ∷ xs ≡ y ∷ ys → x ≡ y
    head_same x y xs ys e = cc

pub writes-end : (ls ms : List ClientTold) (i : ℕ) (writes moved : Bool) → length ls ≤ i → drop i ms ≡ drop i ls → writes ≡ any_writing (take i ms)
    → moved ≡ any_moved (take i ls) (take i ms)
    → AreWritten (take i ls) (take i ms) → (writes ≡ any_writing ms) × (moved ≡ any_moved ls ms) × AreWritten ls ms
writes-end ls ms i writes moved short rest was moving w =
    let past : length ms ≤ i = none_left (length ms) (length ls) i (sym (length-drop i ms) ∙ ap length rest ∙ length-drop i ls) short in (
      was ∙ ap any_writing (take_all i ms past),
      moving ∙ ap₂ any_moved (take_all i ls short) (take_all i ms past),
      subst (λ xs. AreWritten xs ms) (take_all i ls short) (subst (λ ys. AreWritten (take i ls) ys) (take_all i ms past) w),
    )
  where
    none_left : (a b i : ℕ) → a - i ≡ b - i → b ≤ i → a ≤ i
    none_left a b i e h = omega arith
