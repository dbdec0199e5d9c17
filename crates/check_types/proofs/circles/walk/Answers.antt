use Rattle.std.proofs.Common.{◌+◌, ◌<◌, Some, None, length, refl, sym, inl, inr, arith}
use Rattle.std.specs.Prelude.{slice_set}
use Rattle.check_types.specs.declared.circles.Mark.TheVariants.{Walked}
use Rattle.check_types.specs.Circles.{mark_at, next_place, unseen}
use Rattle.check_types.proofs.Marks.{unseen_is, unseen_less, some_unseen, known_at_start, came_at_start, walks_more, known_on, came_on, walks_on, seen_stays, start_on, start_at_end}
use Rattle.check_types.proofs.circles.walk.Goals as goal

pub loop-marks-init : goal.loop-marks-init
loop-marks-init c = record {
  place_in = c.requires.start_in;
  known = known_at_start (next_place c.args.types.now) (length c.args.types.now) c.args.marks.now c.args.start (Some c.args.start) c.requires.known;
  came = came_at_start (next_place c.args.types.now) c.args.marks.now c.args.start c.args.seen (Some c.args.start) c.requires.walks;
  walks = walks_more c.args.start c.args.marks.now c.requires.walks;
  counted = c.requires.counted;
  stays = λ p h. h;
  start_seen = inl refl;
}

pub overflow_add-step : goal.overflow_add-step
overflow_add-step c =
    let below : c.loop-marks.place < length c.loop-marks.marks = omega arith in
    let some = some_unseen c.loop-marks.marks c.loop-marks.place below (unseen_is (mark_at c.loop-marks.marks c.loop-marks.place) c.loop-marks-test.ensures) in
    omega (arith, c.loop-marks.invariant.counted, some)

pub loop-marks-preserved : goal.loop-marks-preserved
loop-marks-preserved c =
    let next = next_place c.args.types.now in
    let n = length c.args.types.now in
    let marks = c.loop-marks.marks in
    let i = c.loop-marks.place in
    let start = c.args.start in
    let step = c.loop-marks.step in
    let below : i < length marks = omega arith in
    let free = unseen_is (mark_at marks i) c.loop-marks-test.ensures in
    record {
      place_in = c.in-Some.ensures.within;
      known = known_on next n marks start step i (Some c.in-Some.next) below free c.in-Some.ensures.next c.loop-marks.invariant.known c.loop-marks.invariant.came;
      came = came_on next marks start step i (Some c.in-Some.next) below c.in-Some.ensures.next c.loop-marks.invariant.came;
      walks = walks_on (start + 1) marks i start step below (omega arith) c.loop-marks.invariant.walks;
      counted = let less = unseen_less marks i start step below free in omega (arith, less, c.loop-marks.invariant.counted);
      stays = seen_stays c.args.marks.now marks i (Walked start step) below refl c.loop-marks.invariant.stays;
      start_seen = inr (start_on marks start i start step below c.loop-marks.invariant.start_seen);
    }

pub loop-marks-smaller : goal.loop-marks-smaller
loop-marks-smaller c =
    let marks = c.loop-marks.marks in
    let i = c.loop-marks.place in
    let below : i < length marks = omega arith in
    let less = unseen_less marks i c.args.start c.loop-marks.step below (unseen_is (mark_at marks i) c.loop-marks-test.ensures) in
    let fewer : unseen (slice_set marks i (Walked c.args.start c.loop-marks.step)) < unseen marks = omega (arith, less) in
    fewer

pub returns-in-None : goal.returns-in-None
returns-in-None c =
    let next = next_place c.args.types.now in
    let n = length c.args.types.now in
    let marks = c.loop-marks.marks in
    let i = c.loop-marks.place in
    let start = c.args.start in
    let step = c.loop-marks.step in
    let below : i < length marks = omega arith in
    let free = unseen_is (mark_at marks i) c.loop-marks-test.ensures in
    record {
      known = known_on next n marks start step i None below free c.in-None.ensures.next c.loop-marks.invariant.known c.loop-marks.invariant.came;
      came = came_on next marks start step i None below c.in-None.ensures.next c.loop-marks.invariant.came;
      walks = walks_on (start + 1) marks i start step below (omega arith) c.loop-marks.invariant.walks;
      counted = let less = unseen_less marks i start step below free in omega (arith, less, c.loop-marks.invariant.counted);
      stays = seen_stays c.args.marks.now marks i (Walked start step) below refl c.loop-marks.invariant.stays;
      start_seen = start_on marks start i start step below c.loop-marks.invariant.start_seen;
      end_in = tt;
      end_seen = tt;
    }

pub returns : goal.returns
returns c =
    let seen = sym c.loop-marks-test.ensures in
    record {
      known = c.loop-marks.invariant.known;
      came = c.loop-marks.invariant.came;
      walks = c.loop-marks.invariant.walks;
      counted = c.loop-marks.invariant.counted;
      stays = c.loop-marks.invariant.stays;
      start_seen = start_at_end c.loop-marks.marks c.args.start c.loop-marks.place c.loop-marks.invariant.start_seen seen;
      end_in = c.loop-marks.invariant.place_in;
      end_seen = seen;
    }
