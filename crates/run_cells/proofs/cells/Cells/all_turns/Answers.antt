-- Session after session that is awake has its turns, until one was not born.
use Rattle.std.proofs.Common.{ap, false, length, zero-le, ◌∙◌}
use Rattle.run_cells.specs.RunStates.{State}
use Rattle.run_cells.proofs.Going.{stands_turns, there_comes}
use Rattle.run_cells.proofs.Looping.{came_below, came_here, came_less, came_nobody, turned_below}
use Rattle.run_cells.proofs.Looping.{rounding_at, rounding_next, rounding_over, rounding_skips, rounding_start}
use Rattle.run_cells.proofs.Skipping.{next_within, rests_after}
use Rattle.run_cells.proofs.Teams.{few_stands}
use Rattle.run_cells.proofs.cells.Cells.all_turns.Goals as goal

pub round-init : goal.round-init
round-init g c = record {
  work = c.in_ok-hear_all.ensures.work;
  heard = c.in_ok-hear_all.ensures.heard;
  within = zero-le;
  program = c.hear_all.ensures.program;
  round = rounding_at false c.in_ok-hear_all.ensures.same (rounding_start _);
}

pub turns_of-requires-clause-there : goal.turns_of-requires-clause-there
turns_of-requires-clause-there g c =
    came_below _ _ _ (there_comes (came_here c.in_ok-came.ensures.came c.if-not-came.false))

pub turns_of-requires-clause-awake : goal.turns_of-requires-clause-awake
turns_of-requires-clause-awake g c = c.in_ok-came.ensures.awake c.if-not-came.false

pub lay-requires-clause-there : goal.lay-requires-clause-there
lay-requires-clause-there g c =
    turned_below _ _ _ _ (there_comes (came_here c.in_ok-came.ensures.came c.if-not-came.false))
    (ap (λ (s : State). length s.stands) c.in_ok-hear_all-2.ensures.same ∙ stands_turns c.in_ok-did.ensures.turns)

pub lay-requires-clause-rests : goal.lay-requires-clause-rests
lay-requires-clause-rests g c = rests_after c.in_ok-did.ensures.turns c.in_ok-hear_all-2.ensures.same

pub round-preserved : goal.round-preserved
round-preserved g c =
    let i = c.round.invariant in
    let skip = c.skip-next.ensures in
    let came = c.in_ok-came.ensures in
    let went = c.in_ok-did.ensures in
    let left = c.lay.ensures in
    let same = left.same ∙ c.in_ok-hear_all-2.ensures.same in
    record {
      work = left.work;
      heard = left.heard;
      within = next_within _ _ _ _ (there_comes (came_here came.came c.if-not-came.false))
          (ap (λ (s : State). length s.stands) same ∙ stands_turns went.turns);
      program = left.program ∙ c.hear_all-in-round.ensures.program ∙ went.program ∙ came.program ∙ skip.program ∙ i.program;
      round = rounding_at c.either-both.result same
          (rounding_next c.round.moved c.either-both.result c.either-both.ensures
          (rounding_skips c.round.moved i.round skip.skipped)
          (came_here came.came c.if-not-came.false) went.turns);
    }

pub round-smaller : goal.round-smaller
round-smaller g c =
    let came = c.in_ok-came.ensures in
    came_less _ _ _ c.skip-next.ensures.skipped.rising (there_comes (came_here came.came c.if-not-came.false))
    (few_stands _ came.work.team)

pub returns-then-not-came-clause-went : goal.returns-then-not-came-clause-went
returns-then-not-came-clause-went g c =
    let nobody = came_nobody c.in_ok-came.ensures.came c.if-not-came.true in
    let at = c.round in
    rounding_over c.requires.work.team (rounding_skips at.moved at.invariant.round c.skip-next.ensures.skipped) nobody.0
    nobody.1
