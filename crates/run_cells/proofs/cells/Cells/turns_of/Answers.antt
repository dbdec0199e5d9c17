-- Each turn that did something leaves less to do.
use Rattle.std.proofs.Common.{refl, sym, subst, ◌∙◌}
use Rattle.run_cells.specs.Awake.{IsOn}
use Rattle.run_cells.specs.declared.news.News.{News}
use Rattle.run_cells.proofs.Going.{less_did, stands_turn}
use Rattle.run_cells.proofs.Looping.{cells_there, turning_last, turning_more, turning_start}
use Rattle.run_cells.proofs.cells.Cells.turns_of.Goals as goal

pub turns-init : goal.turns-init
turns-init g c = record {
  work = c.requires.work;
  there = c.requires.there;
  program = refl;
  news = refl;
  awake = c.requires.awake;
  turns = turning_start _ _;
}

pub turns-preserved : goal.turns-preserved
turns-preserved g c =
    let i = c.turns.invariant in
    let e = c.in_ok-took.ensures in
    record {
      work = e.work;
      there = cells_there _ _ _ _ (stands_turn e.turn) i.there;
      program = e.program ∙ i.program;
      news = e.news ∙ i.news;
      awake = subst (λ (n : News). IsOn n.awake c.args.number) (sym e.news) i.awake;
      turns = turning_more _ i.turns (sym c.is_did-did.ensures ∙ c.if-not-did.false) e.turn e.work.team;
    }

pub turns-smaller : goal.turns-smaller
turns-smaller g c = less_did c.in_ok-took.ensures.turn (sym c.is_did-did.ensures ∙ c.if-not-did.false)

pub returns-then-not-did-clause-turns : goal.returns-then-not-did-clause-turns
returns-then-not-did-clause-turns g c =
    turning_last c.turns.invariant.turns (sym c.is_did-did.ensures ∙ c.if-not-did.true) c.in_ok-took.ensures.turn
