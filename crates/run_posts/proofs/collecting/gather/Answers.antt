-- Posting by posting: what is collected for the next is what it adds.
use Rattle.std.proofs.Common.{◌≡◌, ◌∙◌, [], length, map, List, refl, sym, ap, subst, arith, rules}
use Rattle.std.proofs.lemmas.List.{nil_from_length}
use Rattle.std.specs.Vec.Iter.{into_iter_items}
use Rattle.run_order_laws.specs.Uncollected.{AreUncollected}
use Rattle.run_cells.specs.RunStates.{past_in}
use Rattle.run_cells.specs.View.{state}
use Rattle.run_posts.specs.declared.pending.Pending.{Pending}
use Rattle.run_posts.specs.CallStates.{messages_of, wait_of}
use Rattle.run_posts.proofs.Settling.{IsGathering, front_of, gathering_added, gathering_starts}
use Rattle.run_posts.proofs.Settling.{gathering_pushed, gathering_waits}
use Rattle.run_posts.proofs.collecting.gather.Goals as goal

pub loop-pending-init : goal.loop-pending-init
loop-pending-init g c =
    let s = state g.S.Session c.args.cells.now in
    let all = map wait_of c.args.waiting.items in
    record {
      program = refl;
      ours = c.requires.ours;
      work = λ w. w;
      gathering =
          subst (λ (l : List Pending). IsGathering s s all (map wait_of l) (map wait_of c.new-all.result.items))
          (sym c.into_iter-pending-iterator.ensures.into_iter_gives.0)
          (subst (λ (l : List Pending). IsGathering s s all all (map wait_of l)) (sym c.new-all.ensures.items)
          (gathering_starts s all c.requires.collectable));
      left = search rules;
    }

pub settle_all-requires-clause-ours : goal.settle_all-requires-clause-ours
settle_all-requires-clause-ours g c = c.loop-pending.invariant.ours

pub settle_all-requires-clause-collectable : goal.settle_all-requires-clause-collectable
settle_all-requires-clause-collectable g c =
    let mid = state g.S.Session c.loop-pending.cells in
    front_of (past_in mid) (wait_of c.in-Some.pending) (map wait_of (into_iter_items c.next.new.self))
    (subst (λ (l : List Pending). AreUncollected (past_in mid) (messages_of (map wait_of l))) c.in-Some.ensures.steps.0
    c.loop-pending.invariant.gathering.open_yet)

pub loop-pending-preserved : goal.loop-pending-preserved
loop-pending-preserved g c =
    let s = state g.S.Session c.args.cells.now in
    let mid = state g.S.Session c.loop-pending.cells in
    let new = state g.S.Session c.settle_all.new.cells in
    let at = c.loop-pending in
    let all = map wait_of c.args.waiting.items in
    record {
      program = c.settle_all.ensures.program ∙ at.invariant.program;
      ours = c.settle_all.ensures.ours;
      work = λ w. c.in_ok-call_states.ensures.work (at.invariant.work w);
      gathering =
          gathering_pushed s mid new all c.in-Some.pending (into_iter_items at.pending-iterator)
          (into_iter_items c.next.new.self) at.all.items _ _ c.in-Some.ensures.steps.0 refl c.in_ok-call_states.ensures.collected
          c.in_ok-call_states.ensures.settled c.in_ok-push.ensures.items at.invariant.gathering;
      left =
          let was = at.invariant.left in
          let gone = c.in-Some.ensures.steps.1 in
          let short = ap length c.in-Some.ensures.steps.0 in
          omega arith;
    }

pub returns-clause-collected : goal.returns-clause-collected
returns-clause-collected g c =
    let s = state g.S.Session c.args.cells.now in
    let at = c.loop-pending in
    let all = map wait_of c.args.waiting.items in
    let empty : into_iter_items at.pending-iterator ≡ [] =
    nil_from_length (into_iter_items at.pending-iterator) (sym at.invariant.left ∙ c.in-None.ensures.steps.0) in
    gathering_added s (state g.S.Session at.cells) all (map wait_of at.all.items)
    (subst (λ (l : List Pending). IsGathering s (state g.S.Session at.cells) all (map wait_of l)
    (map wait_of at.all.items)) empty at.invariant.gathering)

pub returns-clause-settled : goal.returns-clause-settled
returns-clause-settled g c =
    let s = state g.S.Session c.args.cells.now in
    let at = c.loop-pending in
    let all = map wait_of c.args.waiting.items in
    let empty : into_iter_items at.pending-iterator ≡ [] =
    nil_from_length (into_iter_items at.pending-iterator) (sym at.invariant.left ∙ c.in-None.ensures.steps.0) in
    gathering_waits s (state g.S.Session at.cells) all (map wait_of at.all.items)
    (subst (λ (l : List Pending). IsGathering s (state g.S.Session at.cells) all (map wait_of l)
    (map wait_of at.all.items)) empty at.invariant.gathering)
