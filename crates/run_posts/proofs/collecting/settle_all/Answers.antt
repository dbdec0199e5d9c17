-- Call by call: what is collected for the next is what it adds.
use Rattle.std.proofs.Common.{◌≡◌, ◌∙◌, [], length, List, refl, sym, ap, subst, arith, rules}
use Rattle.std.proofs.lemmas.List.{nil_from_length}
use Rattle.std.specs.Vec.Iter.{into_iter_items}
use Rattle.run_order_laws.specs.Uncollected.{AreUncollected}
use Rattle.run_cells.specs.RunStates.{past_in}
use Rattle.run_cells.specs.View.{state}
use Rattle.run_posts.specs.declared.pending.CallState.{CallState}
use Rattle.run_posts.specs.CallStates.{messages_in}
use Rattle.run_posts.proofs.Settling.{IsSettling, head_of, settling_added, settling_call_states, settling_pushed}
use Rattle.run_posts.proofs.Settling.{settling_starts}
use Rattle.run_posts.proofs.collecting.settle_all.Goals as goal

pub loop-call_state-init : goal.loop-call_state-init
loop-call_state-init g c =
    let s = state g.S.Session c.args.cells.now in
    record {
      program = refl;
      ours = c.requires.ours;
      work = λ w. w;
      settling =
          subst (λ (l : List CallState). IsSettling s s c.args.call_states.items l c.new-all.result.items)
          (sym c.into_iter-call_state-iterator.ensures.into_iter_gives.0)
          (subst (λ (l : List CallState). IsSettling s s c.args.call_states.items c.args.call_states.items l)
          (sym c.new-all.ensures.items)
          (settling_starts s c.args.call_states.items c.requires.collectable));
      left = search rules;
    }

pub settle-requires-clause-ours : goal.settle-requires-clause-ours
settle-requires-clause-ours g c = c.loop-call_state.invariant.ours

pub settle-requires-clause-collectable : goal.settle-requires-clause-collectable
settle-requires-clause-collectable g c =
    let mid = state g.S.Session c.loop-call_state.cells in
    head_of (past_in mid) c.in-Some.call_state (into_iter_items c.next.new.self)
    (subst (λ (l : List CallState). AreUncollected (past_in mid) (messages_in l)) c.in-Some.ensures.steps.0
    c.loop-call_state.invariant.settling.open_yet)

pub loop-call_state-preserved : goal.loop-call_state-preserved
loop-call_state-preserved g c =
    let s = state g.S.Session c.args.cells.now in
    let mid = state g.S.Session c.loop-call_state.cells in
    let new = state g.S.Session c.settle.new.cells in
    let at = c.loop-call_state in
    let rest = into_iter_items c.next.new.self in
    record {
      program = c.settle.ensures.program ∙ at.invariant.program;
      ours = c.settle.ensures.ours;
      work = λ w. c.in_ok-now.ensures.work (at.invariant.work w);
      settling =
          settling_pushed s mid new c.args.call_states.items
          (into_iter_items at.call_state-iterator) rest at.all.items _ c.in-Some.call_state
          c.in_ok-now.now c.in-Some.ensures.steps.0 c.in_ok-push.ensures.items c.in_ok-now.ensures.collected
          c.in_ok-now.ensures.settled at.invariant.settling;
      left =
          let was = at.invariant.left in
          let gone = c.in-Some.ensures.steps.1 in
          let short = ap length c.in-Some.ensures.steps.0 in
          omega arith;
    }

pub returns-clause-collected : goal.returns-clause-collected
returns-clause-collected g c =
    let s = state g.S.Session c.args.cells.now in
    let at = c.loop-call_state in
    let empty : into_iter_items at.call_state-iterator ≡ [] =
    nil_from_length (into_iter_items at.call_state-iterator) (sym at.invariant.left ∙ c.in-None.ensures.steps.0) in
    settling_added s (state g.S.Session at.cells) c.args.call_states.items at.all.items
    (subst (λ (l : List CallState). IsSettling s
    (state g.S.Session at.cells) c.args.call_states.items l at.all.items) empty
    at.invariant.settling)

pub returns-clause-settled : goal.returns-clause-settled
returns-clause-settled g c =
    let s = state g.S.Session c.args.cells.now in
    let at = c.loop-call_state in
    let empty : into_iter_items at.call_state-iterator ≡ [] =
    nil_from_length (into_iter_items at.call_state-iterator) (sym at.invariant.left ∙ c.in-None.ensures.steps.0) in
    settling_call_states s (state g.S.Session at.cells) c.args.call_states.items at.all.items
    (subst (λ (l : List CallState). IsSettling s
    (state g.S.Session at.cells) c.args.call_states.items l at.all.items) empty
    at.invariant.settling)
