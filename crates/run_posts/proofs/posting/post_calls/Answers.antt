-- Call by call: what the next adds is its post.
use Rattle.std.proofs.Common.{◌∙◌, ◌+◌, List, refl, sym, ap, subst}
use Rattle.run_cells.specs.View.{state}
use Rattle.run_posts.specs.declared.pending.CallState.{CallState}
use Rattle.run_posts.proofs.Added.{IsPosting, posting_added, posting_call_states, posting_pushed, posting_starts}
use Rattle.run_posts.proofs.posting.post_calls.Goals as goal

pub loop-call-init : goal.loop-call-init
loop-call-init g c =
    let s = state g.S.Session c.args.cells.now in
    record {
      program = refl;
      work = c.requires.work;
      index = refl;
      posting =
          subst (λ (l : List CallState). IsPosting s s (c.args.posting, 0) c.args.calls.now l)
          (sym c.new-call_states.ensures.items)
          (posting_starts s c.args.posting c.args.calls.now);
    }

pub loop-call-preserved : goal.loop-call-preserved
loop-call-preserved g c =
    let s = state g.S.Session c.args.cells.now in
    let mid = state g.S.Session c.loop-call.cells in
    let new = state g.S.Session c.post_call.new.cells in
    let at = c.loop-call in
    record {
      program = c.post_call.ensures.program ∙ at.invariant.program;
      work = c.in_ok-call_state.ensures.work;
      index = ap (λ n. n + 1) at.invariant.index;
      posting =
          posting_pushed s mid new c.args.posting at.call-index c.in_ok-number.number c.args.calls.now c.call-item.result
          at.call_states.items _ c.in_ok-call_state.call_state (c.in_ok-number.ensures ∙ at.invariant.index) c.loop-call-test.true
          c.call-item.is c.in_ok-push.ensures.items c.in_ok-call_state.ensures.posted c.in_ok-call_state.ensures.call_state
          at.invariant.posting;
    }

pub returns-clause-posted : goal.returns-clause-posted
returns-clause-posted g c =
    let s = state g.S.Session c.args.cells.now in
    let at = c.loop-call in
    posting_added s (state g.S.Session at.cells) c.args.posting at.call-index c.args.calls.now at.call_states.items
    c.loop-call-test.false at.invariant.posting

pub returns-clause-call_states : goal.returns-clause-call_states
returns-clause-call_states g c =
    let s = state g.S.Session c.args.cells.now in
    let at = c.loop-call in
    posting_call_states s (state g.S.Session at.cells) c.args.posting at.call-index c.args.calls.now at.call_states.items
    c.loop-call-test.false at.invariant.posting
