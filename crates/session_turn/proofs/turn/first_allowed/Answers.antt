-- Each strand is passed or done.
use Rattle.std.proofs.Common.{◌∙◌, ◌+◌, arith}
use Rattle.std.proofs.Math.Nat.{mod-lt}
use Rattle.std.proofs.Math.Logic.{∥∥₁_map}
use Rattle.session_turn.specs.Turns.{from_pick}
use Rattle.session_turn.proofs.Growing.{grew_on}
use Rattle.session_turn.proofs.Living.{kept_on}
use Rattle.session_turn.proofs.Looking.{enabled_still, first_done, passed_more}
use Rattle.session_turn.proofs.turn.first_allowed.Goals as goal

pub attempt-requires-clause-enabled : goal.attempt-requires-clause-enabled
attempt-requires-clause-enabled g c =
    let i = c.loop-k.invariant in
    enabled_still c.requires.enabled i.config i.service _ (mod-lt (c.args.pick + c.loop-k.k) (omega arith))

pub attempt-requires-clause-kept : goal.attempt-requires-clause-kept
attempt-requires-clause-kept g c =
    let i = c.loop-k.invariant in
    ∥∥₁_map c.requires.kept (λ k. (k.0, kept_on k.1 i.grew i.config i.service))

pub returns-in-Some-clause-first : goal.returns-in-Some-clause-first
returns-in-Some-clause-first g c =
    let i = c.loop-k.invariant in
    first_done (from_pick c.args.strands.now c.args.pick) c.loop-k.k c.loop-k-test.true i.grew i.config i.service i.passed
    (rw c.in-Some.is at c.in_ok-event.ensures.attempted)

pub loop-k-preserved : goal.loop-k-preserved
loop-k-preserved g c =
    let i = c.loop-k.invariant in
    let none = rw c.in-None.is at c.in_ok-event.ensures.attempted in
    record {
      pass = c.in_ok-event.ensures.pass;
      config = none.config ∙ i.config;
      service = none.service ∙ i.service;
      grew = grew_on i.grew none.grew;
      passed = passed_more (from_pick c.args.strands.now c.args.pick) c.loop-k.k i.grew i.config i.service i.passed none;
    }
