-- Each strand is passed, or its event is allowed.
use Rattle.std.proofs.Common.{refl}
use Rattle.std.proofs.Math.Logic.{∥∥₁_map}
use Rattle.session_turn.proofs.Allowed.{allowed_then, more_passed, one_allowed, passed_then}
use Rattle.session_turn.proofs.Growing.{grew_on}
use Rattle.session_turn.proofs.Living.{kept_on}
use Rattle.session_turn.proofs.Looking.{enabled_still}
use Rattle.session_turn.proofs.look.some_allowed.Goals as goal

pub is_allowed-requires-clause-enabled : goal.is_allowed-requires-clause-enabled
is_allowed-requires-clause-enabled g c = enabled_still c.requires.enabled refl refl c.loop-k.k c.loop-k-test.true

pub is_allowed-requires-clause-kept : goal.is_allowed-requires-clause-kept
is_allowed-requires-clause-kept g c =
    ∥∥₁_map c.requires.kept (λ k. (k.0, kept_on k.1 c.loop-k.invariant.grew refl refl))

pub returns-then-allowed-clause-exact : goal.returns-then-allowed-clause-exact
returns-then-allowed-clause-exact g c =
    one_allowed c.loop-k.k c.loop-k-test.true (allowed_then c.in_ok-allowed.ensures.looked c.if-allowed.true)

pub loop-k-preserved : goal.loop-k-preserved
loop-k-preserved g c =
    let i = c.loop-k.invariant in
    let on = c.in_ok-allowed.ensures in
    record {
      pass = on.pass;
      grew = grew_on i.grew on.grew;
      passed = more_passed c.args.strands.now c.loop-k.k i.grew on.grew refl refl i.passed
          (passed_then on.looked c.if-allowed.false);
    }
