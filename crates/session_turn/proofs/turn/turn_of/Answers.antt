-- A turn does what the search for an allowed event did.
use Rattle.std.proofs.Common.{refl}
use Rattle.session_turn.proofs.Living.{kept_did, kept_idle}
use Rattle.session_turn.proofs.Turning.{did_event, enabled_of}
use Rattle.session_turn.proofs.turn.turn_of.Goals as goal

pub first_allowed-requires-clause-enabled : goal.first_allowed-requires-clause-enabled
first_allowed-requires-clause-enabled g c =
    let e = c.in_ok-strands.ensures in enabled_of c.requires.run c.as_slice.ensures e.spent e.exact e.rising

pub first_allowed-requires-clause-kept : goal.first_allowed-requires-clause-kept
first_allowed-requires-clause-kept g c = ∣ (c.args.events.now, c.requires.kept) ∣₁

pub returns-in-Some-clause-did : goal.returns-in-Some-clause-did
returns-in-Some-clause-did g c =
    let e = c.in_ok-strands.ensures in
    λ event q. did_event _ _ (enabled_of c.requires.run c.as_slice.ensures e.spent e.exact e.rising)
    (rw c.in-Some.is at c.in_ok-event.ensures.first) c.in_ok-push-in-Some.ensures.ok event (cc)

pub returns-in-Some-clause-kept : goal.returns-in-Some-clause-kept
returns-in-Some-clause-kept g c =
    kept_did (rw c.in-Some.is at c.in_ok-event.ensures.first) c.in_ok-push-in-Some.ensures.ok c.requires.kept

pub returns-clause-idle : goal.returns-clause-idle
returns-clause-idle g c =
    let e = c.in_ok-strands.ensures in
    λ _. (
      c.as_slice.result.now,
      enabled_of c.requires.run c.as_slice.ensures e.spent e.exact e.rising,
      rw c.in-None.is at c.in_ok-event.ensures.first,
      refl,
    )

pub returns-clause-kept : goal.returns-clause-kept
returns-clause-kept g c =
    kept_idle (rw c.in-None.is at c.in_ok-event.ensures.first) c.requires.kept
