-- A strand stood still where nothing was given, and its event has happened where something was.
use Rattle.std.proofs.Common.{refl}
use Rattle.std.proofs.Math.Bool.{Bool-set}
use Rattle.std.proofs.Math.Logic.{∥∥₁_elim}
use Rattle.session_turn.specs.Seen.{seat}
use Rattle.session_turn.proofs.Giving.{asks_in, enabled_in, event_fits, formed_in, may_from, went_in}
use Rattle.session_turn.proofs.Looking.{has_happened, stood_still}
use Rattle.session_turn.proofs.attempt.attempt.Goals as goal

pub returns-in-None-clause-attempted : goal.returns-in-None-clause-attempted
returns-in-None-clause-attempted g c =
    stood_still (asks_in c.requires.run c.in_ok-need.ensures.asks) (rw c.in-None.is at c.in_ok-ask.ensures.asked) refl refl

pub returns-in_ok-event-in-Some-clause-attempted : goal.returns-in_ok-event-in-Some-clause-attempted
returns-in_ok-event-in-Some-clause-attempted g c =
    has_happened (asks_in c.requires.run c.in_ok-need.ensures.asks) (rw c.in-Some.is at c.in_ok-ask.ensures.asked)
    (went_in c.requires.run c.in_ok-event-in-Some.ensures.done) c.in_ok-event-in-Some.ensures.service

pub ask-requires-clause-may : goal.ask-requires-clause-may
ask-requires-clause-may g c =
    let asks = asks_in c.requires.run c.in_ok-need.ensures.asks in
    let well = formed_in c.requires.run c.args.player.program.now.well_formed in
    ∥∥₁_elim c.requires.kept (Bool-set _ _)
    (λ k. may_from (seat (g.D.Desk.office c.args.desk.now) c.args.player.number) (g.D.Desk.seen c.args.pass.now) asks
    (λ config gift done at is. c.sessions_may_ask.ensures.asks _ k.0 _ config _ gift done well k.1 at is))

pub need_of-requires : goal.need_of-requires
need_of-requires g c = record {
  enabled = enabled_in (g.S.Session.config_of c.args.session.now) (g.S.Session.service_of c.args.session.now) c.args.strand
      c.requires.run c.requires.enabled;
}

pub go_on-requires : goal.go_on-requires
go_on-requires g c = event_fits c.in_ok-need.ensures.asks (rw c.in-Some.is at c.in_ok-ask.ensures.asked)
