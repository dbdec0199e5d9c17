-- What a look found is what the event of the strand asks for.
use Rattle.std.proofs.Common.{refl}
use Rattle.std.proofs.Math.Bool.{Bool-set}
use Rattle.std.proofs.Math.Logic.{∥∥₁_elim}
use Rattle.session_turn.specs.Seen.{seat}
use Rattle.session_turn.proofs.Allowed.{looked_ok}
use Rattle.session_turn.proofs.Giving.{asks_in, enabled_in, formed_in, may_from}
use Rattle.session_turn.proofs.look.is_allowed.Goals as goal

pub need_of-requires : goal.need_of-requires
need_of-requires g c = record {
  enabled = enabled_in (g.S.Session.config_of c.args.session.now) (g.S.Session.service_of c.args.session.now) c.args.strand
      c.requires.run c.requires.enabled;
}

pub is_there-requires-clause-may : goal.is_there-requires-clause-may
is_there-requires-clause-may g c =
    let asks = asks_in c.requires.run c.in_ok-need.ensures.asks in
    let well = formed_in c.requires.run c.args.player.program.now.well_formed in
    ∥∥₁_elim c.requires.kept (Bool-set _ _)
    (λ k. may_from (seat (g.D.Desk.office c.args.desk.now) c.args.player.number) (g.D.Desk.seen c.args.pass.now) asks
    (λ config gift done at is. c.sessions_may_ask.ensures.asks _ k.0 _ config _ gift done well k.1 at is))

pub returns-clause-looked : goal.returns-clause-looked
returns-clause-looked g c =
    looked_ok c.is_there.result (asks_in c.requires.run c.in_ok-need.ensures.asks) c.is_there.ensures.grew refl refl
    c.is_there.ensures.exact
