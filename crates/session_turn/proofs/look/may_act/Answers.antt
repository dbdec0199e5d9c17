-- What the search for an allowed event found, or that the session has ended.
use Rattle.std.proofs.lemmas.Result.{IfOk-weaker}
use Rattle.session_turn.specs.Lives.{moment}
use Rattle.session_turn.specs.Looks.{LookedAtAll, MayAct, looked}
use Rattle.session_turn.specs.Seen.{seat}
use Rattle.session_turn.proofs.Allowed.{ended_then}
use Rattle.session_turn.proofs.Turning.{enabled_of}
use Rattle.session_turn.proofs.look.may_act.Goals as goal

pub returns-then-ended-clause-exact : goal.returns-then-ended-clause-exact
returns-then-ended-clause-exact g c =
    ended_then c.ended.result c.if-ended.true c.ended.ensures.exact c.ended.ensures.spent

pub some_allowed-requires-clause-enabled : goal.some_allowed-requires-clause-enabled
some_allowed-requires-clause-enabled g c =
    let e = c.in_ok-strands.ensures in enabled_of c.requires.run c.as_slice.ensures e.spent e.exact e.rising

pub returns-clause-exact : goal.returns-clause-exact
returns-clause-exact g c =
    let e = c.in_ok-strands.ensures in
    let a = seat (g.D.Desk.office c.args.desk.now) c.args.player.number in
    let service = g.S.Session.service_of c.args.session.now in
    let config = g.S.Session.config_of c.args.session.now in
    let old = moment service config (g.D.Desk.seen c.args.pass.now) in
    let new = moment service config (g.D.Desk.seen c.some_allowed.new.pass) in
    IfOk-weaker c.some_allowed.result (LookedAtAll a c.as_slice.result.now old new) (MayAct a old new)
    (λ b h. looked c.as_slice.result.now b
    (enabled_of c.requires.run c.as_slice.ensures e.spent e.exact e.rising) h) c.some_allowed.ensures.exact
