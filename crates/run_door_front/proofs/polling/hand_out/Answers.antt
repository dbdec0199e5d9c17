-- The connection that asks is asked where it stands.
use Rattle.std.proofs.Common.{◌∙◌, arith}
use Rattle.run_door_front.proofs.Handing.{asking_within, asking_is, hands-so}
use Rattle.run_door_front.proofs.polling.hand_out.Goals as goal

pub index_mut-requires : goal.index_mut-requires
index_mut-requires g c = let within = asking_within c.args.connections.now.items c.args.number c.requires in omega (arith, within, c.args.connections.now.ok.0)

pub ask-requires : goal.ask-requires
ask-requires g c = (asking_is c.args.connections.now.items c.args.number c.index_mut.result.now c.requires c.index_mut.ensures.value).1

pub returns : goal.returns
returns g c =
    hands-so c.args.connections.now.items c.args.traffics.now.items c.push.new.self.items c.args.number c.len-place.result c.index_mut.result.now c.ask.new.self
    c.in_ok-posting.posting c.requires c.index_mut.ensures.value (c.len-place.ensures ∙ c.args.traffics.now.ok.0) c.in_ok-posting.ensures c.in_ok-push.ensures.items
