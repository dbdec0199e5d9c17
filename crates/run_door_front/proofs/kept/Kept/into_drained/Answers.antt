-- What was drained comes back.
use Rattle.std.proofs.Common.{sym, ap, ◌∙◌}
use Rattle.run_door_front.specs.Keeping.{Keeping}
use Rattle.run_door_front.proofs.Lent.{written_all}
use Rattle.run_door_front.proofs.Drained.{drains-back}
use Rattle.run_door_front.proofs.kept.Kept.into_drained.Goals as goal

pub returns : goal.returns
returns g c =
    let x = c.self.inside in
    let told : Keeping = record {
      doors = x.doors.items;
      connections = x.connections.items;
      opened = x.opened.items;
      queue = x.queue.items;
      traffics = x.traffics.items;
      most = x.most;
      halted = x.halted;
      spent = x.spent;
    } in
    let parts = c.into_parts-doors.result in
    drains-back c.args.self told c.deref_mut.result.now c.drain.new.doors _ c.deref_mut-2.result.now c.drain.new.connections _ c.self.view_is
    (c.deref_mut.ensures.value ∙ c.into_parts-doors.ensures.doors ∙ sym (ap (λ (k : Keeping). k.doors) c.self.view_is))
    (c.deref_mut-2.ensures.value ∙ c.into_parts-doors.ensures.connections ∙ sym (ap (λ (k : Keeping). k.connections) c.self.view_is))
    (written_all parts.0.len c.drain.new.doors parts.0.items c.deref_mut.result.now parts.0.ok.0 c.deref_mut.ensures.value c.drain.auto.doors)
    (written_all parts.1.len c.drain.new.connections parts.1.items c.deref_mut-2.result.now parts.1.ok.0 c.deref_mut-2.ensures.value
    c.drain.auto.connections)
    c.in_ok-drain.ensures
