-- One more came at the door, or nobody does.
use Rattle.std.proofs.Common.{refl, ap, ◌∙◌, ◌∷◌, ◌++◌, [], arith, true, false, inl}
use Rattle.run_door_front.proofs.Coming.{door-at, new_link-at, room-tested, takes-none, takes-next, accepts-one, accepts-tried}
use Rattle.run_door_front.proofs.accepting.accept_at.Goals as goal

pub loop-alloc-init : goal.loop-alloc-init
loop-alloc-init g c = record {
  takes = takes-none _ c.args.most c.args.door.now c.args.connections.now.items c.args.opened.now.items;
  rests = refl;
}

pub loop-alloc-preserved : goal.loop-alloc-preserved
loop-alloc-preserved g c =
    let w = c.in-Some.wire in
    let fits = c.ranges.most in
    record {
      takes = takes-next _ c.args.most c.args.door.now c.loop-alloc.door c.accept.new.self c.args.connections.now.items c.loop-alloc.connections.items c.push-in-Some.new.self.items
          c.args.opened.now.items c.loop-alloc.opened.items c.push.new.self.items
          c.new.result c.loop-alloc.invariant.takes c.accept.ensures.goes c.in-Some.ensures.wires
          (new_link-at _ (g.D.W.PollWire.told w).wire c.new.result (w, refl) c.in-Some.ensures.comes.fresh c.new.ensures.pending
          (c.new.ensures.row ∙ c.in-Some.ensures.comes.no_row) c.new.ensures.stage c.new.ensures.talks)
          c.new.ensures.stage
          (door-at (g.D.W.PollWire.told w) c.loop-alloc.door.door.place c.new.result c.in-Some.ensures.comes c.new.ensures.talks)
          (c.new.ensures.service ∙ c.service.ensures)
          (room-tested c.args.most _ _ c.len.result c.len-in-loop-alloc.result c.has_room.result true (c.len.ensures ∙ c.loop-alloc.connections.ok.0)
          (c.len-in-loop-alloc.ensures ∙ c.loop-alloc.opened.ok.0) c.has_room.ensures c.loop-alloc-test.true)
          (omega arith) c.in_ok-push-in-Some-2.ensures.items
          (c.in_ok-push-in-Some.ensures.items ∙ ap (λ n. c.loop-alloc.opened.items ++ n ∷ []) (c.len-in-Some.ensures ∙ c.loop-alloc.connections.ok.0));
      rests = c.accept.ensures.rests ∙ c.loop-alloc.invariant.rests;
    }

pub returns-in-None : goal.returns-in-None
returns-in-None g c = (
  accepts-tried _ c.args.most c.args.door.now c.loop-alloc.door c.accept.new.self c.args.connections.now.items c.loop-alloc.connections.items
      c.args.opened.now.items c.loop-alloc.opened.items c.loop-alloc.invariant.takes
      c.accept.ensures.goes c.in-None.ensures.wires c.in-None.ensures.nobody,
  c.accept.ensures.rests ∙ c.loop-alloc.invariant.rests,
)

pub returns : goal.returns
returns g c = (
  accepts-one _ c.args.most c.args.door.now c.loop-alloc.door c.args.connections.now.items c.loop-alloc.connections.items
      c.args.opened.now.items c.loop-alloc.opened.items c.loop-alloc.invariant.takes (inl (room-tested c.args.most _ _ c.len.result c.len-in-loop-alloc.result c.has_room.result false
      (c.len.ensures ∙ c.loop-alloc.connections.ok.0) (c.len-in-loop-alloc.ensures ∙ c.loop-alloc.opened.ok.0) c.has_room.ensures c.loop-alloc-test.false)),
  c.loop-alloc.invariant.rests,
)
