-- The connection is polled where it stands.
use Rattle.std.proofs.Common.{◌++◌, sym, ap, ◌∙◌, arith, append-nil}
use Rattle.run_door_front.proofs.PollingOne.{polled-at, newly-yes, newly-no}
use Rattle.run_door_front.proofs.polling.poll_at.Goals as goal

pub index_mut-requires : goal.index_mut-requires
index_mut-requires g c = omega (arith, c.requires, c.args.connections.now.ok.0)

pub returns-in_ok-push : goal.returns-in_ok-push
returns-in_ok-push g c =
    let l = c.index_mut.result.now in
    let m = c.poll.new.self in
    polled-at c.args.connections.now.items c.args.queue.now.items c.push.new.self.items c.args.number l m _ c.requires c.index_mut.ensures.value c.in_ok-moved.ensures.0
    (c.in_ok-push.ensures.items ∙ ap (λ ns. c.args.queue.now.items ++ ns) (sym (newly-yes c.args.number l m _ c.in_ok-moved.ensures.1 c.if-asks.true)))
    c.in_ok-moved.ensures.2 c.in_ok-moved.ensures.3

pub returns-else-asks : goal.returns-else-asks
returns-else-asks g c =
    let l = c.index_mut.result.now in
    let m = c.poll.new.self in
    polled-at c.args.connections.now.items c.args.queue.now.items c.args.queue.now.items c.args.number l m _ c.requires c.index_mut.ensures.value c.in_ok-moved.ensures.0
    (sym (append-nil c.args.queue.now.items) ∙ ap (λ ns. c.args.queue.now.items ++ ns) (sym (newly-no c.args.number l m _ c.in_ok-moved.ensures.1 c.if-asks.false)))
    c.in_ok-moved.ensures.2 c.in_ok-moved.ensures.3
