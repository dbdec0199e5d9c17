-- A poll of a connection goes as far as its wire goes.
use Rattle.std.proofs.Common.{◌&&◌, not, refl, ap, ◌∙◌, length}
use Rattle.conn_future.specs.Talking.{seen}
use Rattle.run_door_front.specs.Keeping.{ClientTold, asks}
use Rattle.run_door_front.proofs.PollingOne.{polled-pending, polled-over}
use Rattle.run_door_front.proofs.Moving.{moved-so, waited-pending, waited-over}
use Rattle.run_door_front.proofs.link.Client.poll.Goals as goal

pub returns-in-Pending : goal.returns-in-Pending
returns-in-Pending g c =
    let told = g.W.PollWire.told in
    let x = c.self.inside in
    let was : ClientTold = record { service = x.service; seen = seen x.task.kept (told x.task.wire); waits = (told x.task.wire).waits; in_a_row = (told x.task.wire).in_a_row; longest = (told x.task.wire).longest; pending = x.pending } in
    let y = c.poll.new.self in
    let now : ClientTold = record { service = x.service; seen = seen y.kept (told y.wire); waits = (told y.wire).waits; in_a_row = (told y.wire).in_a_row; longest = (told y.wire).longest; pending = x.pending } in (
      polled-pending was c.args.self.now now c.self.view_is refl refl
          (λ r. let all = c.poll.ensures.rests r in (all.0, ap told all.1)) c.poll.ensures.owes c.in-Pending.ensures.talks c.poll.ensures.longest c.poll.ensures.within
          c.in-Pending.ensures.ends,
      c.polled.ensures.asks ∙ ap (λ b. not b && asks now) c.asks-asked.ensures,
      moved-so was c.args.self.now now _ _ _ c.self.view_is (ap length c.read-read.ensures) (ap length c.written-written.ensures) c.polled.ensures.moved,
      waited-pending was c.args.self.now now c.self.view_is c.poll.ensures.row c.in-Pending.ensures.ends,
    )

pub returns-in-Ready-Ok : goal.returns-in-Ready-Ok
returns-in-Ready-Ok g c =
    let told = g.W.PollWire.told in
    let x = c.self.inside in
    let was : ClientTold = record { service = x.service; seen = seen x.task.kept (told x.task.wire); waits = (told x.task.wire).waits; in_a_row = (told x.task.wire).in_a_row; longest = (told x.task.wire).longest; pending = x.pending } in
    let y = c.poll.new.self in
    let now : ClientTold = record { service = x.service; seen = seen y.kept (told y.wire); waits = (told y.wire).waits; in_a_row = (told y.wire).in_a_row; longest = (told y.wire).longest; pending = x.pending } in (
      polled-over was c.args.self.now now c.self.view_is refl refl
          (λ r. let all = c.poll.ensures.rests r in (all.0, ap told all.1)) c.poll.ensures.owes c.in-Ready-Ok.ensures.talks c.poll.ensures.longest c.poll.ensures.within
          (rw c.in-Ready-Ok.field-0-is at c.in-Ready-Ok.ensures.ends),
      c.polled-in-Ready-Ok.ensures.asks ∙ ap (λ b. not b && asks now) c.asks-asked.ensures,
      moved-so was c.args.self.now now _ _ _ c.self.view_is (ap length c.read-read.ensures) (ap length c.written-written.ensures) c.polled-in-Ready-Ok.ensures.moved,
      waited-over c.args.self.now now (rw c.in-Ready-Ok.field-0-is at c.in-Ready-Ok.ensures.ends).1,
    )
