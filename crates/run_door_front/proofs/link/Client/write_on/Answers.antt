-- One on which a text goes out is polled.
use Rattle.std.proofs.Common.{sym, ◌∙◌}
use Rattle.run_door_front.proofs.Moving.{moved-none}
use Rattle.run_door_front.proofs.Drained.{writes-same, writes-polled}
use Rattle.run_door_front.proofs.link.Client.write_on.Goals as goal

pub returns-then-not-is_writing : goal.returns-then-not-is_writing
returns-then-not-is_writing g c = (
  sym (sym c.is_writing.ensures ∙ c.if-not-is_writing.true),
  sym (moved-none c.args.self.now),
  writes-same c.args.self.now (sym c.is_writing.ensures ∙ c.if-not-is_writing.true),
)

pub returns : goal.returns
returns g c = (
  c.is_writing-2.ensures,
  c.in_ok-polled.ensures.2,
  writes-polled c.args.self.now c.poll.new.self (sym c.is_writing.ensures ∙ c.if-not-is_writing.false) c.in_ok-polled.ensures.0 c.in_ok-polled.ensures.3,
)
