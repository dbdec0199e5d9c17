use Rattle.behaviour_tree.specs.PartsView.{operation_view, parts_of}
use Rattle.office_plain.proofs.Assembled.{starts_none, starts_one, opened_can, opened_lives}
use Rattle.office_plain.proofs.kept.Kept.start.Goals as goal

pub returns-then-not-message : goal.returns-then-not-message
returns-then-not-message c =
    starts_none (parts_of c.args.program.now) (operation_view c.args.operation.now) c.args.message.now c.args.self.now
    c.if-not-message.true

pub write_first-requires-clause-live : goal.write_first-requires-clause-live
write_first-requires-clause-live c =
    opened_lives (parts_of c.args.program.now) c.args.message.now.session c.args.message.now.service c.args.self.now
    c.open_session.new.self c.in_ok-open_session.ensures

pub write_first-requires-clause-free : goal.write_first-requires-clause-free
write_first-requires-clause-free c =
    opened_can (parts_of c.args.program.now) (operation_view c.args.operation.now) c.args.message.now c.args.self.now
    c.open_session.new.self c.in_ok-open_session.ensures c.requires.free c.if-not-message.false

pub returns : goal.returns
returns c =
    starts_one (parts_of c.args.program.now) (operation_view c.args.operation.now) c.args.message.now c.args.self.now
    c.open_session.new.self _ c.if-not-message.false (c.requires.unborn c.if-not-message.false) c.in_ok-open_session.ensures
    c.in_ok-write_first.ensures
