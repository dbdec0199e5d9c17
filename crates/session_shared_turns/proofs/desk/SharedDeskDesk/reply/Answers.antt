-- A request that a session took and did not answer is open still, whatever others do.
use Rattle.std.proofs.Common.{Some}
use Rattle.office_core.specs.declared.history.Act.TheVariants as act
use Rattle.office_plain.specs.Entries.{entry}
use Rattle.behaviour_tree.specs.declared.words.Need.TheVariants as need
use Rattle.office_sharing.specs.Named.{parts_by}
use Rattle.session_shared_turns.proofs.Calling.{called_on, err_grew, may_ask, on_pass}
use Rattle.session_shared_turns.proofs.Staying.{acts_still, open_then, took_then}
use Rattle.session_shared_turns.proofs.desk.SharedDeskDesk.reply.Goals as goal

pub reply-requires-clause-calls : goal.reply-requires-clause-calls
reply-requires-clause-calls g c = c.requires.pass.calls

pub reply-requires-clause-acts : goal.reply-requires-clause-acts
reply-requires-clause-acts g c =
    acts_still (parts_by g.N.Naming.program) c.args.pass.now (need.Reply c.args.message c.args.outcome)
    (may_ask (parts_by g.N.Naming.program) c.args.pass.now c.args.session (need.Reply c.args.message c.args.outcome)
    c.requires.pass c.requires.may)

pub reply-requires-clause-took : goal.reply-requires-clause-took
reply-requires-clause-took g c =
    took_then (parts_by g.N.Naming.program) c.args.pass.now c.args.message c.args.outcome
    (may_ask (parts_by g.N.Naming.program) c.args.pass.now c.args.session (need.Reply c.args.message c.args.outcome)
    c.requires.pass c.requires.may)

pub reply-requires-clause-open : goal.reply-requires-clause-open
reply-requires-clause-open g c =
    open_then (parts_by g.N.Naming.program) c.args.pass.now c.args.message c.args.outcome
    (may_ask (parts_by g.N.Naming.program) c.args.pass.now c.args.session (need.Reply c.args.message c.args.outcome)
    c.requires.pass c.requires.may)

pub returns-clause-pass : goal.returns-clause-pass
returns-clause-pass g c =
    on_pass (parts_by g.N.Naming.program) c.reply.new.pass c.requires.pass c.reply.result
    (λ w past. Some (entry c.args.pass.now.number (act.Reply c.args.message c.args.outcome))) c.reply.ensures.told

pub returns-clause-replied : goal.returns-clause-replied
returns-clause-replied g c =
    called_on (parts_by g.N.Naming.program) c.reply.new.pass c.requires.pass c.reply.result
    (act.Reply c.args.message c.args.outcome) c.reply.ensures.told

pub returns-clause-err : goal.returns-clause-err
returns-clause-err g c =
    err_grew (parts_by g.N.Naming.program) c.reply.new.pass c.requires.pass c.reply.result c.reply.ensures.err
