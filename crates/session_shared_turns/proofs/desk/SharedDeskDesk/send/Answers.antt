-- A send is a call, placed where the office says.
use Rattle.office_core.specs.declared.history.Act.TheVariants as act
use Rattle.office_core.specs.declared.history.Placed.TheVariants as at
use Rattle.office_plain.specs.Entries.{replied_entry}
use Rattle.behaviour_tree.specs.declared.words.Need.TheVariants as need
use Rattle.office_sharing.specs.Named.{parts_by}
use Rattle.session_shared_turns.proofs.Calling.{err_grew, may_ask, on_pass, sent_on}
use Rattle.session_shared_turns.proofs.Staying.{acts_still, next_then}
use Rattle.session_shared_turns.proofs.desk.SharedDeskDesk.send.Goals as goal

pub send-requires-clause-calls : goal.send-requires-clause-calls
send-requires-clause-calls g c = c.requires.pass.calls

pub send-requires-clause-acts : goal.send-requires-clause-acts
send-requires-clause-acts g c =
    acts_still (parts_by g.N.Naming.program) c.args.pass.now
    (need.Send c.args.call c.args.port c.args.op c.args.value c.args.wants)
    (may_ask (parts_by g.N.Naming.program) c.args.pass.now c.args.session
    (need.Send c.args.call c.args.port c.args.op c.args.value c.args.wants) c.requires.pass c.requires.may)

pub send-requires-clause-next : goal.send-requires-clause-next
send-requires-clause-next g c =
    next_then (parts_by g.N.Naming.program) c.args.pass.now c.args.call c.args.port c.args.op c.args.value
    c.args.wants
    (may_ask (parts_by g.N.Naming.program) c.args.pass.now c.args.session
    (need.Send c.args.call c.args.port c.args.op c.args.value c.args.wants) c.requires.pass c.requires.may)

pub returns-clause-pass : goal.returns-clause-pass
returns-clause-pass g c =
    on_pass (parts_by g.N.Naming.program) c.send.new.pass c.requires.pass c.send.result
    (λ w past. replied_entry w past c.args.pass.now.number
    (act.Send c.args.call c.args.port c.args.op c.args.value c.args.wants at.Out)) c.send.ensures.told

pub returns-clause-sent : goal.returns-clause-sent
returns-clause-sent g c =
    sent_on (parts_by g.N.Naming.program) c.send.new.pass c.requires.pass c.send.result c.args.call c.args.port
    c.args.op c.args.value c.args.wants
    c.send.ensures.told

pub returns-clause-err : goal.returns-clause-err
returns-clause-err g c =
    err_grew (parts_by g.N.Naming.program) c.send.new.pass c.requires.pass c.send.result c.send.ensures.err
