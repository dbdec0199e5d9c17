-- The answer that a session takes is the outcome of its call.
use Rattle.std.proofs.Common.{◌≡◌}
use Rattle.office_core.specs.Calls.{result}
use Rattle.office_plain.specs.Entries.{answer_entry}
use Rattle.behaviour_tree.specs.declared.words.Need.TheVariants as need
use Rattle.office_sharing.specs.Named.{parts_by}
use Rattle.session_shared_turns.proofs.Calling.{answered_ok, err_grew, may_ask, told_pass}
use Rattle.session_shared_turns.proofs.Staying.{acts_still, wants_still}
use Rattle.session_shared_turns.proofs.desk.SharedDeskDesk.take_answer.Goals as goal

pub take_answer-requires-clause-calls : goal.take_answer-requires-clause-calls
take_answer-requires-clause-calls g c = c.requires.pass.calls

pub take_answer-requires-clause-acts : goal.take_answer-requires-clause-acts
take_answer-requires-clause-acts g c =
    acts_still (parts_by g.N.Naming.program) c.args.pass.now (need.Answer c.args.call)
    (may_ask (parts_by g.N.Naming.program) c.args.pass.now c.args.session (need.Answer c.args.call) c.requires.pass
    c.requires.may)

pub take_answer-requires-clause-wanted : goal.take_answer-requires-clause-wanted
take_answer-requires-clause-wanted g c =
    wants_still (parts_by g.N.Naming.program) c.args.pass.now c.args.call
    (may_ask (parts_by g.N.Naming.program) c.args.pass.now c.args.session (need.Answer c.args.call) c.requires.pass
    c.requires.may)

pub returns-clause-pass : goal.returns-clause-pass
returns-clause-pass g c =
    told_pass (parts_by g.N.Naming.program) c.take_answer.new.pass c.requires.pass c.take_answer.result
    (λ o w past. o ≡ result w past c.args.pass.now.number c.args.call)
    (λ o w past. answer_entry c.args.pass.now.number c.args.call o) c.take_answer.ensures.told

pub returns-clause-taken : goal.returns-clause-taken
returns-clause-taken g c =
    answered_ok (parts_by g.N.Naming.program) c.take_answer.new.pass c.requires.pass c.args.call c.take_answer.result
    c.take_answer.ensures.told c.take_answer.ensures.none

pub returns-clause-err : goal.returns-clause-err
returns-clause-err g c =
    err_grew (parts_by g.N.Naming.program) c.take_answer.new.pass c.requires.pass c.take_answer.result
    c.take_answer.ensures.err
