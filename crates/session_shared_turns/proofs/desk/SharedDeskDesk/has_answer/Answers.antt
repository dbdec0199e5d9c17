-- A look finds the outcome that would be taken.
use Rattle.behaviour_tree.specs.declared.words.Need.TheVariants as need
use Rattle.office_sharing.specs.Named.{parts_by}
use Rattle.session_shared_turns.proofs.Calling.{may_ask, outcome_there, saw_grew, saw_pass}
use Rattle.session_shared_turns.proofs.Staying.{acts_still, wants_still}
use Rattle.session_shared_turns.proofs.desk.SharedDeskDesk.has_answer.Goals as goal

pub has_answer-requires-clause-calls : goal.has_answer-requires-clause-calls
has_answer-requires-clause-calls g c = c.requires.pass.calls

pub has_answer-requires-clause-acts : goal.has_answer-requires-clause-acts
has_answer-requires-clause-acts g c =
    acts_still (parts_by g.N.Naming.program) c.args.pass.now (need.Answer c.args.call)
    (may_ask (parts_by g.N.Naming.program) c.args.pass.now c.args.session (need.Answer c.args.call) c.requires.pass
    c.requires.may)

pub has_answer-requires-clause-wanted : goal.has_answer-requires-clause-wanted
has_answer-requires-clause-wanted g c =
    wants_still (parts_by g.N.Naming.program) c.args.pass.now c.args.call
    (may_ask (parts_by g.N.Naming.program) c.args.pass.now c.args.session (need.Answer c.args.call) c.requires.pass
    c.requires.may)

pub returns-clause-pass : goal.returns-clause-pass
returns-clause-pass g c =
    saw_pass (parts_by g.N.Naming.program) c.has_answer.new.pass c.requires.pass c.has_answer.ensures.saw

pub returns-clause-grew : goal.returns-clause-grew
returns-clause-grew g c =
    saw_grew (parts_by g.N.Naming.program) c.has_answer.new.pass c.requires.pass c.has_answer.ensures.saw

pub returns-clause-exact : goal.returns-clause-exact
returns-clause-exact g c =
    outcome_there (parts_by g.N.Naming.program) c.has_answer.new.pass c.requires.pass c.args.call c.has_answer.result
    c.has_answer.ensures.found
