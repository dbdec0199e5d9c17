-- The end is a call.
use Rattle.std.proofs.Common.{Some}
use Rattle.office_core.specs.declared.history.Act.TheVariants as act
use Rattle.office_plain.specs.Entries.{entry}
use Rattle.behaviour_tree.specs.declared.words.Need.TheVariants as need
use Rattle.office_sharing.specs.Named.{parts_by}
use Rattle.session_shared_turns.proofs.Calling.{called_on, err_grew, may_ask, on_pass}
use Rattle.session_shared_turns.proofs.Staying.{acts_still}
use Rattle.session_shared_turns.proofs.desk.SharedDeskDesk.end.Goals as goal

pub end-requires-clause-calls : goal.end-requires-clause-calls
end-requires-clause-calls g c = c.requires.pass.calls

pub end-requires-clause-acts : goal.end-requires-clause-acts
end-requires-clause-acts g c =
    acts_still (parts_by g.N.Naming.program) c.args.pass.now need.Finish
    (may_ask (parts_by g.N.Naming.program) c.args.pass.now c.args.session (need.Finish) c.requires.pass
    c.requires.may)

pub returns-clause-pass : goal.returns-clause-pass
returns-clause-pass g c =
    on_pass (parts_by g.N.Naming.program) c.end.new.pass c.requires.pass c.end.result
    (λ w past. Some (entry c.args.pass.now.number act.End)) c.end.ensures.told

pub returns-clause-ended : goal.returns-clause-ended
returns-clause-ended g c =
    called_on (parts_by g.N.Naming.program) c.end.new.pass c.requires.pass c.end.result act.End c.end.ensures.told

pub returns-clause-err : goal.returns-clause-err
returns-clause-err g c =
    err_grew (parts_by g.N.Naming.program) c.end.new.pass c.requires.pass c.end.result c.end.ensures.err
