-- What a session takes is what the office gives it.
use Rattle.office_plain.specs.Entries.{take_entry}
use Rattle.office_plain.specs.Replies.{next_mail}
use Rattle.std.proofs.Common.{◌≡◌}
use Rattle.behaviour_tree.specs.declared.words.Need.TheVariants as need
use Rattle.office_sharing.specs.Named.{parts_by}
use Rattle.session_shared_turns.proofs.Calling.{err_grew, may_ask, taken_ok, told_pass}
use Rattle.session_shared_turns.proofs.Staying.{acts_still}
use Rattle.session_shared_turns.proofs.desk.SharedDeskDesk.take.Goals as goal

pub take-requires-clause-calls : goal.take-requires-clause-calls
take-requires-clause-calls g c = c.requires.pass.calls

pub take-requires-clause-acts : goal.take-requires-clause-acts
take-requires-clause-acts g c =
    acts_still (parts_by g.N.Naming.program) c.args.pass.now (need.Take c.args.ops.now)
    (may_ask (parts_by g.N.Naming.program) c.args.pass.now c.args.session (need.Take c.args.ops.now) c.requires.pass
    c.requires.may)

pub returns-clause-pass : goal.returns-clause-pass
returns-clause-pass g c =
    told_pass (parts_by g.N.Naming.program) c.take.new.pass c.requires.pass c.take.result
    (λ m w past. m ≡ next_mail past c.args.pass.now.number c.args.ops.now)
    (λ m w past. take_entry c.args.pass.now.number m) c.take.ensures.told

pub returns-clause-taken : goal.returns-clause-taken
returns-clause-taken g c =
    taken_ok (parts_by g.N.Naming.program) c.take.new.pass c.requires.pass c.args.ops.now c.take.result
    c.take.ensures.told c.take.ensures.none

pub returns-clause-err : goal.returns-clause-err
returns-clause-err g c =
    err_grew (parts_by g.N.Naming.program) c.take.new.pass c.requires.pass c.take.result c.take.ensures.err
