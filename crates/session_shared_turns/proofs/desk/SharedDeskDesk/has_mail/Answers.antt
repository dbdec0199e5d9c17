-- A look finds what would be taken.
use Rattle.behaviour_tree.specs.declared.words.Need.TheVariants as need
use Rattle.office_sharing.specs.Named.{parts_by}
use Rattle.session_shared_turns.proofs.Calling.{mail_there, may_ask, saw_grew, saw_pass}
use Rattle.session_shared_turns.proofs.Staying.{acts_still}
use Rattle.session_shared_turns.proofs.desk.SharedDeskDesk.has_mail.Goals as goal

pub has_mail-requires-clause-calls : goal.has_mail-requires-clause-calls
has_mail-requires-clause-calls g c = c.requires.pass.calls

pub has_mail-requires-clause-acts : goal.has_mail-requires-clause-acts
has_mail-requires-clause-acts g c =
    acts_still (parts_by g.N.Naming.program) c.args.pass.now (need.Take c.args.ops.now)
    (may_ask (parts_by g.N.Naming.program) c.args.pass.now c.args.session (need.Take c.args.ops.now) c.requires.pass
    c.requires.may)

pub returns-clause-pass : goal.returns-clause-pass
returns-clause-pass g c =
    saw_pass (parts_by g.N.Naming.program) c.has_mail.new.pass c.requires.pass c.has_mail.ensures.saw

pub returns-clause-grew : goal.returns-clause-grew
returns-clause-grew g c =
    saw_grew (parts_by g.N.Naming.program) c.has_mail.new.pass c.requires.pass c.has_mail.ensures.saw

pub returns-clause-exact : goal.returns-clause-exact
returns-clause-exact g c =
    mail_there (parts_by g.N.Naming.program) c.has_mail.new.pass c.requires.pass c.args.ops.now c.has_mail.result
    c.has_mail.ensures.found
