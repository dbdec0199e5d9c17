-- A binding is a call with the office's reply.
use Rattle.std.proofs.Common.{◌≡◌, Some}
use Rattle.office_core.specs.declared.history.Act.TheVariants as act
use Rattle.office_core.specs.Legal.{bound}
use Rattle.office_plain.specs.Entries.{entry}
use Rattle.behaviour_tree.specs.declared.words.Need.TheVariants as need
use Rattle.office_sharing.specs.Named.{parts_by}
use Rattle.session_shared_turns.proofs.Calling.{called_ok, err_grew, may_ask, told_pass}
use Rattle.session_shared_turns.proofs.Staying.{acts_still, has_still}
use Rattle.session_shared_turns.proofs.desk.SharedDeskDesk.bind.Goals as goal

pub bind-requires-clause-calls : goal.bind-requires-clause-calls
bind-requires-clause-calls g c = c.requires.pass.calls

pub bind-requires-clause-acts : goal.bind-requires-clause-acts
bind-requires-clause-acts g c =
    acts_still (parts_by g.N.Naming.program) c.args.pass.now (need.Bind c.args.variable c.args.value)
    (may_ask (parts_by g.N.Naming.program) c.args.pass.now c.args.session (need.Bind c.args.variable c.args.value)
    c.requires.pass c.requires.may)

pub bind-requires-clause-has : goal.bind-requires-clause-has
bind-requires-clause-has g c =
    has_still (parts_by g.N.Naming.program) c.args.pass.now c.args.variable c.args.value
    (may_ask (parts_by g.N.Naming.program) c.args.pass.now c.args.session (need.Bind c.args.variable c.args.value)
    c.requires.pass c.requires.may)

pub returns-clause-pass : goal.returns-clause-pass
returns-clause-pass g c =
    told_pass (parts_by g.N.Naming.program) c.bind.new.pass c.requires.pass c.bind.result
    (λ x w past. Some x ≡ bound w past c.args.pass.now.number c.args.variable c.args.value)
    (λ x w past. Some (entry c.args.pass.now.number (act.Bind c.args.variable c.args.value x))) c.bind.ensures.told

pub returns-clause-bound : goal.returns-clause-bound
returns-clause-bound g c =
    called_ok (parts_by g.N.Naming.program) c.bind.new.pass c.requires.pass c.bind.result
    (λ x w past. Some x ≡ bound w past c.args.pass.now.number c.args.variable c.args.value)
    (λ x. act.Bind c.args.variable c.args.value x) c.bind.ensures.told

pub returns-clause-err : goal.returns-clause-err
returns-clause-err g c =
    err_grew (parts_by g.N.Naming.program) c.bind.new.pass c.requires.pass c.bind.result c.bind.ensures.err
