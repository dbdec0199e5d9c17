-- A binding is a call with the reply of the office.
use Rattle.std.proofs.Common.{Some, refl}
use Rattle.behaviour_tree.specs.declared.words.Need.TheVariants as need
use Rattle.office_core.specs.declared.history.Act.TheVariants as act
use Rattle.office_plain.specs.Entries.{entry}
use Rattle.session_turn.proofs.Passing.{acts_in, called_ok, grew_err, meets_in, ready_ok}
use Rattle.session_turn.proofs.plain.PlainDeskDesk.bind.Goals as goal

pub bind-requires-clause-acts : goal.bind-requires-clause-acts
bind-requires-clause-acts c =
    acts_in c.args.session (need.Bind c.args.variable c.args.value) c.requires.pass c.requires.may

pub bind-requires-clause-has : goal.bind-requires-clause-has
bind-requires-clause-has c =
    meets_in c.args.session (need.Bind c.args.variable c.args.value) c.requires.pass c.requires.may

pub returns-clause-pass : goal.returns-clause-pass
returns-clause-pass c =
    ready_ok _ c.bind.result (λ r. Some (entry c.args.session (act.Bind c.args.variable c.args.value r))) (λ r. refl)
    c.requires.pass c.bind.ensures.added c.bind.ensures.ready

pub returns-clause-bound : goal.returns-clause-bound
returns-clause-bound c =
    called_ok c.args.session _ c.bind.result (λ r. act.Bind c.args.variable c.args.value r) c.requires.pass
    c.bind.ensures.added

pub returns-clause-err : goal.returns-clause-err
returns-clause-err c = grew_err _ c.args.session _ _ c.bind.result c.bind.ensures.unchanged
