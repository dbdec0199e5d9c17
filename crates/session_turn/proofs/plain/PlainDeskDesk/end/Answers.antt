-- The end of a session is a call.
use Rattle.std.proofs.Common.{Some, refl}
use Rattle.behaviour_tree.specs.declared.words.Need.TheVariants as need
use Rattle.office_core.specs.declared.history.Act.TheVariants as act
use Rattle.office_plain.specs.Entries.{entry}
use Rattle.session_turn.proofs.Passing.{acts_in, called_ok, grew_err, ready_ok}
use Rattle.session_turn.proofs.plain.PlainDeskDesk.end.Goals as goal

pub end-requires : goal.end-requires
end-requires c = acts_in c.args.session need.Finish c.requires.pass c.requires.may

pub returns-clause-pass : goal.returns-clause-pass
returns-clause-pass c =
    ready_ok _ c.end.result (λ _. Some (entry c.args.session act.End)) (λ _. refl) c.requires.pass c.end.ensures.added
    c.end.ensures.ready

pub returns-clause-ended : goal.returns-clause-ended
returns-clause-ended c = called_ok c.args.session _ c.end.result (λ _. act.End) c.requires.pass c.end.ensures.added

pub returns-clause-err : goal.returns-clause-err
returns-clause-err c = grew_err _ c.args.session _ _ c.end.result c.end.ensures.unchanged
