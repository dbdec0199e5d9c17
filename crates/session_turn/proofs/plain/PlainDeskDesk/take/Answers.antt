-- What a session takes is what the office gives it.
use Rattle.behaviour_tree.specs.declared.words.Need.TheVariants as need
use Rattle.office_plain.specs.Entries.{take_entry}
use Rattle.session_turn.proofs.Passing.{acts_in, grew_err, ready_ok, take_unstopped, taken_ok}
use Rattle.session_turn.proofs.plain.PlainDeskDesk.take.Goals as goal

pub take-requires : goal.take-requires
take-requires c = acts_in c.args.session (need.Take c.args.ops.now) c.requires.pass c.requires.may

pub returns-clause-pass : goal.returns-clause-pass
returns-clause-pass c =
    ready_ok _ c.take.result (take_entry c.args.session) (take_unstopped c.args.session) c.requires.pass
    c.take.ensures.added c.take.ensures.ready

pub returns-clause-taken : goal.returns-clause-taken
returns-clause-taken c =
    taken_ok c.args.session _ c.args.ops.now c.take.result c.requires.pass c.take.ensures.mail c.take.ensures.added

pub returns-clause-err : goal.returns-clause-err
returns-clause-err c = grew_err _ c.args.session _ _ c.take.result c.take.ensures.unchanged
