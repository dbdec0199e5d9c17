-- The answer that a session takes is the outcome of its call.
use Rattle.behaviour_tree.specs.declared.words.Need.TheVariants as need
use Rattle.office_plain.specs.Entries.{answer_entry}
use Rattle.session_turn.proofs.Passing.{acts_in, answer_unstopped, answered_ok, grew_err, meets_in, ready_ok}
use Rattle.session_turn.proofs.plain.PlainDeskDesk.take_answer.Goals as goal

pub take_answer-requires-clause-acts : goal.take_answer-requires-clause-acts
take_answer-requires-clause-acts c =
    acts_in c.args.session (need.Answer c.args.call) c.requires.pass c.requires.may

pub take_answer-requires-clause-wanted : goal.take_answer-requires-clause-wanted
take_answer-requires-clause-wanted c =
    meets_in c.args.session (need.Answer c.args.call) c.requires.pass c.requires.may

pub returns-clause-pass : goal.returns-clause-pass
returns-clause-pass c =
    ready_ok _ c.take_answer.result (answer_entry c.args.session c.args.call)
    (answer_unstopped c.args.session c.args.call) c.requires.pass
    c.take_answer.ensures.added c.take_answer.ensures.ready

pub returns-clause-taken : goal.returns-clause-taken
returns-clause-taken c =
    answered_ok c.args.session _ c.args.call c.take_answer.result c.requires.pass c.take_answer.ensures.answer
    c.take_answer.ensures.added

pub returns-clause-err : goal.returns-clause-err
returns-clause-err c = grew_err _ c.args.session _ _ c.take_answer.result c.take_answer.ensures.unchanged
